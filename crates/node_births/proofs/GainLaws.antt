-- Ports that a node gets one after another.
use Rattle.node_births.proofs.Imports.{Bool, Gains, GainsPort, GainsPorts, HasEdge, HasNewWire, Input, List, MayGain, Output, Picture, Port, PortsPicture, Wire, [], after_grow, ap, append_assoc, arith, cases_lt, edge_of, edges_on, false, in_count, is_own_port, length, length-append, length-replicate, lists-both, new_input, no_flags, not, out_count, place, port_edge, port_of_side, refl, replicate, replicate-append-replicate, true, view, wire_at, with_input, with_output, ℕ, ◌&&◌, ◌++◌, ◌+◌, ◌-◌, ◌<◌, ◌==◌, ◌∙◌, ◌∷◌, ◌≡◌, ◌≤◌}
use Rattle.node_births.proofs.MorePorts.{new-number, side}

-- ---- a view with more ports

longer : {A : Type 0} (xs : List A) (x : A) (m n : ℕ) → length xs ≤ m → m ≤ n
    → (xs ++ replicate (m - length xs) x)
    ++ replicate (n - length (xs ++ replicate (m - length xs) x)) x
    ≡ xs ++ replicate (n - length xs) x
longer xs x m n le more = let len : length (xs ++ replicate (m - length xs) x) ≡ m = length-append
    xs (replicate (m - length xs) x) ∙ (omega (arith, length-replicate (m - length xs) x, le)) in
    append_assoc xs (replicate (m - length xs) x) _ ∙ ap (λ l. xs ++ l) (replicate-append-replicate
    (m - length xs) _ x ∙ ap (λ k. replicate k x) (omega (arith, len, le, more)))

grown-twice : (v : Picture) (a b m n : ℕ) → in_count v ≤ a → out_count v ≤ b → a ≤ m → b ≤ n
    → after_grow (after_grow v a b) m n ≡ after_grow v m n
unfolding in_count out_count
grown-twice v a b m n le_in le_out more_in more_out = λ j. record {
  inputs = longer v.inputs new_input a m le_in more_in j;
  outputs = longer v.outputs no_flags b n le_out more_out j;
  actions = v.actions;
}

-- ---- more ports

gains-own : (c d : PortsPicture) → Gains c d → (q : Port) → is_own_port c q → is_own_port d q
gains-own c d g (Input i) lt = let le = g.inputs in omega (arith, lt, le)
gains-own c d g (Output o) lt = let le = g.outputs in omega (arith, lt, le)

pub gains-both : (a b c : PortsPicture) → MayGain a → Gains a b → Gains b c → Gains a c
gains-both a b c may h k = record {
  may = k.may;
  lists = lists-both a b c h.lists k.lists;
  inputs = omega (arith, h.inputs, k.inputs);
  outputs = omega (arith, h.outputs, k.outputs);
  edges = λ q own. k.edges q (gains-own a b h q own) ∙ h.edges q own;
  wires = λ q own. grind (arith, gains-own, c.node, h.edges, k.wires, b.node, h.wires);
  view = k.view ∙ (ap (λ v. after_grow v (length c.inputs) (length c.outputs)) h.view ∙
      grown-twice _ _ _ _ _ (omega (arith, may.holds.ins, h.inputs))
      (omega (arith, may.holds.outs, h.outputs)) k.inputs k.outputs);
  number = k.number ∙ h.number;
  stage = k.stage ∙ h.stage;
  held = k.held ∙ h.held;
  tokens = k.tokens ∙ h.tokens;
  owes = k.owes ∙ h.owes;
}

-- ---- ports of a side among wires

-- the port that comes next
side-next : (consumer : Bool) (c : PortsPicture) →
    let p : Port = port_of_side consumer (length (edges_on consumer c)) in
    place p ≡ length (side p c.inputs c.outputs)
side-next true c = refl
side-next false c = refl

side-more : (consumer : Bool) (c d : PortsPicture) (k e : ℕ)
    → d.inputs ≡ with_input (port_of_side consumer k) c.inputs e
    → d.outputs ≡ with_output (port_of_side consumer k) c.outputs e
    → (length (edges_on consumer d) ≡ length (edges_on consumer c) + 1)
    × (edges_on (not consumer) d ≡ edges_on (not consumer) c)
side-more true c d k e ins outs = (ap length ins ∙ length-append c.inputs (e ∷ []), outs)
side-more false c d k e ins outs = (ap length outs ∙ length-append c.outputs (e ∷ []), ins)

pub one-port : (consumer : Bool) (first : ℕ) (wires : List Wire) (k : ℕ) (c d : PortsPicture)
    → HasEdge wires c.node.number (port_of_side consumer (length (edges_on consumer c))) k
    → GainsPort (port_of_side consumer (length (edges_on consumer c))) (first + k)
    (wire_at wires k) c d → GainsPorts consumer first wires 1 c d
one-port consumer first wires k c d has g =
    let p : Port = port_of_side consumer (length (edges_on consumer c)) in
    let both = side-more consumer c d (length (edges_on consumer c)) (first + k) g.inputs
    g.outputs in
    let edge : edge_of d p ≡ first + k = (λ j. port_edge (g.inputs j) (g.outputs j) p) ∙ new-number
    p c.inputs c.outputs (first + k) (side-next consumer c) in record {
      gains = g.gains;
      more = both.0;
      others = both.1;
      each = λ i le lt. grind (arith, lt, both.0, g.gains.number, d.node, g.wire);
    }

-- a port keeps its wire
pub kept-wire : (first : ℕ) (wires : List Wire) (c d : PortsPicture) → Gains c d → (p : Port)
    → is_own_port c p → HasNewWire first wires c p → HasNewWire first wires d p
kept-wire first wires c d g p own x =
    grind (arith, x.place, g.number, x.has_edge, g.edges, x.edge_is, d.node, g.wires, x.wire_is)

pub ports-both : (consumer : Bool) (first : ℕ) (wires : List Wire) (j k : ℕ)
    (a b c : PortsPicture) → MayGain a → GainsPorts consumer first wires j a b
    → GainsPorts consumer first wires k b c → GainsPorts consumer first wires (j + k) a c
ports-both consumer first wires j k a b c may h g = let less = h.more in record {
  gains = gains-both a b c may h.gains g.gains;
  more = omega (arith, less, g.more);
  others = g.others ∙ h.others;
  each = λ i le lt.
      grind (arith, cases_lt i (length (edges_on consumer b)), g.gains, h.each, g.each);
}
