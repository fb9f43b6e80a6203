-- The state at the start meets the laws.
use Rattle.core_laws.proofs.Imports.{AllPass-from_list_all, AreEdgesOnce, Bool, EdgeHolds, Edges, Flags, Laws, List, NodeState, NodeStateHolds, Nodes, Sees, Sight, Sizes, Some, TokensHold, Wire, WordHolds, [], and_parts, ap, arith, both_ways, cases_lt, cond_both, counts, edges_of, end_of, false, filter, fits, flags_at, fresh_sight, get_or, get_or-map-range_with_len, get_or_past, has, is_end_among, knows, lacks, leb, length, length-map-range_with_len, ltb, map, names, no_flags, no_node, no_wire, node_at, port_at, range_with_len, refl, reserved_edge_count, start, start_node, start_port, start_word, subst, suc, sum_by, sum_by-cons, sym, true, weight, wire_fits, wire_ok, zero, ℕ, ◌&&◌, ◌+◌, ◌<◌, ◌∙◌, ◌∷◌, ◌≡◌, ◌≤◌}
use Rattle.core_laws.proofs.Lists.{has-filter, once-cons, once-filter, once-none}
use Rattle.core_laws.proofs.Bits.{word-one, word-idle}
use Rattle.core_laws.proofs.Moves.{same-flags, lacks-none}

-- ---- ports and nodes

-- there is a port for each edge
pub ports-length : (s : Sizes) → length (start s).ports
    ≡ length s.wires + reserved_edge_count s.reserves
ports-length s = length-map-range_with_len (start_port s) 0 _

port-start : (s : Sizes) (e : ℕ) → e < length (start s).ports
    → port_at (start s) e ≡ start_port s e
port-start s e i = grind (arith, get_or-map-range_with_len, ports-length)

-- what holds of each node at the start, and of none
pub all-nodes : (s : Sizes) (P : ℕ → NodeState → Type 0) → ((m : ℕ) → P m (start_node s m))
    → ((m : ℕ) → P m no_node) → (m : ℕ) → P m (node_at (start s) m)
all-nodes s P here past m =
    grind (arith, cases_lt, get_or-map-range_with_len, get_or_past, length-map-range_with_len)

-- ---- views

edges-fresh : (p : Sight → Bool) (l : List ℕ)
    → edges_of (filter p (map fresh_sight l)) ≡ filter (λ e. p (fresh_sight e)) l
edges-fresh p [] = refl
edges-fresh p (x ∷ xs) = grind (arith, edges-fresh p xs)

flags-fresh : (e : ℕ) (p : Sight → Bool) (l : List ℕ)
    → flags_at e (filter p (map fresh_sight l)) ≡ no_flags
flags-fresh e p [] = refl
flags-fresh e p (x ∷ xs) = grind (arith, flags-fresh e p xs)

has-range : (a n e : ℕ) → has e (range_with_len a n) ≡ (leb a e && ltb e (a + n))
has-range a zero e = grind arith
has-range a (suc n) e = grind (arith, has-range (a + 1) n e)

once-range : (a n : ℕ) → AreEdgesOnce (range_with_len a n)
once-range a zero = once-none
once-range a (suc n) = grind (arith, once-cons, has-range, once-range (a + 1) n)

-- a node knows the wires that name it
pub learned-start : (s : Sizes) (e m : ℕ) → knows e (node_at (start s) m).seen ≡ true
    → (e < length s.wires) × (names m (Some (get_or s.wires e no_wire)) ≡ true)
learned-start s e = all-nodes s (λ m y. knows e y.seen ≡ true
    → (e < length s.wires) × (names m (Some (get_or s.wires e no_wire)) ≡ true))
    (λ m z. let all = range_with_len 0 (length s.wires) in
    let p = is_end_among m s.wires in
    let x = and_parts _ _ (sym (ap (has e) (edges-fresh p all)
    ∙ has-filter (λ e. p (fresh_sight e)) all e) ∙ z) in
    let y = x.1 in (grind (arith, y, has-range 0 (length s.wires) e), x.0))
    (λ m z. absurd (both_ways false refl z))

no-flags : (s : Sizes) (e m : ℕ) → flags_at e (node_at (start s) m).seen ≡ no_flags
no-flags s e =
    all-nodes s (λ _ y. flags_at e y.seen ≡ no_flags)
    (λ m. flags-fresh e (is_end_among m s.wires) (range_with_len 0 (length s.wires))) (λ _. refl)

word-start : (s : Sizes) (n : ℕ) → WordHolds (start_word s n) false
word-start s n =
    grind (arith, cond_both, word-idle, word-one 61 false refl refl, word-one 60 false refl refl)

node-start : (s : Sizes) (n : ℕ) → NodeStateHolds (start_node s n)
node-start s n =
    search (arith, word-start, both_ways, once-filter, once-range, edges-fresh, once-none)

-- ---- the laws

wire-in : (s : Sizes) (e : ℕ) → e < length s.wires
    → (start_port s e).wire ≡ Some (get_or s.wires e no_wire)
wire-in s e l = grind arith

wire-is : (s : Sizes) (e : ℕ) (w : Wire) → (start_port s e).wire ≡ Some w
    → (e < length s.wires) × (get_or s.wires e no_wire ≡ w)
wire-is s e w q = grind (arith, cases_lt, wire-in)

wire-sound : (s : Sizes) (e : ℕ) → fits s ≡ true → e < length s.wires
    → wire_ok s.nodes (get_or s.wires e no_wire) ≡ true
wire-sound s e fit l = (and_parts _ _ (AllPass-from_list_all (wire_fits s) s.wires
    (and_parts _ _ (and_parts _ _ (and_parts _ _ fit).1).0).0 e no_wire l)).0

pub start-edges : (s : Sizes) → fits s ≡ true → Edges (start s)
start-edges s fit = record {
  count = ports-length s;
  known = λ n e k. let l = (learned-start s e n k).0 in
      let z = ports-length s in omega (arith, l, z);
  each = λ e i. subst (λ p. EdgeHolds s (start s).nodes e p) (sym (port-start s e i)) (record {
    wired = record {
      sound = λ w q. let x = wire-is s e w q in
          subst (λ z. wire_ok s.nodes z ≡ true) x.1 (wire-sound s e fit x.0);
      fixed = wire-in s e;
      placed = λ m w q. let x = (wire-is s e w q).0 in absurd (omega arith);
    };
    content = record { chunks = refl; has_data = refl };
    bare = λ _. (refl, refl);
    sees = λ b w _. subst (λ f. Sees b no_flags f) (sym (no-flags s e (end_of b w)))
        (same-flags b no_flags);
    learned = λ m k. let x = learned-start s e m k in ap (names m) (wire-in s e x.0) ∙ x.1;
  });
}

pub start-nodes : (s : Sizes) → Nodes (start s)
start-nodes s = record {
  number = length-map-range_with_len (start_node s) 0 s.nodes;
  each = all-nodes s (λ _ y. NodeStateHolds y) (node-start s) (λ _. record {
    word = word-idle;
    owes = λ e z. absurd (both_ways false refl z);
    unlooked = λ e z. z;
    each_once = (once-none, once-none, once-none);
  });
  told = λ e i b w q z. absurd (both_ways _ (lacks-none b no_flags)
      (subst (λ (y : Flags × Flags). lacks b y.0 y.1 ≡ true)
      (λ j. ((port-start s e i j).flags, no-flags s e (end_of b w) j)) z));
}

total-start : (s : Sizes) (l : List ℕ)
    → sum_by counts (map (start_word s) l) ≡ sum_by weight (map (start_node s) l)
total-start s [] = refl
total-start s (x ∷ xs) = search (arith, sum_by-cons, total-start s xs)

pub start-tokens : (s : Sizes) → TokensHold (start s)
start-tokens s = record {
  pending = total-start s (range_with_len 0 s.nodes);
  few = all-nodes s (λ _ y. y.tokens ≤ 2) (λ _. omega arith) (λ _. omega arith);
}

-- all of them
pub start-laws : (s : Sizes) → fits s ≡ true → Laws (start s)
start-laws s fit = search (arith, start-edges, start-nodes, start-tokens)
