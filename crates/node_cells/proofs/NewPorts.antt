-- The ports of a new table's node are those of its seat, and nothing passed over them.
use Rattle.node_cells.proofs.Imports.{Bool, HasEdge, Input, List, NodeView, None, Output, Port, PortsHold, PortsPicture, Some, Wire, [], arith, cases_Bool, cases_lt, chunks_on, edge_of, edges_of, end_of_view, eq-eqb, eqb-true, false, flags_at, has, has-filter, inl, inr, input_at, input_count, is_own_port, knows, length, output_at, output_count, pulled_by, pushed_by, pushes_to, refl, shown, subst, sym, true, wire_at, ℕ, ◌+◌, ◌<◌, ◌≡◌, ◌≤◌}
use Rattle.core_laws.proofs.Starts.{learned-start}
use Rattle.core_laws.specs.Start.{fresh_sight, start, start_node}
use Rattle.core_laws.specs.Views.{names}
use Rattle.port_word.specs.Pictures.{no_flags}
use Rattle.core_laws.specs.declared.types.Sight.{Sight}
use Rattle.core_laws.specs.declared.types.Sizes.{Sizes}
use Rattle.exec_laws.proofs.Seeing.{port-below}
use Rattle.exec_laws.proofs.Starting.{new-view}
use Rattle.exec_laws.specs.Names.{AreEdgesOf, HoldsGraph, IsEnd, peer, port_edge}
use Rattle.exec_laws.specs.Prelude.{new_picture, no_lists}
use Rattle.exec_table.specs.Boards.{end_view, no_end, no_lane, node_view}
use Rattle.exec_table.specs.Rule.{start_board}
use Rattle.exec_table.specs.Words.{edge_count}
use Rattle.node_cells.proofs.SizeLaws.{one-rank}
use Rattle.node_cells.specs.NewCells.{AreEdgesAndPeers, IsGraphOfNodes, all_updated}
use Rattle.node_ports.specs.Ports.{HasPortOf, PortKnown}
use Rattle.port_word.proofs.Fitting.{sound-new}
use Rattle.proc_api.specs.Names.{no_wire}
use Rattle.std.proofs.Common.{map, suc, zero, ◌∷◌}
use Rattle.std.proofs.Math.ListN.{get_or}
use Rattle.std.proofs.lemmas.List.{get_or-replicate, get_or_past, length-replicate}
use Rattle.std.proofs.lemmas.List.FromFn.{get_or-map-range_with_len, length-map-range_with_len}
use Rattle.std.specs.List.{filter, range_with_len}
use Rattle.std.specs.Prelude.{replicate, ◌==◌}

-- ---- what a node of a new table knows

edges-fresh : (p : Sight → Bool) (l : List ℕ)
    → edges_of (filter p (map fresh_sight l)) ≡ filter (λ e. p (fresh_sight e)) l
edges-fresh p [] = refl
edges-fresh p (x ∷ xs) = grind (arith, edges-fresh p xs)

flags-fresh : (e : ℕ) (p : Sight → Bool) (l : List ℕ)
    → flags_at e (filter p (map fresh_sight l)) ≡ no_flags
flags-fresh e p [] = refl
flags-fresh e p (x ∷ xs) = grind (arith, flags-fresh e p xs)

has-range : (a n e : ℕ) → a ≤ e → e < a + n → has e (range_with_len a n) ≡ true
has-range a zero e le lt = absurd (omega (arith, le, lt))
has-range a (suc n) e le lt = grind (arith, le, lt, has-range (a + 1) n e)

lane-none : {A : Type 0} (ps : List A) (e : ℕ) → get_or (map (λ _. no_lane) ps) e no_lane ≡ no_lane
lane-none (p ∷ ps) (suc e) = lane-none ps e
lane-none ps e = grind arith

map-same : {A B : Type 0} (f : A → B) (b : B) → ((a : A) → f a ≡ b)
    → (l : List A) (n : ℕ) → length l ≡ n → map f l ≡ replicate n b
map-same f b h (a ∷ l) (suc n) e = grind (arith, h a, map-same f b h l n (omega (arith, e)))
map-same f b h l n e = grind arith

module _ (s : Sizes) (n : ℕ) (inside : n < s.nodes) where
  abbrev here : NodeView
  here = node_view (start_board s) n

  pub state-start : here.state ≡ record (start_node s n) { word = 0 }
  state-start = grind (arith, get_or-map-range_with_len)

  flags-start : (e : ℕ) → flags_at e here.state.seen ≡ no_flags
  flags-start e = grind (arith, state-start, flags-fresh)

  end-start : (e : ℕ) → e < edge_count s → end_of_view here e ≡ end_view (start_board s) n e
  end-start e lt = grind (arith, get_or-map-range_with_len)

  past-start : (e : ℕ) → edge_count s ≤ e → end_of_view here e ≡ no_end
  past-start e le = grind (arith, get_or_past, length-map-range_with_len)

  chunks-start : (e : ℕ) → (end_of_view here e).chunks ≡ []
  chunks-start e =
      grind (arith, end-start, past-start, cases_lt e (edge_count s), lane-none (start s).ports e)

  chunks-none : (edges : List ℕ) (k : ℕ) → chunks_on here edges k ≡ []
  chunks-none (e ∷ es) (suc k) = chunks-none es k
  chunks-none edges k = grind (arith, chunks-start)

  knows-start : (e : ℕ) → e < length s.wires → names n (Some (get_or s.wires e no_wire)) ≡ true
      → knows e here.state.seen ≡ true
  knows-start e lt named = grind (arith, state-start, edges-fresh, has-filter, has-range)

  wire-start : (e : ℕ) → e < length s.wires → names n (Some (get_or s.wires e no_wire)) ≡ true
      → (end_of_view here e).wire ≡ Some (get_or s.wires e no_wire)
  wire-start e lt named = grind (arith, get_or-map-range_with_len, end-start, knows-start)

  -- of an edge at which it isn't it has nothing
  bare-start : (e : ℕ) → knows e here.state.seen ≡ false → end_of_view here e ≡ no_end
  bare-start e un = grind (
    arith,
    cases_lt,
    get_or-map-range_with_len,
    end-start,
    cases_Bool,
    get_or,
    knows-start,
    past-start,
  )

-- ---- the ports

module _ (s : Sizes) (n : ℕ) (inside : n < s.nodes) (g : IsGraphOfNodes s.nodes s.wires s.reserves)
    (inputs outputs sources targets : List ℕ)
    (ins : AreEdgesAndPeers s.wires n true (input_count s.wires n) inputs sources)
    (outs : AreEdgesAndPeers s.wires n false (output_count s.wires n) outputs targets) where
  abbrev many_in : ℕ
  many_in = input_count s.wires n

  abbrev many_out : ℕ
  many_out = output_count s.wires n

  abbrev pub new_ports_picture : PortsPicture
  new_ports_picture = record {
    node = node_view (start_board s) n;
    slots = [];
    view = new_picture many_in many_out;
    inputs = inputs;
    outputs = outputs;
    sources = sources;
    targets = targets;
    needed = replicate many_in false;
    updated = all_updated;
  }

  abbrev c : PortsPicture
  c = new_ports_picture

  holds-graph : HoldsGraph s.nodes s.wires
  holds-graph = grind arith

  pub new-edges : AreEdgesOf s.wires n inputs outputs
  new-edges = grind arith

  edge-there : (p : Port) → is_own_port c p → HasEdge s.wires n p (edge_of c p)
  edge-there p lt = grind arith

  other-there : (p : Port) → is_own_port c p
      → port_edge sources targets p ≡ peer (wire_at s.wires (edge_of c p)) p
  other-there p lt = grind arith

  named-end : (w : Wire) (p : Port) → IsEnd w n p → names n (Some w) ≡ true
  named-end w p h = grind (arith, eq-eqb)

  one-edge : (e f : ℕ) (p : Port) → HasEdge s.wires n p e → HasEdge s.wires n p f → e ≡ f
  one-edge e f p a b = grind arith

  own-port : (e : ℕ) (p : Port) → HasEdge s.wires n p e → is_own_port c p
  own-port e (Input i) h = subst (λ k. i < k) (sym ins.edges_len)
      (port-below s.nodes s.wires holds-graph n e (Input i) h)
  own-port e (Output o) h = subst (λ k. o < k) (sym outs.edges_len)
      (port-below s.nodes s.wires holds-graph n e (Output o) h)

  port-covers : (e : ℕ) (p : Port) → HasEdge s.wires n p e → HasPortOf c e
  port-covers e p h = grind (arith, own-port, one-edge, edge-there)

  known-there : (p : Port) → is_own_port c p → PortKnown c p
  unfolding wire_at
  known-there p own = grind (
    arith,
    named-end,
    knows-start,
    wire-start,
    one-rank,
    edge-there p own,
    other-there p own,
  )

  -- each edge has its wire of the graph
  pub new-wires : (p : Port) → is_own_port c p
      → (end_of_view c.node (edge_of c p)).wire ≡ Some (wire_at s.wires (edge_of c p))
  unfolding wire_at
  new-wires p own = grind (arith, edge-there, wire-start, named-end)

  covers : (e : ℕ) → knows e c.node.state.seen ≡ true → HasPortOf c e
  unfolding wire_at
  covers e k =
      let l = learned-start s e n k in
      let w = wire_at s.wires e in
      elim (cases_Bool (w.to == n)) [
        | inl to ↦ port-covers e (Input w.input)
            record { in_range = l.0; at_port = (eqb-true _ _ to, refl) }
        | inr none ↦ port-covers e (Output w.out)
            record { in_range = l.0; at_port = (eqb-true _ _ (grind (arith, l.1, none)), refl) }
      ]

  shown-new : shown c ≡ new_picture many_in many_out
  shown-new = grind (arith, map-same, flags-start s n inside)

  chunk-none : (i : ℕ) → (input_at (new_picture many_in many_out) i).chunk ≡ None
  unfolding input_at
  chunk-none i = grind (arith, cases_lt, get_or-replicate, get_or_past, length-replicate)

  pub nothing-pulled : pulled_by c ≡ no_lists
  nothing-pulled = λ j i. none i j
    where
      none : (i : ℕ) → pulled_by c i ≡ []
      none i = search (arith, shown-new, chunk-none, chunks-none)

  pub nothing-pushed : pushed_by c ≡ no_lists
  unfolding pushes_to
  nothing-pushed = λ j o. none o j
    where
      none : (o : ℕ) → pushed_by c o ≡ []
      none o = grind (arith, chunks-none s n inside outputs o)

  pub new-ports : PortsHold c
  unfolding input_at output_at
  new-ports = grind (
    arith,
    known-there,
    covers,
    get_or-replicate,
    length-replicate,
    shown-new,
    cases_lt,
    get_or_past,
    new-view many_in many_out,
    bare-start s n inside,
    state-start s n inside,
    flags-start s n inside,
    sound-new many_in many_out,
  )
