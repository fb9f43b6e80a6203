-- From all cells and a survey in which nothing is pending: a running graph in which nothing is due.
use Rattle.node_cells.proofs.Imports.{Board, Bool, ConsumerSees, EdgeEnd, EdgeEndHolds, EdgeState, Flags, HasEdge, Input, InputFollows, InputHolds, InputPort, IsBorn, IsPort, Lane, List, NodeView, None, Option, Output, OutputAllows, OutputFollows, OutputHolds, Port, PortsPicture, ProducerKnows, ProducerSees, Running, Sees, Some, Table, Wire, and_parts, ap, append-nil, append_assoc, arith, cases_Bool, cases_lt, chunks_in, chunks_of, edge_of, end_for, end_of, end_of_view, eqb-true, false, flags_at, has, inl, input_after, input_at, input_count, input_seen, inr, is_end, is_own_port, is_some, is_waiting, knows, lane_at, length, lifted_of, ne_eqb, node_at, output_after, output_at, output_count, output_seen, port_at, pulled_by, pushed_by, pushes_to, refl, rules, slot_in, subst, sym, true, view-end, wire_at, ℕ, ◌++◌, ◌<◌, ◌||◌, ◌∙◌, ◌≡◌, ◌⊎◌}
use Rattle.core_laws.specs.Views.{port_of}
use Rattle.exec_laws.specs.Names.{port_edge}
use Rattle.core_laws.specs.declared.types.PortState.{PortState}
use Rattle.std.proofs.Math.ListN.{get_or-eq_default}
use Rattle.node_ports.proofs.Shown.{end-side, end-there, is_input, passed, quiet-passed, quiet-seen, seen_at, sight}
use Rattle.std.specs.Prelude.{IsSome}
use Rattle.node_cells.specs.Ends.{SettledLaw, AreSettled, CellAtHome, WholeCell, edge_of_board, lifted_at, picture_of, unlifted}
use Rattle.exec_laws.proofs.Seeing.{port-below}
use Rattle.exec_laws.proofs.Nodes.{edge_ends_differ}
use Rattle.exec_laws.specs.Names.{NodeHolds as RunHolds}
use Rattle.exec_table.proofs.Stepping.{lane-full}
use Rattle.core_laws.proofs.Settled.{quiet-knows, quiet-node}
use Rattle.core_laws.proofs.Kept.{held-word}
use Rattle.core_laws.specs.Laws.{Knows}
use Rattle.core_laws.specs.Views.{counts, is_over, is_unborn}
use Rattle.exec_laws.specs.declared.edges.NodeStatus.TheVariants as node

-- ---- what ends know

input-follows : (p f : Flags) → ConsumerSees p f → InputFollows f p
input-follows p f s = grind (arith, and_parts)

output-follows : (p f : Flags) → ProducerSees p f → OutputFollows f p
output-follows p f s = record { fin_out = sym s.fin_out; fin_in = s.fin_in }

producer-knows : (p f : Flags) → Knows false f p → ProducerKnows f p
producer-knows p f k = record { needed = k.0; has_data = k.1; fin_out = k.2; fin_in = k.3 }

-- what the consumer lifted is the content
lifted-content : (n : ℕ) (w : Option Wire) (l : Lane) (s : Option (Option Table)) (c : Table)
    → is_end true n w ≡ true → lifted_of s (end_for n true w l).turn ≡ Some c
    → l.content ≡ Some c
lifted-content n w l s c h q = grind (arith, h, q)

consumer-chunks : (n : ℕ) (w : Option Wire) (l : Lane) → is_end true n w ≡ true
    → (end_for n true w l).chunks ≡ l.pulled
consumer-chunks n w l h = grind arith

producer-chunks : (n : ℕ) (w : Option Wire) (l : Lane) → is_end false n w ≡ true
    → is_end true n w ≡ false → (end_for n true w l).chunks ≡ l.pushed
producer-chunks n w l h k = grind arith

split-content : (x y : Option Table) → ((c : Table) → x ≡ Some c → y ≡ Some c)
    → chunks_in y ≡ chunks_of x ++ chunks_of (unlifted x y)
split-content x y h = grind arith

there-content : (x y : Option Table) → ((c : Table) → x ≡ Some c → y ≡ Some c)
    → is_some y ≡ (is_some x || is_some (unlifted x y))
there-content x y h = grind arith

one-content : (x y : Option Table) → is_some x ≡ true → unlifted x y ≡ None
one-content x y h = grind arith

-- an end that is known and has a wire has that of the port
end-wire : (n : ℕ) (w : Option Wire) (l : Lane) (x : Wire) → (end_for n true w l).wire ≡ Some x
    → w ≡ Some x
end-wire n w l x h = grind (arith, h)

-- a port that has a wire is one of the table's
wired-inside : (ports : List PortState) (e : ℕ) (x : Wire) → (port_of ports e).wire ≡ Some x
    → e < length ports
wired-inside ports e x h = grind (arith, cases_lt, get_or-eq_default)

zero-word : (w : ℕ) → counts w ≡ 0 → is_unborn w ≡ false → is_over w ≡ false → w ≡ 0
zero-word w c u o = eqb-true w 0 (grind (arith, c, u, o))

module _ (count : ℕ) (wires : List Wire) (table_edge : ℕ → ℕ) (b : Board)
    (cells : ℕ → WholeCell) (s : AreSettled count wires table_edge b cells) where
  abbrev at : ℕ → PortsPicture
  at n = (cells n).ports

  abbrev edge : ℕ → EdgeState
  edge e = edge_of_board wires table_edge b cells e

  -- ---- a node

  pub quiet-due : (n : ℕ) → n < count → IsBorn (cells n).box
      → is_waiting (cells n).mark.state ≡ false
  quiet-due n lt born = grind (
    arith,
    held-word,
    cases_Bool (is_waiting (cells n).mark.state),
    quiet-node b.core n s.pending s.board.laws.tokens,
  )

  idle : (n : ℕ) → n < count → IsBorn (cells n).box → (cells n).mark.state ≡ node.Resting
      → (node_at b.core n).word ≡ 0
  idle n lt born rest = grind (arith, zero-word, quiet-node b.core n s.pending s.board.laws.tokens)

  -- ---- an end of an edge

  module _ (e n : ℕ) (p : Port) (h : HasEdge wires n p e) where
    own-count : IsPort (input_count wires n) (output_count wires n) p
    own-count = port-below count wires s.graph n e p h

    there : n < count
    there = search (rules, s.graph)

    cell : CellAtHome wires table_edge n (cells n)
    cell = s.home n there (s.born e n p h)

    own : is_own_port (at n) p
    own = subst (λ (l : ℕ × ℕ). IsPort l.0 l.1 p) (λ j. (
      sym (cell.places.ins ∙ cell.places.numbers.ins) j,
      sym (cell.places.outs ∙ cell.places.numbers.outs) j,
    )) own-count

    -- the edge's number in the table
    abbrev d : ℕ
    d = table_edge e

    place-is : port_edge (cells n).inputs (cells n).outputs p ≡ e
    place-is = one-edge p (cell.places.numbers.at p own-count) h
      where
        one-edge : (p : Port) {f : ℕ} → HasEdge wires n p f → HasEdge wires n p e → f ≡ e
        one-edge (Input i) a b = s.graph.graph.so_far.inputs_once _ e a.in_range b.in_range
            (a.at_port.0 ∙ sym b.at_port.0, a.at_port.1 ∙ sym b.at_port.1)
        one-edge (Output o) a b = s.graph.graph.so_far.outputs_once _ e a.in_range b.in_range
            (a.at_port.0 ∙ sym b.at_port.0, a.at_port.1 ∙ sym b.at_port.1)

    -- it is that of the port
    edge-is : edge_of (at n) p ≡ d
    edge-is = cell.places.edge_is p own ∙ ap table_edge place-is

    known : knows d (node_at b.core n).seen ≡ true
    known = sym (ap (λ (v : NodeView). knows d v.state.seen) (s.seen n there))
        ∙ (ap (λ e. knows e (at n).node.state.seen) (sym edge-is)
        ∙ (cell.holds.ports.known p own).known)

    end : end_of_view (at n).node d ≡ end_for n true (port_at b.core d).wire (lane_at b d)
    end = ap (λ (v : NodeView). end_of_view v d) (s.seen n there)
        ∙ (view-end b n d s.board ∙ ap (λ k. end_for n k (port_at b.core d).wire (lane_at b d))
        known)

    wired : (port_at b.core d).wire ≡ Some (wire_at wires e)
    wired = end-wire n (port_at b.core d).wire (lane_at b d) (wire_at wires e)
        (ap (λ (z : EdgeEnd). z.wire) (sym end)
        ∙ (ap (λ e. (end_of_view (at n).node e).wire) (sym edge-is)
        ∙ (cell.places.wire_is p own ∙ ap (λ k. Some (wire_at wires k)) place-is)))

    inside : d < length b.core.ports
    inside = wired-inside b.core.ports d (wire_at wires e) wired

    same-flags : flags_at d (at n).node.state.seen ≡ flags_at d (node_at b.core n).seen
    same-flags = ap (λ (v : NodeView). flags_at d v.state.seen) (s.seen n there)

    abbrev side : Bool
    side = is_input p

    is : end_of side (wire_at wires e) ≡ n
    is = end-there (wire_at wires e) n p h.at_port

    on-side : is_end side n (port_at b.core d).wire ≡ true
    on-side = ap (is_end side n) wired ∙ end-side (wire_at wires e) n p h.at_port

    in-view : sight (at n).view p ≡ seen_at (at n) p
    in-view = quiet-seen (at n) cell.holds.ports (s.still n) p own

    -- what passed is what the board has of this end
    passed-here : passed (at n) p ≡ (end_for n true (port_at b.core d).wire (lane_at b d)).chunks
    passed-here = quiet-passed (at n) p own (s.still n) in-view
        ∙ (ap (λ e. (end_of_view (at n).node e).chunks) edge-is
        ∙ ap (λ (z : EdgeEnd). z.chunks) end)

    sees : Sees side (port_at b.core d).flags (flags_at d (at n).node.state.seen)
    sees = subst (λ f. Sees side (port_at b.core d).flags f)
        (ap (λ k. flags_at d (node_at b.core k).seen) is ∙ sym same-flags)
        ((s.board.laws.edges.each d inside).sees side (wire_at wires e) wired)

    knows-port : (cells n).mark.state ≡ node.Resting
        → Knows side (flags_at d (at n).node.state.seen) (port_at b.core d).flags
    knows-port rest = subst (λ f. Knows side f (port_at b.core d).flags)
        (ap (λ k. flags_at d (node_at b.core k).seen) is ∙ sym same-flags)
        (quiet-knows b.core d side (wire_at wires e) s.pending inside wired
        (ap (λ k. (node_at b.core k).word) is ∙ idle n there (s.born e n p h) rest)
        (ap (λ k. knows d (node_at b.core k).seen) is ∙ known)
        (ap (λ k. has d (node_at b.core k).unlooked) is
        ∙ (sym (ap (λ (v : NodeView). has d v.state.unlooked) (s.seen n there))
        ∙ ap (has d) (cell.home.looked rest))) s.board.laws)

  -- ---- the consumer's end

  module _ (e i : ℕ) (n : ℕ) (h : HasEdge wires n (Input i) e) where
    -- the edge's number in the table
    abbrev in-edge : ℕ
    in-edge = table_edge e

    abbrev lifted : Option Table
    lifted = lifted_at (at n) in-edge

    content : (c : Table) → lifted ≡ Some c → (lane_at b in-edge).content ≡ Some c
    content c q = lifted-content n (port_at b.core in-edge).wire (lane_at b in-edge)
        (slot_in in-edge (at n).slots) c (on-side e n (Input i) h)
        (ap (λ (z : EdgeEnd). lifted_of (slot_in in-edge (at n).slots) z.turn)
        (sym (end e n (Input i) h)) ∙ q)

    edge-chunk : (edge e).chunk ≡ unlifted lifted (lane_at b in-edge).content
    edge-chunk = ap (λ k. unlifted (lifted_at (at k) in-edge) (lane_at b in-edge).content)
        h.at_port.0

    input-seen : input_at (at n).view i ≡ input_seen (at n).node (at n).slots in-edge
    input-seen = in-view e n (Input i) h
        ∙ ap (input_seen (at n).node (at n).slots) (edge-is e n (Input i) h)

    filled : (port_at b.core in-edge).flags.has_data ≡ is_some (lane_at b in-edge).content
    filled = sym (lane-full (port_at b.core in-edge) (lane_at b in-edge)
        (s.board.laws.edges.each in-edge (inside e n (Input i) h)).content
        (s.board.lanes in-edge))

    pub input-end : EdgeEndHolds (Input i) (picture_of (cells n)) (edge e)
    input-end = subst (λ l. InputHolds (cells n).mark.state (input_at (at n).view i)
        (input_after i l (port_at b.core in-edge).flags) (edge e).chunk) (sym (s.still n)) record {
          follows = subst (λ (x : InputPort). InputFollows x.flags (port_at b.core in-edge).flags)
              (sym input-seen) (input-follows (port_at b.core in-edge).flags _
              (sees e n (Input i) h));
          data_there = filled ∙ (there-content lifted (lane_at b in-edge).content content
              ∙ λ j. is_some (sym input-seen j).chunk || is_some (sym edge-chunk j));
          one_chunk = λ q. edge-chunk ∙ one-content lifted (lane_at b in-edge).content
              (ap (λ (x : InputPort). is_some x.chunk) (sym input-seen) ∙ q);
          known = λ r. ap (λ (x : InputPort). x.flags) input-seen
              ∙ knows-port e n (Input i) h r;
        }

    -- what was pulled, with what lies in the view and in the edge
    pub pulled-there : (pulled_by (at n) i ++ chunks_of (input_at (at n).view i).chunk)
        ++ chunks_of (edge e).chunk ≡ (lane_at b in-edge).pushed
    unfolding input_at
    pulled-there = let pulled : pulled_by (at n) i ≡ (lane_at b in-edge).pulled =
        passed-here e n (Input i) h ∙ consumer-chunks n (port_at b.core in-edge).wire
        (lane_at b in-edge) (on-side e n (Input i) h) in
        (λ j. (pulled j ++ chunks_of (input-seen j).chunk) ++ chunks_of (edge-chunk j))
        ∙ (append_assoc (lane_at b in-edge).pulled _ _
        ∙ (ap (λ l. (lane_at b in-edge).pulled ++ l)
        (sym (split-content lifted (lane_at b in-edge).content content))
        ∙ sym (s.board.lanes in-edge).chunks))

  -- ---- the producer's end

  module _ (e o : ℕ) (n : ℕ) (h : HasEdge wires n (Output o) e) where
    abbrev out-edge : ℕ
    out-edge = table_edge e

    no-consumer : is_end true n (port_at b.core out-edge).wire ≡ false
    no-consumer = ap (is_end true n) (wired e n (Output o) h) ∙ ne_eqb (wire_at wires e).to n
        (λ k. edge_ends_differ count wires s.graph e h.in_range (h.at_port.0 ∙ sym k))

    out-view : output_at (at n).view o ≡ flags_at out-edge (at n).node.state.seen
    out-view = ap (λ (x : InputPort). x.flags) (in-view e n (Output o) h)
        ∙ ap (output_seen (at n).node) (edge-is e n (Output o) h)

    pub output-end : EdgeEndHolds (Output o) (picture_of (cells n)) (edge e)
    output-end = let f = (port_at b.core out-edge).flags in
        subst (λ l. OutputHolds (cells n).mark.state (output_at (at n).view o) (output_after o l f)
        × OutputAllows o l f) (sym (s.still n)) (
          record {
            follows = subst (λ x. OutputFollows x f) (sym out-view) (output-follows f _
                (sees e n (Output o) h));
            known = λ r. subst (λ x. ProducerKnows x f) (sym out-view) (producer-knows f _
                (knows-port e n (Output o) h r));
          },
          tt,
        )

    pub pushed-there : pushed_by (at n) o ≡ (lane_at b out-edge).pushed
    pushed-there = passed-here e n (Output o) h ∙ producer-chunks n (port_at b.core out-edge).wire
        (lane_at b out-edge) (on-side e n (Output o) h) no-consumer

  -- ---- the graph is running, and nothing is due

  cell-holds : (n : ℕ) → CellAtHome wires table_edge n (cells n)
      → RunHolds wires n (picture_of (cells n)) (pulled_by (at n)) (pushed_by (at n))
  cell-holds n c = grind arith

  pub settled-running : Running count wires (λ n. picture_of (cells n)) edge
  unfolding pushes_to
  settled-running = record {
    graph = s.graph;
    pulled = λ n. pulled_by (at n);
    pushed = λ n. pushed_by (at n);
    each = λ n lt born. cell-holds n (s.home n lt born);
    unborn = s.unborn;
    born = s.born;
    ends = λ e n p h. end-holds e n p h;
    lists = λ e lt.
        let w : Wire = wire_at wires e in
        let from : HasEdge wires w.from (Output w.out) e =
        record { in_range = lt; at_port = (refl, refl) } in
        let to : HasEdge wires w.to (Input w.input) e =
        record { in_range = lt; at_port = (refl, refl) } in
        pushed-there e w.out w.from from ∙ (sym (pulled-there e w.input w.to to)
        ∙ (sym (append-nil _) ∙ λ j. ((pulled_by (at w.to) w.input
        ++ chunks_of (input_at (at w.to).view w.input).chunk) ++ chunks_of (edge e).chunk)
        ++ pushes_to w.out (sym (s.still w.from) j)));
  }
    where
      end-holds : (e n : ℕ) (p : Port) → HasEdge wires n p e
          → EdgeEndHolds p (picture_of (cells n)) (edge e)
      end-holds e n (Input i) h = input-end e i n h
      end-holds e n (Output o) h = output-end e o n h

pub settled-law : SettledLaw
settled-law count wires table_edge b cells s = record {
  running = settled-running count wires table_edge b cells s;
  quiet = s.still;
  due = λ n lt. elim (cases_Option (cells n).box.spec) [
    | inl born ↦ quiet-due count wires table_edge b cells s n lt born
    | inr none ↦ ap is_waiting (s.unborn n lt none)
  ];
}
  where
    cases_Option : {A : Type 0} (x : Option A) → IsSome x ⊎ (x ≡ None)
    cases_Option None = inr refl
    cases_Option (Some y) = grind arith
