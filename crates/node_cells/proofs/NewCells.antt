-- The cells of a new table: one of a fresh processor may begin, and one of a blank one is kept.
use Rattle.node_cells.proofs.Imports.{BoxHolds, BoxPicture, Identity, Input, IsPort, List, Lists, MarkHolds, NodeCell, CellNodeHolds, NodeView, Output, Picture, Port, PortsHold, SeatState, Wire, [], ap, arith, cases_Bool, cell_ports, cond, eq-eqb, false, identity_of, inl, inr, input_count, is_over_stage, is_unborn_stage, length, length-map, output_count, pulled_by, pushed_by, refl, subst, sym, true, view, wire_at, ℕ, ◌++◌, ◌<◌, ◌∙◌, ◌≡◌, ◌⊎◌, PortsPicture, Some, edge_of, end_of_view, is_own_port}
use Rattle.core_laws.specs.Start.{start_node}
use Rattle.core_laws.specs.declared.types.Sizes.{Sizes}
use Rattle.exec_laws.specs.Names.{AreEdgesOf}
use Rattle.exec_laws.specs.Prelude.{IsBlank, IsFresh, Reserve, new_picture, no_box, no_lists}
use Rattle.exec_laws.specs.declared.edges.NodeMark.{NodeMark}
use Rattle.exec_laws.specs.declared.edges.NodeStatus.TheVariants as node
use Rattle.exec_table.specs.Made.{IsNewTable, IsOpen}
use Rattle.exec_table.specs.Rule.{start_stage}
use Rattle.exec_table.specs.Seats.{IsRootOf, sizes_in}
use Rattle.exec_table.specs.declared.make.Made.{Made}
use Rattle.exec_table.specs.declared.rule.ExecTable.{ExecTable}
use Rattle.exec_table.specs.declared.rule.NodeSeat.{NodeSeat}
use Rattle.exec_table.specs.declared.rule.RootSeat.{RootSeat}
use Rattle.exec_table.specs.declared.types.Stage.TheVariants.{Born, Unborn}
use Rattle.node_cells.proofs.NewPorts.{new-edges, new-ports, new_ports_picture, nothing-pulled, nothing-pushed, state-start, new-wires}
use Rattle.node_cells.specs.NewCells.{AreNewCells, AreNewNodes, AreNewPorts, AreNewReserves, Fills, HasEdgeAt, HasPortsWithinLimits, IsGraphOfNodes, IsNewCell, IsNewNodeAt, ends_at, first_mark, node_of_cell, sizes_of}
use Rattle.node_cells.specs.Stored.{AwaitsBirth, StoredAs}
use Rattle.node_cells.specs.Turns.{MayBegin}
use Rattle.node_cells.specs.declared.new_cells.Cells.{Cells}
use Rattle.node_cells.specs.declared.new_cells.NewNode.{NewNode}
use Rattle.proc_api.proofs.Follows.{follows-new, position-still}
use Rattle.proc_api.proofs.Graphs.{few-inputs, few-outputs, input-of-count, output-of-count}
use Rattle.proc_api.specs.Reserves.{AreStarting, StartsAs, is_reserved}
use Rattle.std.proofs.Common.{map, suc, ◌∷◌}
use Rattle.std.proofs.Math.ListN.{get_elem?, get_or}
use Rattle.std.proofs.lemmas.Bool.{and_from, both_ways}
use Rattle.std.proofs.lemmas.List.FromFn.{get_or-map-range_with_len}
use mathlib.Core.Option.{some, some-injective, some-ne-none}

-- a fresh box keeps its contract where nothing passed
pub fresh-box : (p : BoxPicture) (ins outs : ℕ) → IsFresh p → BoxHolds ins outs p no_lists no_lists
fresh-box p ins outs fresh = grind (arith, position-still)

module _ {P : Type 0} (seen : P → BoxPicture) (t : Identity)
    (g : IsGraphOfNodes t.sizes.nodes t.sizes.wires t.sizes.reserves) (n : ℕ)
    (inside : n < t.sizes.nodes) (x : NodeCell P) (seat : IsOpen t n x.seat)
    (new : AreNewPorts t.sizes.wires n x.ports) where
  abbrev box : BoxPicture
  box = seen x.processor

  abbrev many_in : ℕ
  many_in = input_count t.sizes.wires n

  abbrev many_out : ℕ
  many_out = output_count t.sizes.wires n

  first-ports : cell_ports x ≡ new_ports_picture t.sizes n inside g x.ports.inputs.items
      x.ports.outputs.items x.ports.sources.items x.ports.targets.items new.inputs new.outputs
  first-ports = grind arith

  new-numbers : AreEdgesOf t.sizes.wires n x.ports.inputs.items x.ports.outputs.items
  new-numbers = new-edges t.sizes n inside g _ _ _ _ new.inputs new.outputs

  fresh-node : IsFresh box → (m : NodeMark) → m.state ≡ node.Due
      → CellNodeHolds box m (cell_ports x)
  fresh-node fresh m due = subst (CellNodeHolds box m) (sym first-ports) record {
    ports = new-ports t.sizes n inside g _ _ _ _ new.inputs new.outputs;
    box = subst (λ (z : ℕ × (ℕ × (Lists × Lists))). BoxHolds z.0 z.1.0 box z.1.1.0 z.1.1.1) (λ j. (
      sym new.inputs.edges_len j,
      (
        sym new.outputs.edges_len j,
        (
          sym (nothing-pulled t.sizes n inside g _ _ _ _ new.inputs new.outputs) j,
          sym (nothing-pushed t.sizes n inside g _ _ _ _ new.inputs new.outputs) j,
        ),
      ),
    )) (fresh-box box many_in many_out fresh);
    kept = λ _. follows-new box many_in many_out fresh.notes;
    mark = subst (λ k. MarkHolds k m.last (length x.ports.inputs.items)
        (length x.ports.outputs.items) box (new_picture many_in many_out)) (sym due) tt;
  }

  state-is : (view x.seat).state ≡ record (start_node t.sizes n) { word = 0 }
  state-is = ap (λ (v : NodeView). v.state) seat.1 ∙ state-start t.sizes n inside

  stage-is : (view x.seat).stage ≡ start_stage t.sizes n
  stage-is = grind (arith, get_or-map-range_with_len)

  new-begins : IsFresh box → is_reserved t.sizes.reserves n ≡ false → x.mark ≡ first_mark false
      → MayBegin seen t x
  new-begins fresh free mark =
      let due : x.mark.state ≡ node.Due = ap (λ (m : NodeMark). m.state) mark in
      let stage : (view x.seat).stage ≡ Born = stage-is ∙ ap (λ b. cond b Unborn Born) free in
      record {
        cell = record { seat = seat.0; node = fresh-node fresh x.mark due };
        quiet = ap (λ (v : Picture). v.actions) new.view;
        tokens = ap (λ (z : SeatState). z.tokens) state-is;
        owes = ap (λ (z : SeatState). z.owes) state-is;
        free = ap (λ (z : SeatState). z.held) state-is;
        born = ap is_unborn_stage stage;
        going = ap is_over_stage stage;
        mark = λ over. let z : node.Due ≡ node.Over = sym due ∙ over in cc;
      }

  new-awaits : IsBlank box → is_reserved t.sizes.reserves n ≡ true → AwaitsBirth seen t x
  new-awaits blank held = record {
    seat = seat.0;
    blank = blank;
    ports = subst PortsHold (sym first-ports)
        (new-ports t.sizes n inside g _ _ _ _ new.inputs new.outputs);
    new_view = new.view
        ∙ (λ j. new_picture (sym new.inputs.edges_len j) (sym new.outputs.edges_len j));
    pulled = λ i. (λ j. pulled_by (first-ports j) i)
        ∙ (λ j. nothing-pulled t.sizes n inside g _ _ _ _ new.inputs new.outputs j i);
    pushed = λ o. (λ j. pushed_by (first-ports j) o)
        ∙ (λ j. nothing-pushed t.sizes n inside g _ _ _ _ new.inputs new.outputs j o);
    unborn = ap is_unborn_stage (stage-is ∙ ap (λ b. cond b Unborn Born) held);
    tokens = ap (λ (z : SeatState). z.tokens) state-is;
    owes = ap (λ (z : SeatState). z.owes) state-is;
    free = ap (λ (z : SeatState). z.held) state-is;
  }

  pub new-cell : StartsAs (is_reserved t.sizes.reserves n) box
      → x.mark ≡ first_mark (is_reserved t.sizes.reserves n) → IsNewCell seen t n x
  new-cell starts mark = record {
    stored = elim (cases_Bool (is_reserved t.sizes.reserves n)) [
      | inl held ↦ subst (λ k. StoredAs seen t k x)
          (sym (ap (λ (m : NodeMark). m.state) (mark ∙ ap first_mark held)))
          (new-awaits (subst (λ b. StartsAs b box) held starts) held)
      | inr free ↦ subst (λ k. StoredAs seen t k x)
          (sym (ap (λ (m : NodeMark). m.state) (mark ∙ ap first_mark free)))
          (new-begins (subst (λ b. StartsAs b box) free starts) free (mark ∙ ap first_mark free))
    ];
    number = ap (λ (v : NodeView). v.number) seat.1;
    mark = mark;
    places = record {
      numbers = new-numbers;
      ins = refl;
      outs = refl;
      edge_is = λ p own. refl;
      wire_is = subst (λ (c : PortsPicture). (p : Port) → is_own_port c p
          → (end_of_view c.node (edge_of c p)).wire ≡ Some (wire_at t.sizes.wires (edge_of c p)))
          (sym first-ports) (new-wires t.sizes n inside g _ _ _ _ new.inputs new.outputs);
    };
  }

-- ---- the cells of a table

elem-map : {A B : Type 0} (f : A → B) (xs : List A) (k : ℕ) (x : A) → get_elem? xs k ≡ some x
    → get_elem? (map f xs) k ≡ some (f x)
elem-map f (y ∷ ys) (suc k) x h = elem-map f ys k x h
elem-map f xs k x h = grind (arith, some-ne-none, some-injective)

elem-below : {A : Type 0} (xs : List A) (k : ℕ) (x : A) → get_elem? xs k ≡ some x → k < length xs
elem-below (y ∷ ys) (suc k) x h = let lt = elem-below ys k x h in omega (arith, lt)
elem-below xs k x h = grind (arith, some-ne-none)

elem-or : {A : Type 0} (xs : List A) (k : ℕ) (x d : A) → get_elem? xs k ≡ some x → get_or xs k d ≡ x
elem-or (y ∷ ys) (suc k) x d h = elem-or ys k x d h
elem-or xs k x d h = grind (arith, some-ne-none, some-injective)

-- the cells of new nodes have their reserves
pub cells-reserve : {P : Type 0} (ranks : List ℕ) (wires : List Wire) (reserves : List Reserve)
    (pictures : List BoxPicture) (boxes : List P) (nodes : List NewNode) (seats : List NodeSeat)
    (cells : List (NodeCell P)) → AreNewNodes ranks wires reserves pictures nodes
    → Fills cells boxes nodes seats → AreNewReserves ranks reserves pictures cells
cells-reserve ranks wires reserves pictures boxes nodes seats cells new fills k x is =
    (new k (node_of_cell x) (subst (λ l. get_elem? l k ≡ some (node_of_cell x)) fills.nodes_are
    (elem-map node_of_cell cells k x is))).reserve

pub cells-made : {P : Type 0} (seen : P → BoxPicture) (boxes : List P) (ranks : List ℕ)
    (wires : List Wire) (reserves : List Reserve) (workers : ℕ) (nodes : List NewNode) (m : Made)
    (c : Cells P) → IsGraphOfNodes (length boxes) wires reserves
    → AreStarting reserves (map seen boxes)
    → AreNewNodes ranks wires reserves (map seen boxes) nodes
    → IsNewTable (sizes_of (length boxes) wires reserves workers) m → c.table ≡ m.table
    → c.root ≡ m.root → Fills c.cells.items boxes nodes m.nodes.items
    → AreNewCells seen (sizes_of (length boxes) wires reserves workers) boxes c
cells-made {P} seen boxes ranks wires reserves workers nodes m c g starting new made table root
    fills =
    record {
      key = ap sizes_in table ∙ made.key;
      root = subst (λ (z : ExecTable × RootSeat). IsRootOf (identity_of z.0) z.1)
          (λ j. (sym table j, sym root j)) made.root;
      none_made = ap (λ (z : RootSeat). z.seat.me.0.made) root ∙ made.none_made;
      processors = fills.processors;
      each = λ k x is. new-cell seen t
          (subst (λ (s : Sizes). IsGraphOfNodes s.nodes s.wires s.reserves)
          (sym sizes) g) k (inside k x is) x (seat k x is) (ports k x is) (box k x is)
          (mark k x is);
    }
  where
    t : Identity
    t = identity_of c.table

    sizes : t.sizes ≡ sizes_of (length boxes) wires reserves workers
    sizes = ap sizes_in table ∙ made.key

    node-at : (k : ℕ) (x : NodeCell P) → get_elem? c.cells.items k ≡ some x
        → IsNewNodeAt ranks wires reserves (map seen boxes) k (node_of_cell x)
    node-at k x is = new k (node_of_cell x) (subst (λ l. get_elem? l k ≡ some (node_of_cell x))
        fills.nodes_are (elem-map node_of_cell c.cells.items k x is))

    box-at : (k : ℕ) (x : NodeCell P) → get_elem? c.cells.items k ≡ some x
        → get_elem? boxes k ≡ some x.processor
    box-at k x is = grind (arith, get_elem?, elem-map)

    below : (k : ℕ) (x : NodeCell P) → get_elem? c.cells.items k ≡ some x → k < length boxes
    below k x is = elem-below boxes k x.processor (box-at k x is)

    inside : (k : ℕ) (x : NodeCell P) → get_elem? c.cells.items k ≡ some x → k < t.sizes.nodes
    inside k x is = subst (λ (s : Sizes). k < s.nodes) (sym sizes) (below k x is)

    seat : (k : ℕ) (x : NodeCell P) → get_elem? c.cells.items k ≡ some x → IsOpen t k x.seat
    seat k x is = subst (λ (z : ExecTable). IsOpen (identity_of z) k x.seat) (sym table)
        (made.nodes.1 k x.seat (subst (λ l. get_elem? l k ≡ some x.seat) fills.seats_are
        (elem-map (λ (z : NodeCell P). z.seat) c.cells.items k x is)))

    ports : (k : ℕ) (x : NodeCell P) → get_elem? c.cells.items k ≡ some x
        → AreNewPorts t.sizes.wires k x.ports
    ports k x is = grind (arith, sizes, node-at k x is)

    box : (k : ℕ) (x : NodeCell P) → get_elem? c.cells.items k ≡ some x
        → StartsAs (is_reserved t.sizes.reserves k) (seen x.processor)
    box k x is = subst (λ (z : Sizes × BoxPicture). StartsAs (is_reserved z.0.reserves k) z.1)
        (λ j. (
          sym sizes j,
          elem-or (map seen boxes) k (seen x.processor) no_box
              (elem-map seen boxes k x.processor (box-at k x is)) j,
        ))
        (starting k (let l = length-map boxes seen in
        let lt = below k x is in omega (arith, l, lt)))

    mark : (k : ℕ) (x : NodeCell P) → get_elem? c.cells.items k ≡ some x
        → x.mark ≡ first_mark (is_reserved t.sizes.reserves k)
    mark k x is = grind (arith, node-at, sizes)

-- ---- the loops

last-or : {A : Type 0} (l : List A) (a b : A) (k : ℕ) → get_elem? (l ++ a ∷ []) k ≡ some b
    → (get_elem? l k ≡ some b) ⊎ ((k ≡ length l) × (a ≡ b))
last-or (y ∷ ys) a b (suc k) h = grind (arith, last-or ys a b k h)
last-or l a b k h = grind (arith, some-injective, some-ne-none)

-- one more node
pub more-nodes : (ranks : List ℕ) (wires : List Wire) (rs : List Reserve)
    (boxes : List BoxPicture) (all : List NewNode) (x : NewNode)
    → AreNewNodes ranks wires rs boxes all → IsNewNodeAt ranks wires rs boxes (length all) x
    → AreNewNodes ranks wires rs boxes (all ++ x ∷ [])
more-nodes ranks wires rs boxes all x h here k y is = elim (last-or all x y k is) [
  | inl was ↦ h k y was
  | inr at ↦ subst (λ (z : ℕ × NewNode). IsNewNodeAt ranks wires rs boxes z.0 z.1)
      (λ j. (sym at.0 j, at.1 j)) here
]

-- a port that has an edge is found
pub edge-found : (wires : List Wire) (n : ℕ) (p : Port) → HasEdgeAt wires n p
    → ((e : ℕ) → e < length wires → ends_at (wire_at wires e) n p ≡ false) → ⊥
edge-found wires n (Input i) h none = grind (arith, both_ways, and_from, eq-eqb)
edge-found wires n (Output o) h none = grind (arith, both_ways, and_from, eq-eqb)

-- the ports of a graph's nodes
pub graph-ports : (nodes : ℕ) (wires : List Wire) (rs : List Reserve)
    → IsGraphOfNodes nodes wires rs
    → (n : ℕ) → HasPortsWithinLimits wires n
graph-ports nodes wires rs g n = record {
  few_edges = let few = g.graph.so_far.few_edges in omega (arith, few);
  few_inputs = few-inputs g.ranks wires rs g.graph.so_far n;
  few_outputs = few-outputs g.ranks wires rs g.graph.so_far n;
  each = each;
}
  where
    each : (p : Port) → IsPort (input_count wires n) (output_count wires n) p → HasEdgeAt wires n p
    each (Input i) lt = grind (arith, input-of-count g.ranks wires rs g.graph n i lt)
    each (Output o) lt = grind (arith, output-of-count g.ranks wires rs g.graph n o lt)
