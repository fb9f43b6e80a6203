-- The end of a run in which nothing is pending.
use Rattle.node_ends.proofs.Imports.{Bool, BoxPicture, CellGraph, CellPicture, ContradictsStatus, IsDone, IsSettled, IsStuck, List, MarkTells, NodeCell, Option, StuckNode, SupportsStatus, WholeCell, Wire, [], ap, append-nil, append_assoc, arith, at_map, box_at, boxes_in, boxes_of, cell_at, cond, drop, false, get_elem?, get_or, get_or-map, is_resting, length, length-map, map-map, picture_of, pictures, pictures_of, refl, some, stuck_from, subst, suc, sym, true, turn_picture, whole_at, whole_of, wholes_of, ℕ, ◌++◌, ◌+◌, ◌<◌, ◌∙◌, ◌∷◌, ◌≡◌}
use Rattle.node_cells.proofs.EndLaws.{due, end-law, quiet, running}
use Rattle.exec_laws.proofs.Ends.{box-of, marks-tell}
use Rattle.exec_laws.specs.Names.{no_cell}
use Rattle.node_cells.specs.Ends.{edge_of_board}
use Rattle.node_ends.proofs.Lists.{read-map, there}
use Rattle.proc_api.specs.Names.{no_box}
use Rattle.std.proofs.Common.{drop-cons}
use Rattle.proc_api.specs.declared.status.Status.{Status}
use Rattle.node_ends.specs.RunEnds.{GrowthsStay, NodesEndHolds, SettledEndHolds}
use Rattle.node_ends.specs.declared.node_ends.NodesEnd.{NodesEnd}
use Rattle.node_ends.specs.declared.node_ends.NodesEnd.TheVariants as end

module _ {P : Type 0} (seen : P → BoxPicture) (cells : List (NodeCell P)) where
  pub boxes-are : boxes_of (pictures_of seen cells) ≡ boxes_in seen cells
  boxes-are = map-map (λ (c : CellPicture). c.box) (turn_picture seen) cells

  module _ (g : CellGraph) (s : IsSettled g (wholes_of seen g cells)) where
    abbrev wholes : List WholeCell
    wholes = wholes_of seen g cells

    -- the boxes are those of the pictures that the laws of ends speak of
    law-boxes : boxes_of (pictures wholes) ≡ boxes_in seen cells
    law-boxes = map-map (λ (c : CellPicture). c.box) picture_of wholes
        ∙ map-map (λ (w : WholeCell). w.box) (whole_of seen g) cells

    count : length (pictures wholes) ≡ length cells
    count = length-map wholes picture_of ∙ length-map cells (whole_of seen g)

    -- what a picture says but for the numbers of its edges it says of its cell
    module _ (Q : CellPicture → Type 0) (n : ℕ) (lt : n < length cells) where
      own : (c : NodeCell P) × (get_elem? cells n ≡ some c)
      own = there cells n lt

      by-law : cell_at (pictures wholes) n ≡ picture_of (whole_of seen g own.0)
      by-law = read-map picture_of wholes n _ no_cell (at_map (whole_of seen g) cells n own.0 own.1)

      by-turn : cell_at (pictures_of seen cells) n ≡ turn_picture seen own.0
      by-turn = read-map (turn_picture seen) cells n own.0 no_cell own.1

      to-law : ((c : NodeCell P) → Q (turn_picture seen c) → Q (picture_of (whole_of seen g c)))
          → Q (cell_at (pictures_of seen cells) n) → Q (cell_at (pictures wholes) n)
      to-law same h = subst Q (sym by-law) (same own.0 (subst Q by-turn h))

      from-law : ((c : NodeCell P) → Q (picture_of (whole_of seen g c)) → Q (turn_picture seen c))
          → Q (cell_at (pictures wholes) n) → Q (cell_at (pictures_of seen cells) n)
      from-law same h = subst Q (sym by-turn) (same own.0 (subst Q by-law h))

    -- the marks say what the boxes last answered
    pub cells-tell : (n : ℕ) → n < length cells → MarkTells (cell_at (pictures_of seen cells) n)
    cells-tell n lt = from-law MarkTells n lt
        (λ c h. record { unfinished = h.unfinished; last = h.last; may_rest = h.may_rest })
        (marks-tell g.wires (pictures wholes)
        (edge_of_board g.wires g.table_edge s.board (whole_at wholes))
        (running g.wires g.table_edge s.board wholes s.settled)
        (quiet g.wires g.table_edge s.board wholes s.settled)
        (due g.wires g.table_edge s.board wholes s.settled) n (omega (arith, lt, count)))

    -- where each view supports its status the run is done
    pub settled-done
        : ((n : ℕ) → n < length cells → SupportsStatus (cell_at (pictures_of seen cells) n))
        → IsDone g.wires (boxes_in seen cells)
    settled-done rests = subst (IsDone g.wires) law-boxes
        ((end-law g.wires g.table_edge s.board wholes s.settled).done
        (λ n lt. let less : n < length cells = omega (arith, lt, count) in
        to-law SupportsStatus n less (λ c h. h) (rests n less)))

    -- where one contradicts it the run is stuck there
    pub settled-stuck : (n : ℕ) (report : List StuckNode) → n < length cells
        → ContradictsStatus (cell_at (pictures_of seen cells) n)
        → report ≡ stuck_from 0 (boxes_in seen cells) → IsStuck g.wires (boxes_in seen cells)
        report n
    settled-stuck n report lt denied lists = subst (λ l. IsStuck g.wires l report n) law-boxes
        ((end-law g.wires g.table_edge s.board wholes s.settled).stuck n report
        (omega (arith, lt, count))
        (to-law ContradictsStatus n lt
        (λ c h. record { resting = h.resting; denied = h.denied }) denied)
        (lists ∙ ap (stuck_from 0) (sym law-boxes)))

-- ---- the report

listed : (items rest : List StuckNode) (b : Bool) (n : ℕ) (x y : Option Status) → (b ≡ true → x ≡ y)
    → (items ++ cond b (record { node = n; last = y } ∷ []) []) ++ rest
    ≡ items ++ cond b (record { node = n; last = x } ∷ rest) rest
listed items rest true n x y same =
    rw (append_assoc, same refl) refl
listed items rest false n x y same = ap (λ l. l ++ rest) (append-nil items)

-- the node at a place is listed as its mark says, and the rest follows
pub more-stuck : (cells : List CellPicture) (n : ℕ) (items : List StuckNode) → n < length cells
    → MarkTells (cell_at cells n)
    → (items ++ cond (is_resting (cell_at cells n).mark.state)
    (record { node = n; last = (cell_at cells n).mark.last } ∷ []) [])
    ++ stuck_from (n + 1) (drop (n + 1) (boxes_of cells))
    ≡ items ++ stuck_from n (drop n (boxes_of cells))
unfolding box_at
more-stuck cells n items lt t =
    let next : n + 1 ≡ suc n = omega arith in
    rw (next, drop-cons (boxes_of cells) n no_box (rw length-map lt), box-of cells n, t.unfinished)
    (listed items _ _ n _ _ t.last)

-- a cell that was read
module _ {P : Type 0} (seen : P → BoxPicture) (cells : List (NodeCell P)) where
  pub cells-below : (n : ℕ) → n < length cells → n < length (pictures_of seen cells)
  cells-below n lt = rw length-map lt

  pub cell-read : (n : ℕ) (x : NodeCell P) → n < length cells → x ≡ get_or cells n x
      → cell_at (pictures_of seen cells) n ≡ turn_picture seen x
  cell-read n x lt e = get_or-map (turn_picture seen) cells n x no_cell lt
      ∙ ap (turn_picture seen) (sym e)

-- ---- the end of a run

-- in an end in which nothing is pending the growths stay
pub settled-ends : (e : NodesEnd) (wires : List Wire) (before after : List BoxPicture)
    → SettledEndHolds e wires after → GrowthsStay before after → NodesEndHolds e wires before after
settled-ends end.Done wires before after h g = (h, g)
settled-ends (end.Stuck report n) wires before after h g = (h, g)
settled-ends (end.Fault n f) wires before after h g = absurd h
settled-ends (end.Grows n) wires before after h g = absurd h
