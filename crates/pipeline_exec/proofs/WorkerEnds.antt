-- The ends of a run by workers.
use Rattle.pipeline_exec.proofs.Imports.{BoxPicture, GivenBack, IfNone, IfSome, IsBorn, List, None, Option, Some, [], ap, arith, at_map, box_at, get_or-set_other, get_or-set_same, length, length-map, map, map-map, not-blank, refl, subst, sym, ℕ, ◌<◌, ◌∙◌, ◌≡◌, ◌≢◌, ◌≤◌}
use Rattle.core_laws.specs.declared.types.Sizes.{Sizes}
use Rattle.exec_laws.proofs.Acting.{keeps-itself}
use Rattle.exec_laws.proofs.BirthLaws.{keeps-gives}
use Rattle.exec_laws.specs.Births.{AreAllBorn, AreBirths, Birth, grown_ranks}
use Rattle.exec_laws.specs.Prelude.{IsGraph, Reserve, Wire, WorkFault}
use Rattle.exec_laws.specs.declared.growth.GrowthFlaw.{GrowthFlaw}
use Rattle.exec_table.specs.Seats.{Identity, identity_of}
use Rattle.graph_checks.specs.Flaws.{flaw_over}
use Rattle.graph_checks.specs.OwnWires.{own_wires}
use Rattle.node_births.proofs.BirthWires.{ranks-length}
use Rattle.node_births.specs.LeftNodes.{IsGraphBefore, IsGraphLeft, NodeLeft, all_births, edge_in_table, ungrown_at, wires_left}
use Rattle.node_cells.proofs.VisitLaws.{lies-stop}
use Rattle.node_cells.specs.Ends.{HasPlaces}
use Rattle.node_cells.specs.NewCells.{AreNewCells, AreNewReserves, sizes_of}
use Rattle.node_cells.specs.Stops.{KeepsFlaw, StopHolds, left_in}
use Rattle.node_cells.specs.Stored.{IsStored}
use Rattle.node_cells.specs.Visits.{LiesAs}
use Rattle.node_cells.specs.declared.cell.NodeCell.{NodeCell}
use Rattle.node_cells.specs.declared.new_cells.Cells.{Cells}
use Rattle.node_cells.specs.declared.stop_cause.StopCause.{StopCause}
use Rattle.node_cells.specs.declared.stop_cause.StopCause.TheVariants as cause
use Rattle.node_ends.proofs.Boxes.{stayed-given}
use Rattle.node_ends.proofs.Lists.{below}
use Rattle.node_ends.proofs.Visits.{is-loaded, unborn-blank}
use Rattle.node_ends.specs.CellLists.{AreCells, AreCellsOfGraph, CellGraph, IsCellOf, IsUnborn, boxes_in}
use Rattle.node_ends.specs.RunEnds.{BoxesStay, GrowthsStay, NodesEndHolds as CellsEndHolds}
use Rattle.node_ends.specs.declared.node_ends.NodesEnd.{NodesEnd}
use Rattle.node_ends.specs.declared.node_ends.NodesEnd.TheVariants as nodes_end
use Rattle.node_workers.proofs.NewCells.{new-stored}
use Rattle.node_workers.specs.Ended.{AreEnded, named_by}
use Rattle.node_workers.specs.Runs.{MayRunCells}
use Rattle.node_workers.specs.declared.named_cell.EndedCell.{EndedCell}
use Rattle.pipeline_exec.proofs.EndedNodes.{BeginsAs, EndedAt, begun_of, ended-at, given-ended, graph-ended, left-count, nodes}
use Rattle.pipeline_exec.proofs.LaterEnds.{all-stay, back-both, births-stay}
use Rattle.pipeline_exec.specs.Ends.{Begun, EndsBadly, ExecEndHolds, IsFaultEnd, graph_of_boxes}
use Rattle.pipeline_exec.specs.WorkerRuns.{AreUnstopped, AreWhole, EndsAs, IsEndOf, IsStopEnd, IsStopFor, IsStoppedAt, IsUnrun, cell_of, processor_of}
use Rattle.pipeline_exec.specs.declared.run.ExecEnd.{ExecEnd}
use Rattle.pipeline_exec.specs.declared.run.ExecEnd.TheVariants as end
use Rattle.proc_api.specs.Names.{no_box}
use Rattle.proc_api.specs.Reserves.{AreReserves, AreStarting}
use lib.ListN.{get_elem?}
use mathlib.Core.Option.{some, some-injective}

module _ {P : Type 0} (seen : P → BoxPicture) (t : Identity) (old : List (NodeCell P))
    (cells : List (EndedCell P))
    (ended : AreEnded seen t (named_by seen old) (length old) cells) (ranks : List ℕ)
    (begins : BeginsAs seen t old ranks) (whole : AreWhole t.sizes.reserves cells) where
  abbrev begun : Begun
  begun = begun_of seen t old ranks

  abbrev all_left : List (NodeCell P)
  all_left = map cell_of cells

  abbrev after : List BoxPicture
  after = boxes_in seen all_left

  abbrev node_at : ℕ → NodeLeft
  node_at = nodes seen t old cells ended

  abbrev births : List Birth
  births = all_births begun node_at

  pub law : IsGraphLeft begun node_at after
  law = graph-ended seen t old cells ended ranks begins whole

  given : GivenBack (boxes_in seen old) after
  given = given-ended seen t old cells ended

  below-boxes : (n : ℕ) → n < length old → n < length (boxes_in seen old)
  below-boxes n lt = rw length-map lt

  -- ---- the run was stopped at a node

  module _ (n : ℕ) (s : StopCause) (h : IsStoppedAt cells n s) where
    within : n < length old
    within = rw ended.many at h.in_range

    abbrev d : EndedCell P
    d = (ended-at seen t old cells ended n within).0

    at : EndedAt seen t old cells ended n d
    at = (ended-at seen t old cells ended n within).1

    is-stopped : d.stopped ≡ Some s
    is-stopped = h.stopped d at.0

    in-after : n < length after
    in-after = rw given.count (below-boxes n within)

    -- by what its cell keeps
    stop-holds : StopHolds seen s d.cell
    stop-holds = lies-stop seen t s d.cell
        (subst (λ o. LiesAs seen t o d.cell) is-stopped at.3.lies)

  fault-ends : (n : ℕ) (f : WorkFault) → IsStoppedAt cells n (cause.Fault f) → (e : ExecEnd)
      → IsFaultEnd e n f → ExecEndHolds e begun after
  fault-ends n f h end.Done i = absurd i
  fault-ends n f h (end.Stuck report m) i = absurd i
  fault-ends n f h (end.BadGrowth m x) i = absurd i
  fault-ends n f h end.Memory i = tt
  fault-ends n f h (end.Fault m x) i = record {
    births = births;
    are = law.are;
    holds = rw (i.0, i.1) record {
      in_range = in-after n (cause.Fault f) h;
      keeps = rw (at n (cause.Fault f) h).2 (stop-holds n (cause.Fault f) h);
      not_memory = i.2;
    };
  }

  module _ (n : ℕ) (f : GrowthFlaw) (h : IsStoppedAt cells n (cause.Flaw f)) where
    abbrev cell : NodeCell P
    cell = (d n (cause.Flaw f) h).cell

    flaw : KeepsFlaw seen f cell
    flaw = stop-holds n (cause.Flaw f) h

    -- the growth had not come before the births
    abbrev ungrown : List BoxPicture
    ungrown = ungrown_at after n

    box-here : box_at ungrown n ≡ record (box_at after n) { growth = None }
    unfolding box_at
    box-here = get_or-set_same after n _ no_box (in-after n (cause.Flaw f) h)

    flaw-ends : EndsBadly begun after n f
    unfolding box_at
    flaw-ends =
        let x = at n (cause.Flaw f) h in
        let lt = within n (cause.Flaw f) h in record {
          births = births;
          grown = ungrown;
          are = law.ungrown n f (below-boxes n lt)
              (ap (λ (z : NodeLeft). z.stopped) x.1 ∙ is-stopped n (cause.Flaw f) h);
          graph = law.graph;
          others = λ k ne. sym (get_or-set_other after n k _ no_box ne);
          same = rw box-here record { kind = refl; lawful = refl; files = refl; spec = refl };
          once = λ lawful. ap (λ (p : BoxPicture). p.growth) box-here;
          bad = record {
            in_range = in-after n (cause.Flaw f) h;
            growth = flaw.growth;
            kept = rw x.2 flaw.kept;
            may_grow = rw x.2 flaw.may_grow;
            flawed = law.flaw n f flaw.growth (below-boxes n lt) (rw x.1 flaw.born)
                (rw x.1 record {
                  kept = flaw.kept;
                  ports = flaw.ports;
                  flawed = subst (λ m. flaw_over cell.reserve.rank cell.reserve.nodes (own_wires m
                      cell.ports.sources.items cell.ports.targets.items) (left_in cell.reserve) m
                      flaw.growth ≡ Some f) x.3.number flaw.flawed;
                });
          };
        }

  pub stopped-end : (n : ℕ) (s : StopCause) → IsStoppedAt cells n s → (e : ExecEnd)
      → IsStopEnd n s e → ExecEndHolds e begun after
  stopped-end n (cause.Fault f) h e i = fault-ends n f h e i
  stopped-end n (cause.Flaw f) h e i = rw i (flaw-ends n f h)
  stopped-end n cause.Memory h e i = rw i tt

  -- ---- nothing stopped it

  module _ (unstopped : AreUnstopped (length cells) cells) where
    none-at : (n : ℕ) (d : EndedCell P) → get_elem? cells n ≡ some d → d.stopped ≡ None
    none-at n d e = unstopped n d (below cells n d e) e

    all-born : (n : ℕ) (f : GrowthFlaw) → n < length begun.boxes
        → (node_at n).stopped ≢ Some (cause.Flaw f)
    all-born n f lt e =
        let x = ended-at seen t old cells ended n (rw length-map at lt) in
        let none : (node_at n).stopped ≡ None =
        ap (λ (z : NodeLeft). z.stopped) x.1.1 ∙ none-at n x.0 x.1.0 in
        let two : None ≡ Some (cause.Flaw f) = sym none ∙ e in cc

    -- the cells are those of all nodes of the grown graph
    abbrev graph : CellGraph
    graph = record {
      wires = wires_left begun node_at;
      table_edge = edge_in_table begun node_at;
      inputs = λ n. (law.places n).inputs;
      outputs = λ n. (law.places n).outputs;
    }

    stored-at : (n : ℕ) (d : EndedCell P) → EndedAt seen t old cells ended n d
        → IsStored seen t d.cell
    stored-at n d x = subst (λ o. LiesAs seen t o d.cell) (none-at n d x.0) x.3.lies

    -- what holds of each cell that was left holds of those
    each-left : (Q : ℕ → NodeCell P → Type 0)
        → ((n : ℕ) → n < length old → (d : EndedCell P) → EndedAt seen t old cells ended n d
        → Q n d.cell) → (n : ℕ) (c : NodeCell P) → get_elem? all_left n ≡ some c → Q n c
    each-left Q each n c e =
        let lt : n < length old =
        rw (left-count seen t old cells ended) at (below all_left n c e) in
        let x = ended-at seen t old cells ended n lt in
        subst (Q n) (some-injective _ _ (sym (at_map cell_of cells n x.0 x.1.0) ∙ e))
        (each n lt x.0 x.1)

    pub cells-ended : AreCells seen t graph all_left
    cells-ended = record {
      count = left-count seen t old cells ended ∙ begins.count;
      graph = record {
        ranks = grown_ranks begun.ranks births;
        reserves = [];
        graph = law.graph;
        nodes_len = left-count seen t old cells ended ∙ (sym (length-map old (λ (c : NodeCell P).
            seen c.processor)) ∙ (begins.graph.one_each ∙ sym (ranks-length begun.ranks births)));
      };
      each = each-left (IsCellOf seen t graph) (λ n lt d x. record {
        stored = stored-at n d x;
        number = sym x.3.seat.number ∙ x.3.number;
        places = λ born. subst (λ (z : NodeLeft). HasPlaces graph.wires graph.table_edge n
            (graph.inputs n) (graph.outputs n) z.ports) x.1
            ((law.places n).are (below-boxes n lt)
            (rw x.1 (is-loaded seen t d.cell (stored-at n d x) born)));
      });
      joined = λ e n p c has here unborn. each-left (λ n c. IsBorn (node_at n).box → IsUnborn c → ⊥)
          (λ n lt d x born unborn. not-blank (node_at n).box.spec born
          (rw x.1 (unborn-blank seen t d.cell (stored-at n d x) unborn)))
          n c here (law.ends_born e n p has) unborn;
    }

    -- ---- the end after the workers

    module _ (later : List BoxPicture) (stay : BoxesStay after later) where
      module _ (growths : GrowthsStay after later) where
        later-births : AreBirths begun.reserves begun.boxes later births
        later-births = births-stay after later stay growths begun.reserves begun.boxes given births
            law.are (law.all all-born)

        later-all : AreAllBorn begun.boxes later births
        later-all = all-stay after later stay growths begun.reserves begun.boxes given births
            law.are (law.all all-born)

      later-fault : (n : ℕ) (f : WorkFault) (e : ExecEnd)
          → CellsEndHolds (nodes_end.Fault n f) graph.wires after later → IsFaultEnd e n f
          → ExecEndHolds e begun later
      later-fault n f end.Done h i = absurd i
      later-fault n f (end.Stuck report m) h i = absurd i
      later-fault n f (end.BadGrowth m x) h i = absurd i
      later-fault n f end.Memory h i = tt
      later-fault n f (end.Fault m x) h i = record {
        births = births;
        are = later-births h.growth;
        holds = rw (i.0, i.1) record { in_range = h.in_range; keeps = h.stop; not_memory = i.2 };
      }

      pub settled-end : (x : NodesEnd) (e : ExecEnd)
          → CellsEndHolds x graph.wires after later → IsEndOf x e → ExecEndHolds e begun later
      settled-end nodes_end.Done e h i = rw i record {
        grown = record { births = births; are = later-births h.1; holds = h.0 };
        all = later-all h.1;
      }
      settled-end (nodes_end.Stuck report n) e h i = rw i record {
        grown = record { births = births; are = later-births h.1; holds = h.0 };
        all = later-all h.1;
      }
      settled-end (nodes_end.Fault n f) e h i = later-fault n f e h i
      settled-end (nodes_end.Grows n) e h i = rw i tt

-- ---- the cells of a new table

module _ {P : Type 0} (seen : P → BoxPicture) (b : Begun) (workers : ℕ) (c : Cells P)
    (u : IsUnrun seen b workers c) where
  abbrev table_id : Identity
  table_id = identity_of c.table

  abbrev new_cells : List (NodeCell P)
  new_cells = c.cells.items

  unrun-boxes : b.boxes ≡ boxes_in seen new_cells
  unrun-boxes = u.boxes_are ∙ (sym (ap (map seen) u.new.processors)
      ∙ map-map seen (λ (x : NodeCell P). x.processor) new_cells)

  -- the graph is that of the table and the cells
  pub unrun-same : b ≡ begun_of seen table_id new_cells b.ranks
  unrun-same = λ j. record {
    ranks = b.ranks;
    wires = ap (λ (z : Sizes). z.wires) (sym u.new.key) j;
    reserves = ap (λ (z : Sizes). z.reserves) (sym u.new.key) j;
    boxes = unrun-boxes j;
  }

  -- there is a cell for each rank
  pub unrun-count : length new_cells ≡ length b.ranks
  unrun-count = sym (length-map new_cells (λ (x : NodeCell P). seen x.processor))
      ∙ (ap length (sym unrun-boxes) ∙ u.graph.one_each)

  count : length new_cells ≡ length u.boxes
  count = sym (length-map new_cells (λ (x : NodeCell P). x.processor)) ∙ ap length u.new.processors

  pub unrun-begins : BeginsAs seen table_id new_cells b.ranks
  unrun-begins = record {
    graph = subst IsGraphBefore unrun-same u.graph;
    whole = subst (λ (g : Begun). AreNewReserves b.ranks g.reserves g.boxes new_cells) unrun-same
        u.whole;
    count = count ∙ ap (λ (z : Sizes). z.nodes) (sym u.new.key);
  }

  pub unrun-runnable : (queued : ℕ) → 1 ≤ workers → workers ≤ 16 → 0 < queued
      → MayRunCells seen table_id c.root new_cells workers queued
  unrun-runnable queued one most room = record {
    some_workers = one;
    few_workers = most;
    some_room = room;
    spare = record {
      root = u.new.root;
      spare = rw (u.new.none_made, u.new.key) (omega arith);
    };
    stored = new-stored seen u.boxes b.ranks b.wires b.reserves workers c record {
      ranks = b.ranks;
      graph = u.graph.graph;
      nodes_are = nodes_are;
      reserves_are = rw nodes_are u.graph.fit;
    } u.new (rw (sym u.boxes_are) u.whole);
  }
    where
      nodes_are : length u.boxes ≡ length b.ranks
      nodes_are = sym (length-map u.boxes seen) ∙ (ap length (sym u.boxes_are) ∙ u.graph.one_each)

-- the cells that were made of a graph
pub of-graph : {P : Type 0} (seen : P → BoxPicture) (workers : ℕ) (boxes : List P)
    (ranks : List ℕ) (wires : List Wire) (reserves : List Reserve) (c : Cells P)
    → length boxes ≡ length ranks → IsGraph ranks wires reserves
    → AreReserves (length ranks) (length wires) wires reserves
    → AreStarting reserves (map seen boxes)
    → AreNewCells seen (sizes_of (length boxes) wires reserves workers) boxes c
    → AreNewReserves ranks reserves (map seen boxes) c.cells.items
    → IsUnrun seen (graph_of_boxes ranks wires reserves (map seen boxes)) workers c
of-graph seen workers boxes ranks wires reserves c one_each graph fit starting new whole = record {
  boxes = boxes;
  boxes_are = refl;
  graph = record {
    graph = graph;
    one_each = rw length-map one_each;
    fit = fit;
    starting = starting;
  };
  new = new;
  whole = whole;
}

-- ---- the end of the run

module _ {P : Type 0} (seen : P → BoxPicture) (b : Begun) (workers : ℕ) (c : Cells P)
    (u : IsUnrun seen b workers c) (cells : List (EndedCell P))
    (ended : AreEnded seen (identity_of c.table) (named_by seen c.cells.items)
    (length c.cells.items) cells) (moved : List (NodeCell P)) (is : moved ≡ map cell_of cells)
  where
    given-all : GivenBack (boxes_in seen c.cells.items) (boxes_in seen (map cell_of cells))
    given-all = given-ended seen (identity_of c.table) c.cells.items cells ended

    begins-all : BeginsAs seen (identity_of c.table) c.cells.items b.ranks
    begins-all = unrun-begins seen b workers c u

    -- all boxes are given back, whether the run was stopped or not
    pub run-back : (stop : Option (ℕ × StopCause)) (e : ExecEnd) (after : List (NodeCell P))
        → IfSome stop (λ at. IsStopEnd at.0 at.1 e × (after ≡ moved))
        → IfNone stop (BoxesStay (boxes_in seen moved) (boxes_in seen after))
        → GivenBack (boxes_in seen c.cells.items) (boxes_in seen after)
    run-back (Some at) e after stopped back = rw (stopped.1, is) given-all
    run-back None e after stopped back = back-both _ _ _ given-all
        (stayed-given _ _ (subst (λ l. BoxesStay (boxes_in seen l) (boxes_in seen after)) is back))

    few : (n : ℕ) → n < length cells → n ≤ 256
    few n lt = let many = ended.many in let boxes = unrun-count seen b workers c u in
        let nodes = u.graph.graph.so_far.few_nodes in omega (arith, lt, many, boxes, nodes)

    -- the node at which the run was stopped is among few
    pub few-stops : (stop : Option (ℕ × StopCause))
        → IsStopFor (identity_of c.table).sizes.reserves cells stop
        → IfSome stop (λ at. at.0 ≤ 256)
    few-stops None h = tt
    few-stops (Some (n, cause.Fault f)) h = few n h.1.in_range
    few-stops (Some (n, cause.Flaw f)) h = few n h.1.in_range
    few-stops (Some (n, cause.Memory)) h = omega (arith, h)

    -- where the run was stopped at no node the cells are those of all nodes of a graph
    pub unstopped-cells : (stop : Option (ℕ × StopCause))
        → IsStopFor (identity_of c.table).sizes.reserves cells stop
        → IfNone stop (AreCellsOfGraph seen (identity_of c.table) moved)
    unstopped-cells (Some _) h = tt
    unstopped-cells None h = subst (AreCellsOfGraph seen (identity_of c.table)) (sym is) (
      graph seen (identity_of c.table) c.cells.items cells ended b.ranks begins-all h.0 h.1,
      cells-ended seen (identity_of c.table) c.cells.items cells ended b.ranks begins-all h.0 h.1,
    )

    module _ (after : List (NodeCell P)) (e : ExecEnd) where
      abbrev EndsSo : Type 0
      EndsSo = ExecEndHolds e (begun_of seen (identity_of c.table) c.cells.items b.ranks)
          (boxes_in seen after)

      ends-stopped : (n : ℕ) (s : StopCause)
          → AreWhole (identity_of c.table).sizes.reserves cells → IsStoppedAt cells n s
          → IsStopEnd n s e × (after ≡ moved) → EndsSo
      ends-stopped n s whole at same = rw (same.1, is) (stopped-end seen (identity_of c.table)
          c.cells.items cells ended b.ranks begins-all whole n s at e same.0)

      ends-so : (stop : Option (ℕ × StopCause))
          → IsStopFor (identity_of c.table).sizes.reserves cells stop
          → IfSome stop (λ at. IsStopEnd at.0 at.1 e × (after ≡ moved))
          → IfNone stop (BoxesStay (boxes_in seen moved) (boxes_in seen after))
          → IfNone stop ((g : CellGraph) → AreCells seen (identity_of c.table) g moved
          → EndsAs g.wires (boxes_in seen moved) (boxes_in seen after) e) → EndsSo
      ends-so (Some (n, cause.Fault f)) h stopped back holds =
          ends-stopped n (cause.Fault f) h.0 h.1 stopped
      ends-so (Some (n, cause.Flaw f)) h stopped back holds =
          ends-stopped n (cause.Flaw f) h.0 h.1 stopped
      ends-so (Some (n, cause.Memory)) h stopped back holds = rw stopped.0 tt
      ends-so None h stopped back holds =
          let of : CellGraph = graph seen (identity_of c.table) c.cells.items cells ended b.ranks
          begins-all h.0 h.1 in
          let by = subst (λ l. EndsAs of.wires (boxes_in seen l) (boxes_in seen after) e) is
          (holds of (subst (AreCells seen (identity_of c.table) of) (sym is) (cells-ended seen
          (identity_of c.table) c.cells.items cells ended b.ranks begins-all h.0 h.1))) in
          settled-end seen (identity_of c.table) c.cells.items cells ended b.ranks begins-all h.0
          h.1 (boxes_in seen after)
          (subst (λ l. BoxesStay (boxes_in seen l) (boxes_in seen after)) is back) by.0 e by.1.0
          by.1.1

      -- the end of the run is that of the whole graph
      pub run-ended : (stop : Option (ℕ × StopCause))
          → IsStopFor (identity_of c.table).sizes.reserves cells stop
          → IfSome stop (λ at. IsStopEnd at.0 at.1 e × (after ≡ moved))
          → IfNone stop (BoxesStay (boxes_in seen moved) (boxes_in seen after))
          → IfNone stop ((g : CellGraph) → AreCells seen (identity_of c.table) g moved
          → EndsAs g.wires (boxes_in seen moved) (boxes_in seen after) e)
          → ExecEndHolds e b (boxes_in seen after)
      run-ended stop h stopped back holds =
          subst (λ (z : Begun). ExecEndHolds e z (boxes_in seen after))
          (sym (unrun-same seen b workers c u)) (ends-so stop h stopped back holds)

-- as many cells are left as there were
pub same-count : {P : Type 0} (seen : P → BoxPicture) (old after : List (NodeCell P))
    → GivenBack (boxes_in seen old) (boxes_in seen after) → length after ≡ length old
same-count {P} seen old after h = sym (length-map after (λ (c : NodeCell P). seen c.processor))
    ∙ (h.count ∙ length-map old (λ (c : NodeCell P). seen c.processor))

-- the boxes that were moved out of cells
pub moved : {P : Type 0} (seen : P → BoxPicture) (cells : List (NodeCell P)) (boxes : List P)
    → boxes ≡ map processor_of cells → boxes_in seen cells ≡ map seen boxes
moved seen cells boxes e = sym (ap (map seen) e ∙ map-map seen processor_of cells)

pub moved-back : {P : Type 0} (seen : P → BoxPicture) (cells : List (NodeCell P))
    (boxes : List P) → boxes ≡ map processor_of cells → GivenBack (boxes_in seen cells)
    (map seen boxes)
moved-back seen cells boxes e = subst (GivenBack (boxes_in seen cells)) (moved seen cells boxes e)
    record { count = refl; each = λ n lt. keeps-gives _ _ (keeps-itself _) }
