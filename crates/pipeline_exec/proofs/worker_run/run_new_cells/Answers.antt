use Rattle.pipeline_exec.proofs.Imports.{ap, arith, length, length-map, map, subst, sym, ◌∙◌}
use Rattle.exec_laws.specs.Ends.{GivenBack}
use Rattle.exec_table.specs.Seats.{identity_of}
use Rattle.node_ends.specs.CellLists.{AreCells, AreCellsOfGraph, CellGraph, boxes_in}
use Rattle.pipeline_exec.proofs.EndedNodes.{ended-notes}
use Rattle.pipeline_exec.proofs.WorkerEnds.{few-stops, moved, moved-back, run-back, run-ended, same-count, unrun-runnable, unstopped-cells}
use Rattle.pipeline_exec.specs.Ends.{ExecEndHolds}
use Rattle.pipeline_exec.specs.Gathering.{AreOfNotes}
use Rattle.pipeline_exec.specs.WorkerRuns.{EndsAs, IsStopFor, cell_of, processor_of}
use Rattle.std.proofs.Common.{IfNone, vec_capacity, vec_len, ◌≡◌, ◌≤◌}
use Rattle.pipeline_exec.proofs.worker_run.run_new_cells.Goals as goal

pub returns-in_default-clause-back : goal.returns-in_default-clause-back
returns-in_default-clause-back g c = moved-back g.P.Processor.seen c.args.new.cells.items
    c.give_boxes.new.boxes.items c.give_boxes.ensures

pub returns-in_default-with_capacity-clause-back :
    goal.returns-in_default-with_capacity-clause-back
returns-in_default-with_capacity-clause-back g c = moved-back g.P.Processor.seen
    c.args.new.cells.items c.give_boxes-in_default-with_capacity.new.boxes.items
    c.give_boxes-in_default-with_capacity.ensures

pub run_cells-requires-clause-runnable : goal.run_cells-requires-clause-runnable
run_cells-requires-clause-runnable g c κs within = unrun-runnable g.P.Processor.seen
    c.requires.unrun.0 c.args.workers c.args.new c.requires.unrun.1 _ c.requires.some_workers
    c.requires.few_workers (omega arith)

pub stop_of-stop-requires-clause-notes : goal.stop_of-stop-requires-clause-notes
stop_of-stop-requires-clause-notes g c κs within =
    let r = c.in-Ok-run_cells.ensures.ok in
    subst (λ id. AreOfNotes id c.in-Ok-run_cells.ended.cells.items) (sym r.noted)
    (ended-notes g.P.Processor.seen (identity_of c.args.new.table) c.args.new.cells.items
    c.in-Ok-run_cells.ended.cells.items r.ended)

pub move_cells-requires-clause-room : goal.move_cells-requires-clause-room
move_cells-requires-clause-room g c κs within =
    let same : length c.stop_of-stop.new.cells.items
    ≡ length c.in-Ok-run_cells.ended.cells.items =
    sym (length-map c.stop_of-stop.new.cells.items cell_of) ∙ (ap length c.stop_of-stop.ensures.same
    ∙ length-map c.in-Ok-run_cells.ended.cells.items cell_of) in
    let many : length c.in-Ok-run_cells.ended.cells.items ≡ length c.args.new.cells.items =
    c.in-Ok-run_cells.ensures.ok.ended.many in
    let count : c.len-count.result ≡ vec_len c.args.new.cells = c.len-count.ensures in
    let room : c.len-count.result ≤ vec_capacity c.in-Ok-with_capacity.room =
    c.in-Ok-with_capacity.ensures.capacity in
    omega (arith, same, many, count, c.args.new.cells.ok, room)

pub end_cells-end-requires-clause-few : goal.end_cells-end-requires-clause-few
end_cells-end-requires-clause-few g c κs within =
    let cells = c.in-Ok-run_cells.ended.cells.items in
    few-stops g.P.Processor.seen c.requires.unrun.0 c.args.workers c.args.new c.requires.unrun.1
    cells c.in-Ok-run_cells.ensures.ok.ended c.move_cells.new.cells.items
    (c.move_cells.ensures ∙ c.stop_of-stop.ensures.same) c.stop_of-stop.result
    (subst (λ rs. IsStopFor rs cells c.stop_of-stop.result) c.requires.reserves
    c.stop_of-stop.ensures.stop)

pub end_cells-end-requires-clause-cells : goal.end_cells-end-requires-clause-cells
end_cells-end-requires-clause-cells g c κs within =
    let cells = c.in-Ok-run_cells.ended.cells.items in
    subst (λ table. IfNone c.stop_of-stop.result (AreCellsOfGraph g.P.Processor.seen
    (identity_of table) c.move_cells.new.cells.items)) (sym c.in-Ok-run_cells.ensures.ok.same_table)
    (unstopped-cells g.P.Processor.seen c.requires.unrun.0 c.args.workers c.args.new
    c.requires.unrun.1 cells c.in-Ok-run_cells.ensures.ok.ended c.move_cells.new.cells.items
    (c.move_cells.ensures ∙ c.stop_of-stop.ensures.same) c.stop_of-stop.result
    (subst (λ rs. IsStopFor rs cells c.stop_of-stop.result) c.requires.reserves
    c.stop_of-stop.ensures.stop))

pub give_boxes-requires-in-Ok-run_cells-clause-room :
    goal.give_boxes-requires-in-Ok-run_cells-clause-room
give_boxes-requires-in-Ok-run_cells-clause-room g c κs within =
    let seen = g.P.Processor.seen in
    let back = run-back seen c.requires.unrun.0 c.args.workers c.args.new c.requires.unrun.1
    c.in-Ok-run_cells.ended.cells.items c.in-Ok-run_cells.ensures.ok.ended
    c.move_cells.new.cells.items (c.move_cells.ensures ∙ c.stop_of-stop.ensures.same)
    c.stop_of-stop.result c.end_cells-end.result c.end_cells-end.new.cells.items
    c.end_cells-end.ensures.stopped c.end_cells-end.ensures.back in
    let count = same-count seen c.args.new.cells.items c.end_cells-end.new.cells.items back in
    omega (arith, count, c.requires.room)

pub returns-in-Ok-run_cells-clause-back : goal.returns-in-Ok-run_cells-clause-back
returns-in-Ok-run_cells-clause-back g c =
    let seen = g.P.Processor.seen in
    subst (GivenBack (boxes_in seen c.args.new.cells.items)) (moved seen
    c.end_cells-end.new.cells.items c.give_boxes-in-Ok-run_cells.new.boxes.items
    c.give_boxes-in-Ok-run_cells.ensures)
    (run-back seen c.requires.unrun.0 c.args.workers c.args.new c.requires.unrun.1
    c.in-Ok-run_cells.ended.cells.items c.in-Ok-run_cells.ensures.ok.ended
    c.move_cells.new.cells.items (c.move_cells.ensures ∙ c.stop_of-stop.ensures.same)
    c.stop_of-stop.result c.end_cells-end.result c.end_cells-end.new.cells.items
    c.end_cells-end.ensures.stopped c.end_cells-end.ensures.back)

pub returns-in-Ok-run_cells-clause-end : goal.returns-in-Ok-run_cells-clause-end
returns-in-Ok-run_cells-clause-end g c = λ b unrun.
    let seen = g.P.Processor.seen in
    let cells = c.in-Ok-run_cells.ended.cells.items in
    let after = c.end_cells-end.new.cells.items in
    let old = c.move_cells.new.cells.items in
    let e = c.end_cells-end.result in
    let stop = c.stop_of-stop.result in
    subst (ExecEndHolds e b) (moved seen after
    c.give_boxes-in-Ok-run_cells.new.boxes.items c.give_boxes-in-Ok-run_cells.ensures)
    (run-ended seen b c.args.workers c.args.new unrun cells c.in-Ok-run_cells.ensures.ok.ended
    old (c.move_cells.ensures ∙ c.stop_of-stop.ensures.same) after e stop
    (subst (λ rs. IsStopFor rs cells stop) c.requires.reserves c.stop_of-stop.ensures.stop)
    c.end_cells-end.ensures.stopped c.end_cells-end.ensures.back
    (subst (λ table. IfNone stop ((g : CellGraph) → AreCells seen (identity_of table) g old
    → EndsAs g.wires (boxes_in seen old) (boxes_in seen after) e))
    c.in-Ok-run_cells.ensures.ok.same_table c.end_cells-end.ensures.end))

pub returns-in-Err-clause-back : goal.returns-in-Err-clause-back
returns-in-Err-clause-back g c = moved-back g.P.Processor.seen c.args.new.cells.items
    c.give_boxes-in-Err.new.boxes.items (c.give_boxes-in-Err.ensures
    ∙ ap (map processor_of) c.in-Err.ensures.err.cells_back)
