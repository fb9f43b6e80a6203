use Rattle.pipeline_exec.proofs.Imports.{IfNone, subst, sym}
use Rattle.exec_table.specs.Seats.{identity_of}
use Rattle.node_ends.specs.CellLists.{AreCells, AreCellsOfGraph, CellGraph, boxes_in}
use Rattle.pipeline_exec.specs.WorkerRuns.{EndsAs}
use Rattle.pipeline_exec.proofs.worker_run.end_cells.Goals as goal

pub end_nodes-requires-clause-cells : goal.end_nodes-requires-clause-cells
end_nodes-requires-clause-cells g c κs within =
    subst (λ stop. IfNone stop (AreCellsOfGraph g.P.Processor.seen (identity_of c.args.table.now)
    c.args.cells.now.items)) c.in-None.is c.requires.cells

pub returns-in-None-clause-end : goal.returns-in-None-clause-end
returns-in-None-clause-end g c = subst (λ stop. IfNone stop ((g' : CellGraph)
    → AreCells g.P.Processor.seen (identity_of c.args.table.now) g' c.args.cells.now.items
    → EndsAs g'.wires (boxes_in g.P.Processor.seen c.args.cells.now.items)
    (boxes_in g.P.Processor.seen c.end_nodes.new.cells.items) c.exec_end.result)) (sym c.in-None.is)
    (λ g' all. (c.end_nodes.result, (c.end_nodes.ensures.end g' all, c.exec_end.ensures)))
