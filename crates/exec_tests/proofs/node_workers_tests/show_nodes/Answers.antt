use Rattle.std.proofs.Common.{Some}
use Rattle.std.proofs.lemmas.List.Elements.{All-pop}
use Rattle.exec_table.specs.Seats.{identity_of}
use Rattle.exec_tests.specs.EndedCells.{Lies}
use Rattle.exec_tests.proofs.node_workers_tests.show_nodes.Goals as goal

pub loop-cell-preserved : goal.loop-cell-preserved
loop-cell-preserved g c = (All-pop (Lies
    (λ b. (goal.Processor-dyn g (b.vtable, b.value)).seen b.value)
    (identity_of c.args.ended.table)) c.loop-cell.cells.items c.pop.new.self.items
    (Some c.in-Some.cell) c.in-Some.ensures.items c.loop-cell.invariant).0

pub loop-cell-preserved-in_ok-show_node : goal.loop-cell-preserved-in_ok-show_node
loop-cell-preserved-in_ok-show_node g c = (All-pop (Lies
    (λ b. (goal.Processor-dyn g (b.vtable, b.value)).seen b.value)
    (identity_of c.args.ended.table)) c.loop-cell.cells.items c.pop.new.self.items
    (Some c.in-Some.cell) c.in-Some.ensures.items c.loop-cell.invariant).0

pub loop-cell-preserved-in_ok-show_node-2 : goal.loop-cell-preserved-in_ok-show_node-2
loop-cell-preserved-in_ok-show_node-2 g c = (All-pop (Lies
    (λ b. (goal.Processor-dyn g (b.vtable, b.value)).seen b.value)
    (identity_of c.args.ended.table)) c.loop-cell.cells.items c.pop.new.self.items
    (Some c.in-Some.cell) c.in-Some.ensures.items c.loop-cell.invariant).0
