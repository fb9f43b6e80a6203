use Rattle.select_planner.proofs.Imports.{boxes_reserved, boxes_taken, sum_by, take, ◌+◌, ◌≡◌}
use Rattle.select_planner.proofs.stock.needs.Given as goal

abbrev pub invariant-loop-reserve : goal.invariant-loop-reserve
invariant-loop-reserve l =
    l.count ≡ boxes_taken l.kind l.plan.nodes
    + sum_by (boxes_reserved l.kind) (take l.reserve-index l.plan.reserves)
