use Rattle.query_run.proofs.Imports.{boxes_needed, map}
use Rattle.query_run.proofs.Stocks.{HasBefore}
use Rattle.query_run.proofs.stock.first_shortage.Given as goal

abbrev pub invariant-loop-kind : goal.invariant-loop-kind
invariant-loop-kind g l =
    HasBefore l.kind-index (boxes_needed l.plan)
    (map (λ b. (goal.Processor-dyn g (b.vtable, b.value)).seen b.value) l.rack.boxes.items)
