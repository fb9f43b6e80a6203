use Rattle.query_run.proofs.Imports.{PlanNode, map, take, ◌≡◌}
use Rattle.query_run.proofs.planning.ranks_of.Given as goal

abbrev pub invariant-loop-node : goal.invariant-loop-node
invariant-loop-node l =
    l.ranks.items ≡ map (λ (n : PlanNode). n.rank) (take l.node-index l.nodes)
