use Rattle.exec_core.proofs.Imports.{drop, edges_of, filter, is_updated, ◌++◌, ◌≡◌}
use Rattle.exec_core.proofs.node_steps.updated.Given as goal

abbrev pub invariant-loop-sight : goal.invariant-loop-sight
invariant-loop-sight l = filter (is_updated l.core l.n) (edges_of l.seen) ≡ l.edges.items
    ++ filter (is_updated l.core l.n) (edges_of (drop l.sight-index l.seen))
