use Rattle.std.proofs.Common.{take, ◌≡◌}
use Rattle.plan_laws.proofs.Imports.{draft_of, no_draft, with_nodes}
use Rattle.plan_laws.proofs.builder.build.Given as goal

abbrev pub invariant-loop-node : goal.invariant-loop-node
invariant-loop-node l = draft_of l.builder ≡ with_nodes (take l.node-index l.nodes) no_draft
