use Rattle.std.proofs.Common.{◌≡◌, ℕ, ◌<◌, true}
use Rattle.proc_api.specs.Graphs.{is_gapless}
use Rattle.exec_graph.proofs.graph.first_gap.Given as goal

-- no earlier node has a gap
abbrev pub invariant-loop-node : goal.invariant-loop-node
invariant-loop-node l = (m : ℕ) → m < l.node → is_gapless l.wires m ≡ true
