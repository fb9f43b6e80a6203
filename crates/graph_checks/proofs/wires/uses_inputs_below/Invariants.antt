use Rattle.std.proofs.Common.{◌≡◌, true}
use Rattle.proc_api.specs.Graphs.{all_below, has_input}
use Rattle.graph_checks.proofs.wires.uses_inputs_below.Given as goal

abbrev pub invariant-loop-i : goal.invariant-loop-i
invariant-loop-i l = all_below (has_input l.wires l.node) l.i ≡ true
