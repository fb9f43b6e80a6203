use Rattle.std.proofs.Common.{◌≡◌, true}
use Rattle.proc_api.specs.Graphs.{all_below, has_output}
use Rattle.graph_checks.proofs.wires.uses_outputs_below.Given as goal

abbrev pub invariant-loop-o : goal.invariant-loop-o
invariant-loop-o l = all_below (has_output l.wires l.node) l.o ≡ true
