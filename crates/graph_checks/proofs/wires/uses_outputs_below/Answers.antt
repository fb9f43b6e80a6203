use Rattle.std.proofs.Common.{sym, refl, ◌∙◌}
use Rattle.proc_api.specs.Graphs.{all_below, has_output}
use Rattle.proc_api.proofs.Graphs.{all_below-fails}
use Rattle.graph_checks.proofs.wires.uses_outputs_below.Goals as goal

pub returns-then-not-has_output : goal.returns-then-not-has_output
returns-then-not-has_output c = sym (all_below-fails (has_output c.args.wires.now c.args.node)
    c.args.out c.loop-o.o c.loop-o-test.true (sym c.has_output.ensures ∙ c.if-not-has_output.true)
    (all_below (has_output c.args.wires.now c.args.node) c.args.out) refl)
