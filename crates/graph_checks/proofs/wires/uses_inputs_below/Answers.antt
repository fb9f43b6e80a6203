use Rattle.std.proofs.Common.{sym, refl, ◌∙◌}
use Rattle.proc_api.specs.Graphs.{all_below, has_input}
use Rattle.proc_api.proofs.Graphs.{all_below-fails}
use Rattle.graph_checks.proofs.wires.uses_inputs_below.Goals as goal

pub returns-then-not-has_input : goal.returns-then-not-has_input
returns-then-not-has_input c = sym (all_below-fails (has_input c.args.wires.now c.args.node)
    c.args.input c.loop-i.i c.loop-i-test.true (sym c.has_input.ensures ∙ c.if-not-has_input.true)
    (all_below (has_input c.args.wires.now c.args.node) c.args.input) refl)
