use Rattle.port_word.proofs.Imports.{arith, length, rules, ◌-◌, ◌≡◌}
use Rattle.port_word.proofs.Fitting.{fits-grown, inputs-below, outputs-below}
use Rattle.port_word.proofs.port_view.PortView.grow.Goals as goal

pub invariant_of-self-2 : goal.invariant_of-self-2
invariant_of-self-2 c =
    let a : c.len.result ≡ length c.self.inside.inputs.items = search rules in
    let b : c.len-2.result ≡ length c.self.inside.outputs.items = search rules in
    let m = inputs-below _ _ c.args.inputs c.self.view_is c.requires.more_inputs in
    let n = outputs-below _ _ c.args.outputs c.self.view_is c.requires.more_outputs in
    fits-grown _ c.args.inputs c.args.outputs _ _ (c.args.inputs - c.len.result) (c.args.outputs
    - c.len-2.result) _ _ _ c.self.invariant (omega (arith, a, m)) (omega (arith, b, n))
    c.requires.few_inputs c.requires.few_outputs (search rules) (search rules) (search rules)
    (search rules)
