use Rattle.exec_core.proofs.Imports.{ap, eqb, filter_same, not, rules, without, ◌∙◌}
use Rattle.exec_core.proofs.places.without.Goals as goal

pub returns : goal.returns
returns c = let a = c.from_vec.ensures in let b = c.retain.ensures.filtered in
    let d = c.into_vec-edges.ensures in a ∙ (filter_same _ (λ x. not (eqb x c.args.e)) _
    (λ x b f h. search rules) _ _ b ∙ ap (without c.args.e) d)
