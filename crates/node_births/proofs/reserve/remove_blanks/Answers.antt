use Rattle.node_births.proofs.Imports.{Blank, filter_same, is_left, rules}
use Rattle.node_births.proofs.reserve.remove_blanks.Goals as goal

pub returns : goal.returns
returns c = filter_same _ (λ (b : Blank). is_left c.args.places.now b) _ (λ x b f h. search rules)
    _ _ c.retain.ensures.filtered
