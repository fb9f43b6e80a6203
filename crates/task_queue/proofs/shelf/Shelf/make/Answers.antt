use Rattle.task_queue.proofs.Imports.{ap, rules, values_of, ◌∙◌}
use Rattle.task_queue.proofs.ShelfRule.{kept-opening}
use Rattle.task_queue.proofs.SlotValues.{values_of-full}
use Rattle.task_queue.proofs.shelf.Shelf.make.Goals as goal

pub new-requires : goal.new-requires
new-requires g c =
    kept-opening c.args.values.items _ _ c.requires.fit (search rules) c.lay_out.ensures.slots

pub returns-in-Err-clause-err : goal.returns-in-Err-clause-err
returns-in-Err-clause-err g c = c.give_back.ensures
    ∙ (ap values_of c.lay_out.ensures.slots ∙ values_of-full c.args.values.items)

pub returns-in-Err-new-clause-err : goal.returns-in-Err-new-clause-err
returns-in-Err-new-clause-err g c = c.give_back-in-Err-new.ensures
    ∙ (ap values_of (c.in-Err-new.ensures.err ∙ c.lay_out.ensures.slots)
    ∙ values_of-full c.args.values.items)
