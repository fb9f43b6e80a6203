use Rattle.node_ends.proofs.Imports.{AreAll, Surveyed, ap, identity_of, length, seats_of, subst, sym, views, ◌∙◌}
use Rattle.node_ends.proofs.Lists.{written-whole}
use Rattle.node_ends.proofs.Surveys.{survey-made, survey-shown}
use Rattle.node_ends.proofs.cells_survey.survey_cells.Goals as goal

pub survey-requires-clause-seats : goal.survey-requires-clause-seats
survey-requires-clause-seats g c = subst (AreAll (identity_of c.args.table.now))
    (sym (c.as_mut_slice.ensures.value ∙ c.take_apart.ensures.seats)) c.requires.seats

pub returns-clause-cells : goal.returns-clause-cells
returns-clause-cells g c =
    let whole = written-whole c.survey.new.seats c.take_apart.new.seats.items _
    (c.survey.auto.seats ∙ ap length c.as_mut_slice.ensures.value)
    (sym (c.survey.auto.seats ∙ c.as_mut_slice.ensures.len)) in
    survey-made (identity_of c.args.table.now) c.args.cells.now.items
    c.put_together.new.cells.items c.take_apart.new.bodies.items c.as_mut_slice.result.now
    c.survey.new.seats c.take_apart.ensures.bodies
    (c.as_mut_slice.ensures.value ∙ c.take_apart.ensures.seats) c.survey.ensures.seats
    c.put_together.ensures.bodies (c.put_together.ensures.seats ∙ whole)

pub returns-clause-shown : goal.returns-clause-shown
returns-clause-shown g c =
    let whole = written-whole c.survey.new.seats c.take_apart.new.seats.items _
    (c.survey.auto.seats ∙ ap length c.as_mut_slice.ensures.value)
    (sym (c.survey.auto.seats ∙ c.as_mut_slice.ensures.len)) in
    subst (λ l. Surveyed l (views (seats_of c.put_together.new.cells.items)))
    (sym (written-whole c.survey.new.words c.args.room.now.words.items _
    (c.survey.auto.words ∙ ap length c.as_mut_slice-2.ensures.value)
    (sym (c.survey.auto.words ∙ c.as_mut_slice-2.ensures.len))))
    (survey-shown (identity_of c.args.table.now) c.args.cells.now.items
    c.put_together.new.cells.items c.take_apart.new.bodies.items c.as_mut_slice.result.now
    c.survey.new.seats c.take_apart.ensures.bodies
    (c.as_mut_slice.ensures.value ∙ c.take_apart.ensures.seats) c.survey.ensures.seats
    c.put_together.ensures.bodies (c.put_together.ensures.seats ∙ whole) c.survey.new.words
    c.survey.ensures.shown)
