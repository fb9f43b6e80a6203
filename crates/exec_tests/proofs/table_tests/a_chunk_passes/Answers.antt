use Rattle.exec_tests.proofs.TableRows.{all-two, still-all, ◌∙◌}
use Rattle.exec_tests.proofs.table_tests.a_chunk_passes.Goals as goal

pub survey-requires-clause-seats : goal.survey-requires-clause-seats
survey-requires-clause-seats g c = all-two _ _ _ _ c.in_ok-table.ensures.zero.sizes
    (c.as_mut_slice.ensures.value ∙ c.in_ok-nodes.ensures.items)
    (c.rests.ensures c.if-not-rests.false) c.in-Some.ensures

pub shut-requires-clause-nodes : goal.shut-requires-clause-nodes
shut-requires-clause-nodes g c = still-all _ _ _ _ _ c.as_mut_slice.ensures.value
    c.in_ok-nodes.nodes.ok.0 c.survey.auto.seats (all-two _ _ _ _ c.in_ok-table.ensures.zero.sizes
    (c.as_mut_slice.ensures.value ∙ c.in_ok-nodes.ensures.items)
    (c.rests.ensures c.if-not-rests.false) c.in-Some.ensures) c.survey.ensures.seats
