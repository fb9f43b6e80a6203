use Rattle.exec_tests.proofs.TableRows.{Pull, can-act, can_act, slot_has_content, full, in-hand, refl, subst, sym, true, ◌≡◌, ◌∙◌}
use Rattle.exec_tests.proofs.table_tests.takes.Goals as goal

pub lift-chunk-requires-clause-slot : goal.lift-chunk-requires-clause-slot
lift-chunk-requires-clause-slot c = let w = c.sees.ensures.saw c.if-not-sees.false 1 c.requires.0
    c.requires.1 in full _ (slot_has_content true _ (in-hand w.is
    ∙ (sym c.has_slot.ensures ∙ c.if-not-has_slot.false)) w.fits)

pub pull-requires-clause-ready : goal.pull-requires-clause-ready
pull-requires-clause-ready c = subst (λ x. can_act Pull x 0 ≡ true)
    (sym c.lift-chunk.ensures.view) (can-act (c.sees.ensures.saw c.if-not-sees.false 1 c.requires.0
    c.requires.1) Pull refl)
