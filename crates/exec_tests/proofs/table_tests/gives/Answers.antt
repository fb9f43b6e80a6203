use Rattle.core_laws.specs.declared.types.Step.TheVariants as step
use Rattle.exec_tests.proofs.TableRows.{AlreadyDue, Push, and_from, ap, begin_keeps_token, can, empty, slot_has_content, can-act, false, in-hand, marked_of, marked_peer, refl, rules, stepped, sym, ◌≡◌, ◌∙◌}
use Rattle.std.proofs.lemmas.Bool.{eq-eqb}
use Rattle.exec_tests.proofs.table_tests.gives.Goals as goal

pub sees-requires : goal.sees-requires
sees-requires c =
    (0, 1, begin_keeps_token c.requires c.token_in.ensures c.begin.ensures (search rules))

pub push-requires-clause-ready : goal.push-requires-clause-ready
push-requires-clause-ready c = and_from _ _ (can-act (c.sees.ensures.saw c.if-not-sees.false 0 1
    (begin_keeps_token c.requires c.token_in.ensures c.begin.ensures (search rules))) (Push 0) refl)
    (eq-eqb _ _ refl)

pub push-requires-clause-slot : goal.push-requires-clause-slot
push-requires-clause-slot c = let w = c.sees.ensures.saw c.if-not-sees.false 0 1
    (begin_keeps_token c.requires c.token_in.ensures c.begin.ensures (search rules)) in
    empty _ (slot_has_content false _
    (in-hand w.is ∙ (sym c.has_slot.ensures ∙ c.if-not-has_slot.false))
    w.fits)

pub mark-requires-clause-ready : goal.mark-requires-clause-ready
mark-requires-clause-ready c = can (stepped (c.sees.ensures.saw c.if-not-sees.false 0 1
    (begin_keeps_token c.requires c.token_in.ensures c.begin.ensures (search rules))).is
    c.push.ensures refl) (step.Mark 0) refl

pub returns : goal.returns
returns c = λ t. stepped (stepped (c.sees.ensures.saw c.if-not-sees.false 0 1
    (begin_keeps_token c.requires c.token_in.ensures c.begin.ensures (search rules))).is
    c.push.ensures refl) c.mark.ensures (ap (λ r. marked_peer (marked_of r))
    (let q : c.mark.result ≡ AlreadyDue = search rules in q))
