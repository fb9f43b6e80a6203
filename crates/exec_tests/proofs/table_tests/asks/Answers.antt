use Rattle.core_laws.specs.declared.types.Step.TheVariants as step
use Rattle.exec_tests.proofs.TableRows.{Charged, Want, ap, begin_keeps_token, can, can-act, marked_of, marked_peer, refl, rules, stepped, ◌≡◌}
use Rattle.exec_tests.proofs.table_tests.asks.Goals as goal

pub want-requires-clause-ready : goal.want-requires-clause-ready
want-requires-clause-ready c = can-act (c.sees.ensures.saw c.if-not-sees.false 1 1
    (begin_keeps_token c.requires c.token_in.ensures c.begin.ensures (search rules))) Want refl

pub mark-requires-clause-ready : goal.mark-requires-clause-ready
mark-requires-clause-ready c = can (stepped (c.sees.ensures.saw c.if-not-sees.false 1 1
    (begin_keeps_token c.requires c.token_in.ensures c.begin.ensures (search rules))).is
    c.want.ensures refl) (step.Mark 0) refl

pub returns : goal.returns
returns c = λ t. stepped (stepped (c.sees.ensures.saw c.if-not-sees.false 1 1
    (begin_keeps_token c.requires c.token_in.ensures c.begin.ensures (search rules))).is
    c.want.ensures refl) c.mark.ensures (ap (λ r. marked_peer (marked_of r))
    (let q : c.mark.result ≡ Charged = search rules in q))
