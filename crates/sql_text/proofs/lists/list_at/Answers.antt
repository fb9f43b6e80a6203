use Rattle.std.proofs.Common.{Some, sym, ap, ◌∙◌, arith}
use Rattle.sql_text.proofs.ListTurns.{at_next, at_end, at_fault, no_turns}
use Rattle.sql_text.proofs.lists.list_at.Goals as goal

pub returns-in-Err : goal.returns-in-Err
returns-in-Err g c = at_fault c.loop-turn.invariant (omega arith) c.in-Err.error c.in-Err.ensures

pub loop-turn-preserved : goal.loop-turn-preserved
loop-turn-preserved g c =
    rw (ap g.T.Listed.trees c.in_ok-push-in-Ok.ensures.items ∙ g.met.T.Listed.more _ _)
    (at_next c.loop-turn.invariant (omega arith) (g.T.Listed.tree c.in-Ok.element)
    c.in-Ok.after.now c.in-Some.next.now c.in-Ok.ensures (sym c.in-Some.ensures))

pub returns-in-None : goal.returns-in-None
returns-in-None g c =
    let push = c.from_vec.ensures ∙ c.in_ok-push-in-Ok.ensures.items in
    at_end c.loop-turn.invariant (omega arith) (g.T.Listed.tree c.in-Ok.element) c.in-Ok.after.now
    c.in-Ok.ensures (sym c.in-None.ensures) ∙ ap (λ xs. Some (xs, c.in-Ok.after.now))
    (sym (ap g.T.Listed.trees push ∙ g.met.T.Listed.more _ _))

pub returns : goal.returns
returns g c = no_turns c.loop-turn.invariant (omega arith)
