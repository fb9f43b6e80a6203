use Rattle.sql_text.proofs.Imports.{◌-◌, length, list_at}
use Rattle.sql_text.proofs.ListTurns.{IsAt}
use Rattle.sql_text.proofs.lists.list_at.Given as goal

abbrev pub invariant-loop-turn : goal.invariant-loop-turn
invariant-loop-turn g l =
    let read = g.T.Listed.reading l.depth in
    IsAt read l.separator (list_at read l.separator (length l.tokens) l.tokens)
    (g.T.Listed.trees l.elements.items) (length l.tokens - l._turn) l.rest
