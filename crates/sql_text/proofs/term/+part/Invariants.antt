use Rattle.sql_text.proofs.Imports.{◌≡◌, suc, ◌+◌, ◌-◌, ◌*◌, length, joined, part_at, part_form}
use Rattle.sql_text.proofs.term.+part.Given as goal

abbrev pub decreases-part_at : goal.decreases-part_at
decreases-part_at g l = 3 * l.depth

abbrev pub decreases-joined : goal.decreases-joined
decreases-joined g l = 3 * l.depth + 2

abbrev pub decreases-turn_of : goal.decreases-turn_of
decreases-turn_of g l = 3 * l.depth + 1

abbrev pub decreases-first_term : goal.decreases-first_term
decreases-first_term g l = 3 * l.depth + 1

abbrev pub invariant-joined-loop-turn : goal.invariant-joined-loop-turn
invariant-joined-loop-turn g l =
    let read = joined g.S.ConditionSide.rules (part_at g.S.ConditionSide.rules l.depth) l.least in
    let turns = suc (length l.fn.tokens) in
    let form = part_form g.S.ConditionSide.form in
    read turns (form l.fn.first) l.fn.tokens ≡ read (turns - l._turn) (form l.part) l.rest
