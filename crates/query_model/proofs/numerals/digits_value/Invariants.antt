use Rattle.query_model.proofs.Imports.{drop, with_digits, ◌≡◌}
use Rattle.query_model.proofs.numerals.digits_value.Given as goal

abbrev pub invariant-loop-b : goal.invariant-loop-b
invariant-loop-b l = with_digits l.number (drop l.b-index l.digits) ≡ with_digits 0 l.digits
