use Rattle.query_model.proofs.Imports.{row_front, ◌≡◌}
use Rattle.query_model.proofs.plain.row_text.Given as goal

abbrev pub invariant-loop-i : goal.invariant-loop-i
invariant-loop-i l = l.text.items ≡ row_front l.row l.i
