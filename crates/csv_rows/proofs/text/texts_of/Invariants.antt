use Rattle.csv_rows.proofs.Imports.{Text}
use Rattle.query_model.proofs.Imports.{map, take, ◌≡◌}
use Rattle.csv_rows.proofs.text.texts_of.Given as goal

abbrev pub invariant-loop-name : goal.invariant-loop-name
invariant-loop-name l = l.row.items ≡ map Text (take l.name-index l.names)
