use Rattle.csv_rows.proofs.Imports.{◌≡◌, ◌<◌, ◌++◌, ◌∷◌, [], ◌∙◌, arith, append_assoc, row_front-more, row_front-whole, get_or-map}
use Rattle.csv_rows.proofs.text.append_row.Goals as goal

pub loop-c-preserved : goal.loop-c-preserved
loop-c-preserved c = search (arith, get_or-map, append_assoc, row_front-more)

pub returns : goal.returns
returns c = search (arith, append_assoc, row_front-whole)
