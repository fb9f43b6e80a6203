use Rattle.csv_rows.proofs.FieldPlaces.{text_ends}
use Rattle.csv_rows.proofs.field_ends.line_end.Goals as goal

pub returns-else-at-bytes : goal.returns-else-at-bytes
returns-else-at-bytes c =
    text_ends c.args.bytes.now c.args.at c.requires.within c.if-at-bytes.false
