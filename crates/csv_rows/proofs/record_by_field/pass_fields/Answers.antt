use Rattle.csv_rows.proofs.Imports.{◌∙◌, sym}
use Rattle.csv_rows.proofs.FieldPlaces.{more_next, more_last}
use Rattle.csv_rows.proofs.record_by_field.pass_fields.Goals as goal

pub fields-preserved : goal.fields-preserved
fields-preserved c =
    more_next c.fields.invariant (sym c.byte_at.ensures ∙ c.fields-test.true) c.in_ok-end.ensures

pub returns : goal.returns
returns c = more_last c.fields.invariant c.line_end.ensures
