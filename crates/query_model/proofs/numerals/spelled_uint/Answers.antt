use Rattle.query_model.proofs.Imports.{arith, length, ◌<◌, ◌∙◌}
use Rattle.query_model.proofs.NumeralLaws.{with_digits-numeral}
use Rattle.query_model.proofs.numerals.spelled_uint.Goals as goal

pub returns : goal.returns
returns c = let some : 0 < length c.args.field.now = grind (arith, c.if-is_empty.ensures) in
    c.digits_value.ensures ∙ with_digits-numeral c.args.field.now some
