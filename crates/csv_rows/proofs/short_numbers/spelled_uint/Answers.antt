use Rattle.csv_rows.proofs.Imports.{◌∙◌, arith, with_digits-end, with_digits-numeral}
use Rattle.csv_rows.proofs.ShortNumbers.{read_more}
use Rattle.csv_rows.proofs.short_numbers.spelled_uint.Goals as goal

pub loop-b-init : goal.loop-b-init
loop-b-init c =
    (with_digits-numeral c.args.field.now (grind (arith, c.if-is_empty.ensures)), λ _. omega arith)

pub loop-b-preserved : goal.loop-b-preserved
loop-b-preserved c =
    let h = c.loop-b.invariant in
    let more = read_more c.args.field.now c.loop-b.b-index c.loop-b.number
    c.with_digit-number.result c.loop-b.good c.is_ascii_digit-good.result c.loop-b-test.true
    (omega (arith, c.if-field-gt-SHORT.false)) h.1 c.is_ascii_digit-good.ensures.value
    c.with_digit-number.ensures in
    (more.0 ∙ h.0, more.1)

pub returns-then-good : goal.returns-then-good
returns-then-good c = search (arith, with_digits-end)
