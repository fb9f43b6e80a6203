use Rattle.query_model.proofs.Imports.{arith}
use Rattle.query_model.proofs.NumeralLaws.{with_digits-step, with_digits-end}
use Rattle.query_model.proofs.numerals.digits_value.Goals as goal

pub returns-in-None : goal.returns-in-None
returns-in-None c = grind (arith, with_digits-step)

pub loop-b-preserved : goal.loop-b-preserved
loop-b-preserved c = grind (arith, with_digits-step)

pub returns : goal.returns
returns c = grind (arith, with_digits-end)
