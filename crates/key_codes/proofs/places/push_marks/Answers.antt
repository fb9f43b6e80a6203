use Rattle.key_codes.proofs.Imports.{arith, common_steps, no_null}
use Rattle.key_codes.proofs.KeyLaws.{cell-value, marks-next}
use Rattle.key_codes.proofs.places.push_marks.Goals as goal

pub loop-place-preserved : goal.loop-place-preserved
loop-place-preserved c = grind (arith, common_steps, cell-value, marks-next, no_null)
