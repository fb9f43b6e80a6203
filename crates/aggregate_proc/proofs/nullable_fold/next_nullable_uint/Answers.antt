use Rattle.aggregate_proc.proofs.Imports.{arith, common_steps}
use Rattle.aggregate_proc.proofs.NextLaws.{folds-uints, null-next, starts-null, starts-uint, value-next}
use Rattle.aggregate_proc.proofs.nullable_fold.next_nullable_uint.Goals as goal

pub next_uint-requires : goal.next_uint-requires
next_uint-requires c = grind (arith, folds-uints)

pub returns-else-eq : goal.returns-else-eq
returns-else-eq c =
    grind (arith, common_steps, folds-uints, null-next, starts-null, starts-uint, value-next)

pub returns-in_default-None : goal.returns-in_default-None
returns-in_default-None c =
    grind (arith, common_steps, folds-uints, null-next, starts-null, starts-uint, value-next)

pub returns-in_default-None-2 : goal.returns-in_default-None-2
returns-in_default-None-2 c =
    grind (arith, common_steps, folds-uints, null-next, starts-null, starts-uint, value-next)
