use Rattle.aggregate_proc.proofs.Imports.{arith, common_steps}
use Rattle.aggregate_proc.proofs.NextLaws.{folds-ints, null-next, starts-int, starts-null, value-next}
use Rattle.aggregate_proc.proofs.nullable_fold.next_nullable_int.Goals as goal

pub next_int-requires : goal.next_int-requires
next_int-requires c = grind (arith, folds-ints)

pub returns-else-eq : goal.returns-else-eq
returns-else-eq c =
    grind (arith, common_steps, folds-ints, null-next, starts-int, starts-null, value-next)

pub returns-in_default-None : goal.returns-in_default-None
returns-in_default-None c =
    grind (arith, common_steps, folds-ints, null-next, starts-int, starts-null, value-next)

pub returns-in_default-None-2 : goal.returns-in_default-None-2
returns-in_default-None-2 c =
    grind (arith, common_steps, folds-ints, null-next, starts-int, starts-null, value-next)
