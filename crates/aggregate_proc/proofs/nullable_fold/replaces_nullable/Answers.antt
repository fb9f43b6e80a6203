use Rattle.aggregate_proc.proofs.Imports.{arith, common_steps}
use Rattle.aggregate_proc.proofs.NextLaws.{folds-texts, null-next, starts-null, starts-text, value-next}
use Rattle.aggregate_proc.proofs.nullable_fold.replaces_nullable.Goals as goal

pub replaces-requires : goal.replaces-requires
replaces-requires c = grind (arith, folds-texts)

pub returns-in-None-Some : goal.returns-in-None-Some
returns-in-None-Some c =
    grind (arith, common_steps, folds-texts, null-next, starts-null, starts-text, value-next)

pub returns-in_default-None : goal.returns-in_default-None
returns-in_default-None c =
    grind (arith, common_steps, folds-texts, null-next, starts-null, starts-text, value-next)

pub returns-in_default-None-2 : goal.returns-in_default-None-2
returns-in_default-None-2 c =
    grind (arith, common_steps, folds-texts, null-next, starts-null, starts-text, value-next)
