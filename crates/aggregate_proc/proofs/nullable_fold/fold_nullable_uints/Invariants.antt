use Rattle.aggregate_proc.proofs.Imports.{uint_value, map, values, ◌≡◌}
use Rattle.aggregate_proc.proofs.PutLaws.{left_to_put}
use Rattle.aggregate_proc.proofs.nullable_fold.fold_nullable_uints.Given as goal

abbrev pub invariant-loop-i : goal.invariant-loop-i
invariant-loop-i l =
    left_to_put l.op (map uint_value l.states.items) l.places (values l.column) l.i
    ≡ left_to_put l.op (map uint_value l.initial.states.items) l.places (values l.column) 0
