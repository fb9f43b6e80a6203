use Rattle.aggregate_proc.proofs.Imports.{text_value, map, values, ◌≡◌}
use Rattle.aggregate_proc.proofs.PutLaws.{left_to_put}
use Rattle.aggregate_proc.proofs.nullable_fold.fold_nullable_texts.Given as goal

abbrev pub invariant-loop-i : goal.invariant-loop-i
invariant-loop-i l =
    left_to_put l.op (map text_value l.states.items) l.places (values l.column) l.i
    ≡ left_to_put l.op (map text_value l.initial.states.items) l.places (values l.column) 0
