use Rattle.aggregate_proc.proofs.Imports.{map, ◌≡◌}
use Rattle.aggregate_proc.proofs.PutLaws.{left_to_put}
use Rattle.chunk_data.specs.declared.typed_value.Value.TheVariants as value
use Rattle.aggregate_proc.proofs.fold.fold_texts.Given as goal

abbrev pub invariant-loop-i : goal.invariant-loop-i
invariant-loop-i l =
    left_to_put l.op (map value.Text l.states.items) l.places (map value.Text l.texts) l.i
    ≡ left_to_put l.op (map value.Text l.initial.states.items) l.places (map value.Text l.texts) 0
