use Rattle.aggregate_proc.proofs.PutLaws.{left_to_put}
use Rattle.aggregate_proc.proofs.Imports.{List, Value, length, map, ◌≡◌}
use Rattle.chunk_data.specs.declared.typed_value.Value.TheVariants as value
use Rattle.aggregate_proc.specs.declared.fold.Fold.TheVariants as fold
use Rattle.aggregate_proc.proofs.fold.fold_counts.Given as goal

abbrev pub invariant-loop-i : goal.invariant-loop-i
invariant-loop-i l = (vs : List Value) → length vs ≡ length l.places
    → left_to_put fold.Count (map value.UInt l.states.items) l.places vs l.i
    ≡ left_to_put fold.Count (map value.UInt l.initial.states.items) l.places vs 0
