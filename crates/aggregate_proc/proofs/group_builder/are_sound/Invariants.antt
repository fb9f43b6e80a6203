use Rattle.aggregate_proc.proofs.Imports.{StateCall, can_fold, fold_of, get_or, true, ℕ, ◌<◌, ◌≡◌}
use Rattle.aggregate_proc.proofs.group_builder.are_sound.Given as goal

abbrev pub invariant-loop-i : goal.invariant-loop-i
invariant-loop-i l =
    (k : ℕ) (d : StateCall) → k < l.i
    → can_fold (fold_of (get_or l.calls k d).op) (get_or l.calls k d).kind ≡ true
