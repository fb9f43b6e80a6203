-- A partial aggregate and a merge inside the shell.
use Rattle.std.proofs.Common.{◌≡◌, ℕ, Bool, true, false, List, Some, refl}
use Rattle.aggregate_proc.specs.Prelude.{GroupSpec, IsShelled, IsWorkOf, Table, kind_of, shelled-of, shelled-still, work_of}
use Rattle.query_model.specs.declared.processor_spec.Spec.TheVariants as spec
use Rattle.aggregate_proc.specs.GroupKinds.{GroupingView, aggregate_kind, aggregate_spec, state_in}
use Rattle.aggregate_proc.specs.declared.phase.Phase.{Phase}
use Rattle.aggregate_proc.specs.declared.phase.Phase.TheVariants as phase

pub grouping_shelled : (merges : Bool) (g : GroupSpec) → IsShelled (aggregate_spec merges g)
grouping_shelled false g =
    shelled-of (spec.PartialAggregate g) 1 refl (record { ports = λ growth m n h. h })
grouping_shelled true g =
    shelled-still (spec.MergeAggregate g) refl
    (record { position = λ kept m n h. h; one = λ growth m n h. h })

pub grouping_kind : (merges : Bool) (g : GroupSpec) → kind_of (aggregate_spec merges g)
    ≡ aggregate_kind merges
grouping_kind false g = refl
grouping_kind true g = refl

pub grouping_uses : (merges : Bool) (k : GroupingView) (i : ℕ) (unworked made : List Table)
    → IsWorkOf (Some (aggregate_spec merges k.group)) (work_of (state_in merges k) i unworked made)
grouping_uses merges k i unworked made = go merges k.phase
  where
    go : (b : Bool) (p : Phase)
        → IsWorkOf (Some (aggregate_spec b k.group))
        (work_of (state_in b (record k { phase = p })) i unworked made)
    go false (phase.Gathering t) = refl
    go false p = refl
    go true (phase.Gathering t) = refl
    go true p = refl
