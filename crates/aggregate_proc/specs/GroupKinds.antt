-- What the processors that group are loaded with and keep: a partial aggregate, and a merge.
use Rattle.std.specs.Prelude.{◌≡◌, ℕ, suc, ◌<◌, ◌≤◌, ◌==◌, ◌&&◌, ◌||◌, cond, Bool, true, false, List, [], ◌∷◌, ◌++◌, drop, length, map}
use Rattle.aggregate_proc.specs.Prelude.{AggOp, All, Call, ColumnType, GroupSpec, KernelState, Kind, Lists, Offer, OwnState, Row, Spec, StateCall, SumsNoTexts, Table, all_rows, call_of, calls_from, chunk_rows, combine_of, default_states, groups_or_default, idle_own, is_count, kernel_of, merged_rows, merged_states, partial_rows, partial_types, spec_group_types, state_calls}
use Rattle.query_model.specs.declared.query.AggOp.TheVariants as agg
use Rattle.query_model.specs.declared.processor_spec.Kind.TheVariants as kind
use Rattle.query_model.specs.declared.processor_spec.Spec.TheVariants as spec
use Rattle.proc_shell.specs.declared.kernel.Offer.TheVariants as offer
use Rattle.aggregate_proc.specs.declared.fold.Fold.{Fold}
use Rattle.aggregate_proc.specs.declared.fold.Fold.TheVariants as fold
use Rattle.aggregate_proc.specs.declared.phase.Phase.{Phase}
use Rattle.aggregate_proc.specs.declared.phase.Phase.TheVariants as phase
use Rattle.aggregate_proc.specs.Cells.{can_fold}
use Rattle.aggregate_proc.specs.Folds.{FoldColumn}
use Rattle.aggregate_proc.specs.Tables.{Folding, GroupTableView, fold_types, foldings_of, group_table_rows, key_foldings}

-- ---- by whether partial groups are merged

abbrev pub aggregate_spec : Bool → GroupSpec → Spec
aggregate_spec false g = spec.PartialAggregate g
aggregate_spec true g = spec.MergeAggregate g

abbrev pub aggregate_kind : Bool → Kind
aggregate_kind false = kind.PartialAggregate
aggregate_kind true = kind.MergeAggregate

abbrev pub types_for : Bool → GroupSpec → List ColumnType
types_for false g = partial_types g
types_for true g = spec_group_types g

abbrev pub fold_of : AggOp → Fold
fold_of agg.Count = fold.Count
fold_of agg.Sum = fold.Add
fold_of agg.Min = fold.Least
fold_of agg.Max = fold.Greatest

-- counts of parts are added
abbrev pub fold_for : Bool → AggOp → Fold
fold_for false op = fold_of op
fold_for true op = cond (is_count op) fold.AddCounts (fold_of op)

-- whether a call takes a column of the input
abbrev pub takes_column : Bool → AggOp → Bool
takes_column merges op = merges || cond (is_count op) false true

-- the columns of the calls, where the next column of the input is c
abbrev pub call_foldings : Bool → ℕ → List StateCall → List Folding
call_foldings merges c [] = []
call_foldings merges c (call ∷ calls) =
    record { op = fold_for merges call.op; input = c; kind = call.kind }
    ∷ call_foldings merges (cond (takes_column merges call.op) (suc c) c) calls

abbrev pub foldings_for : Bool → GroupSpec → List Folding
foldings_for merges g =
    key_foldings (types_for merges g) (length g.keys) ++ call_foldings merges
    (length g.keys) g.calls

abbrev pub calls_for : Bool → GroupSpec → List Call
calls_for false g = map call_of (calls_from (length g.keys) g.calls)
calls_for true g =
    state_calls (length g.keys) (map (λ (call : StateCall). combine_of call.op) g.calls)

abbrev pub groups_for : Bool → GroupSpec → List Row → List Row
groups_for false g = partial_rows g
groups_for true g = merged_states g

abbrev pub whole_for : Bool → GroupSpec → List Row → List Row
whole_for false g = partial_rows g
whole_for true g = merged_rows g

-- the rows that can be made of the groups
abbrev pub given_for : Bool → GroupSpec → List Row → List Row
given_for merges g rows = groups_or_default (merges && g.lone) (default_states g) rows

abbrev pub worked_rows : Bool → Lists → List Row
worked_rows false worked = chunk_rows (worked 0)
worked_rows true worked = all_rows 32 worked

-- a partial aggregate has one input
abbrev pub open_for : Bool → ℕ → Bool
open_for merges i = merges || (i == 0)

-- `count` is a UInt64, and no text is summed
abbrev pub AreSound : List StateCall → Type 0
AreSound calls =
    All (λ (call : StateCall). can_fold (fold_of call.op) call.kind ≡ true) calls

abbrev pub empty_column : Folding → FoldColumn
empty_column f = record { op = f.op; input = f.input; kind = f.kind; values = [] }

-- the types of the columns that the calls take
abbrev pub call_types : Bool → List StateCall → List ColumnType
call_types merges [] = []
call_types merges (call ∷ calls) =
    cond (takes_column merges call.op) (call.kind ∷ call_types merges calls)
    (call_types merges calls)

-- ---- the state

abbrev pub gathering_own : Table → OwnState
gathering_own t = record idle_own { gathered = t ∷ [] }

abbrev pub giving_own : List Row → OwnState
giving_own rows = record idle_own { unmade = rows; ended = true }

abbrev pub phase_own : Bool → GroupSpec → Phase → OwnState
phase_own merges g (phase.Gathering t) =
    gathering_own (record { types = fold_types t; rows = group_table_rows t })
phase_own merges g phase.Dropping = idle_own
phase_own merges g phase.Empty = giving_own (given_for merges g [])
phase_own merges g (phase.Ended t) = giving_own (given_for merges g (group_table_rows t))
phase_own merges g (phase.Giving chunk next) = giving_own (drop next chunk.rows)
phase_own merges g phase.Failed = giving_own []

-- the table is that of the spec, which sums no texts
pub record IsGroupTableFor (merges : Bool) (g : GroupSpec) (t : GroupTableView) : Type 0 where
  pub summed : SumsNoTexts g
  pub types : t.types ≡ types_for merges g
  pub keys : t.keys ≡ length g.keys
  pub foldings : foldings_of t ≡ foldings_for merges g

abbrev pub IsGroupPhase : Bool → GroupSpec → Phase → Type 0
IsGroupPhase merges g (phase.Gathering t) = IsGroupTableFor merges g t
IsGroupPhase merges g phase.Dropping = SumsNoTexts g → ⊥
IsGroupPhase merges g phase.Empty = Unit {0}
IsGroupPhase merges g (phase.Ended t) = IsGroupTableFor merges g t
IsGroupPhase merges g (phase.Giving chunk next) =
    (chunk.types ≡ spec_group_types g) × (next ≤ length chunk.rows)
IsGroupPhase merges g phase.Failed = Unit {0}

-- the end is noted: from then on the rows that are given of the groups can be made
pub record NotesGroupsEnd (merges : Bool) (g : GroupSpec) (old new : OwnState) : Type 0 where
  pub ended : new.ended ≡ true
  pub was : old.ended ≡ true → new ≡ old
  pub ends : old.ended ≡ false → new ≡ giving_own (given_for merges g (chunk_rows old.gathered))

-- what is offered by what can be made
abbrev pub IsNextOfGroups : OwnState → Offer → Type 0
IsNextOfGroups own offer.Rows = 0 < length own.unmade
IsNextOfGroups own offer.Wants = own.unmade ≡ []
IsNextOfGroups own _ = ⊥

-- ---- a grouping inside its shell

pub record GroupingView : Type 0 where
  pub group : GroupSpec
  pub phase : Phase

-- without GROUP BY it has no keys, and what it has is that of its spec
pub record IsGroupState (merges : Bool) (k : GroupingView) : Type 0 where
  pub bare : k.group.lone ≡ true → k.group.keys ≡ []
  pub phase : IsGroupPhase merges k.group k.phase

abbrev pub grouping_own : Bool → GroupingView → OwnState
grouping_own merges k = phase_own merges k.group k.phase

abbrev pub state_in : Bool → GroupingView → KernelState
state_in merges k =
    kernel_of (aggregate_kind merges) (aggregate_spec merges k.group) (grouping_own merges k)
