-- What a partial aggregate and a merge make of their rows.
use Rattle.std.specs.Prelude.{◌&&◌, ◌++◌, ◌∷◌, ◌≡◌}
use Rattle.chunk_data.specs.Values.{is_text}
use Rattle.proc_api.specs.Prelude.{AggCall, AggOp, All, AllByRecursion, Bool, ColumnType, ExprOf, FitsTypes, GroupSpec, IsPermutation, List, None, Row, Some, StateCall, [], combine_of, cond, count_up, default_value, false, groups, groups_or_default, length, map, merged_groups, suc, true, ℕ}
use Rattle.proc_api.specs.Boxes.{OwnState}
use Rattle.proc_api.specs.Histories.{chunk_rows}

abbrev pub is_count : AggOp → Bool
is_count AggOp.Count = true
is_count _ = false

abbrev pub is_sum : AggOp → Bool
is_sum AggOp.Count = false
is_sum AggOp.Sum = true
is_sum AggOp.Min = false
is_sum AggOp.Max = false

-- whether a call sums texts
abbrev pub sums_texts : StateCall → Bool
sums_texts call = is_sum call.op && is_text call.kind

abbrev pub SumsNoTexts : GroupSpec → Type 0
SumsNoTexts g = All (λ (call : StateCall). sums_texts call ≡ false) g.calls

-- the types are those of the input, and no call sums texts
pub record FitsGroups (g : GroupSpec) (input types : List ColumnType) : Type 0 where
  pub types_are : types ≡ input
  pub summed : SumsNoTexts g

-- The calls of a partial aggregate. Its input has the keys, and from column c on the argument of
-- each call but `count`.
abbrev pub calls_from : ℕ → List StateCall → List (AggCall ℕ)
calls_from c [] = []
calls_from c (call ∷ calls) =
    let this : AggCall ℕ =
    record { op = call.op; arg = cond (is_count call.op) None (Some (ExprOf.Column c)) } in
    this ∷ calls_from (cond (is_count call.op) c (suc c)) calls

abbrev pub partial_rows : GroupSpec → List Row → List Row
partial_rows g rows = groups (count_up (length g.keys)) (calls_from (length g.keys) g.calls) rows

-- the groups of partial groups
abbrev pub merged_states : GroupSpec → List Row → List Row
merged_states g rows =
    merged_groups (length g.keys) (map (λ (call : StateCall). combine_of call.op) g.calls) rows

abbrev pub default_states : GroupSpec → Row
default_states g = map (λ (call : StateCall). default_value call.kind) g.calls

abbrev pub merged_rows : GroupSpec → List Row → List Row
merged_rows g rows = groups_or_default g.lone (default_states g) (merged_states g rows)

-- the types of the arguments of all calls but `count`
abbrev pub argument_types : List StateCall → List ColumnType
argument_types [] = []
argument_types (call ∷ calls) =
    cond (is_count call.op) (argument_types calls) (call.kind ∷ argument_types calls)

-- the types of a partial aggregate's input
abbrev pub partial_types : GroupSpec → List ColumnType
partial_types g = g.keys ++ argument_types g.calls

-- the types of partial groups, and of their merge
abbrev pub spec_group_types : GroupSpec → List ColumnType
spec_group_types g = g.keys ++ map (λ (c : StateCall). c.kind) g.calls

-- Nothing is made yet, and the groups of the rows, in some order of these, are gathered. The rows
-- fit the types of the input.
pub record AreGathering (types : List ColumnType) (groups : List Row → List Row) (own : OwnState)
    (rows made : List Row)
    : Type 0 where
  pub nothing_made : made ≡ []
  pub nothing_unmade : own.unmade ≡ []
  pub order : List Row
  pub same : IsPermutation rows order
  pub fit : AllByRecursion (FitsTypes types) order
  pub groups_are : chunk_rows own.gathered ≡ groups order

-- The groups are gathered until the end is noted. From then on the rows that are made and those
-- that can be made are what is made of all rows, in some order.
pub record AreGrouped (types : List ColumnType) (groups whole : List Row → List Row)
    (own : OwnState) (rows made : List Row) : Type 0 where
  pub gathering : own.ended ≡ false → AreGathering types groups own rows made
  pub grouped : own.ended ≡ true → IsPermutation (whole rows) (made ++ own.unmade)
