-- The calls of a partial aggregate and of a merge are what is folded, and their groups are those by
-- the first values.
use Rattle.aggregate_proc.proofs.Imports.{AggOp, AllByRecursion, AreCalls, Call, FitsTypes, GroupSpec, IsPermutation-grouped_by, Row, StateCall, Value, call_foldings, call_of, calls_for, calls_from, combine_of, combined, counted, distinct_rows, given_for, spec_group_types, grouped_by, groups_for, groups_or_default, key_of, length-append, length-map, length_permutation, rows_with, same_row, state_calls, types_for, value_at, value_of, values_at, whole_for, Text, UInt, length-FitsTypes, Bool, IsPermutation, List, [], ap, arith, false, length, map, refl, suc, sym, true, ℕ, ◌%◌, ◌++◌, ◌^◌, ◌∙◌, ◌∷◌, ◌≡◌}
use Rattle.aggregate_proc.proofs.ListLaws.{filter-same, map-same, map_of_places_is_take}
use Rattle.query_model.specs.declared.query.AggOp.TheVariants as agg

-- ---- calls

counted-alike : (f g : Row → Value) (rows : List Row)
    → combined counted (map f rows) ≡ combined counted (map g rows)
unfolding combined
counted-alike f g rows = ap (λ n. UInt (n % 2 ^ 64)) (length-map rows f ∙ sym (length-map rows g))

partial-calls : (c : ℕ) (calls : List StateCall)
    → AreCalls (call_foldings false c calls) (map call_of (calls_from c calls))
unfolding value_of
partial-calls c [] = tt
partial-calls c (call ∷ calls) = go call.op (λ n. partial-calls n calls)
  where
    go : (op : AggOp)
        → ((n : ℕ) → AreCalls (call_foldings false n calls) (map call_of (calls_from n calls)))
        → AreCalls (call_foldings false c (record call { op = op } ∷ calls))
        (map call_of (calls_from c (record call { op = op } ∷ calls)))
    go agg.Count more = (λ rows. counted-alike (λ r. value_at r c) (λ r. UInt 0) rows, more c)
    go op more = (λ rows. refl, more (suc c))

merge-calls : (c : ℕ) (calls : List StateCall)
    → AreCalls (call_foldings true c calls)
    (state_calls c (map (λ (s : StateCall). combine_of s.op) calls))
merge-calls c [] = tt
merge-calls c (call ∷ calls) = grind (arith, merge-calls (suc c) calls)

pub calls-are : (merges : Bool) (g : GroupSpec)
    → AreCalls (call_foldings merges (length g.keys) g.calls) (calls_for merges g)
calls-are false g = partial-calls (length g.keys) g.calls
calls-are true g = merge-calls (length g.keys) g.calls

-- ---- keys

grouped-same : (P : Row → Type 0) (key other : Row → Row) → ((r : Row) → P r → key r ≡ other r)
    → (calls : List Call) (rows : List Row) → AllByRecursion P rows
    → grouped_by key calls rows ≡ grouped_by other calls rows
grouped-same P key other e calls rows h =
    let with : (k : Row) → rows_with key k rows ≡ rows_with other k rows =
    λ k. filter-same P _ _ (λ r p. ap (same_row k) (e r p)) rows h in
    (λ i. map (λ k. k ++ map (λ (call : Call). combined call.op (map call.arg (with k i))) calls)
    (distinct_rows (map-same P key other e rows h i)))

values-map : (cs : List ℕ) (row : Row) → values_at cs row ≡ map (value_at row) cs
values-map [] row = refl
values-map (c ∷ cs) row = ap (λ l. value_at row c ∷ l) (values-map cs row)

-- the groups are those by the first values
pub groups-by : (merges : Bool) (g : GroupSpec) (rows : List Row)
    → AllByRecursion (FitsTypes (types_for merges g)) rows
    → groups_for merges g rows ≡ grouped_by (key_of (length g.keys)) (calls_for merges g) rows
groups-by false g rows h = grind (arith, grouped-same, values-map)
groups-by true g rows h = grouped-same (FitsTypes (spec_group_types g)) _ _
    (λ r p. let a = length-FitsTypes (spec_group_types g) r p in
    let b = length-append g.keys (map (λ (c : StateCall). c.kind) g.calls) in
    sym (map_of_places_is_take (length g.keys) r (Text []) (omega (arith, a, b))))
    (calls_for true g) rows h

-- ---- what is given of the groups

default-permutation : (lone : Bool) (d : Row) (xs ys : List Row) → IsPermutation xs ys
    → IsPermutation (groups_or_default lone d xs) (groups_or_default lone d ys)
default-permutation lone d xs ys h = grind (arith, length_permutation)

pub given-whole : (merges : Bool) (g : GroupSpec) (rows order : List Row) → IsPermutation rows order
    → IsPermutation (whole_for merges g rows) (given_for merges g (groups_for merges g order))
given-whole merges g rows order h = grind (arith, IsPermutation-grouped_by, default-permutation)
