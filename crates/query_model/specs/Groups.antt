-- Groups of rows and their aggregates, and the merge of partial states.
use Rattle.std.specs.Prelude.{if◌then◌else◌, ◌%◌, ◌++◌, ◌+ℤ◌, ◌+◌, ◌^◌, ◌∷◌}
use Rattle.query_model.specs.Prelude.{AggCall, AggOp, Bool, ColumnType, Count, ExprOf, List, Max, Min, None, Null, Option, Row, Some, Sum, UInt, Value, [], default_value, false, filter, fold, is_lt, is_null, length, list_all, map, not, pos, same_row, take, true, value_at, value_cmp, values_at, ℕ, ℤ}
use Rattle.query_model.specs.Numbers.{exact, is_uint, wrapped}
use Rattle.query_model.specs.Expressions.{value_of, type_of}
use Rattle.chunk_data.specs.declared.typed_value.ColumnType.TheVariants as column

abbrev pub exact_sum : List Value → ℤ
exact_sum [] = pos 0
exact_sum (v ∷ vs) = exact v +ℤ exact_sum vs

abbrev pub lesser : Value → Value → Value
lesser a b = if is_lt (value_cmp b a) then b else a

abbrev pub greater : Value → Value → Value
greater a b = if is_lt (value_cmp a b) then b else a

-- the values that aren't NULL
abbrev pub valid_values : List Value → List Value
valid_values vs = filter (λ v. not (is_null v)) vs

-- the sum of numbers of one type, modulo 2 ^ 64 in this type; NULL of none
unfoldable pub wrapped_sum : List Value → Value
wrapped_sum [] = Null
wrapped_sum (v ∷ vs) = wrapped (list_all is_uint (v ∷ vs)) (exact_sum (v ∷ vs))

-- the first, or what a choice of two leaves of all; NULL of none
unfoldable pub chosen : (Value → Value → Value) → List Value → Value
chosen choose [] = Null
chosen choose (v ∷ vs) = fold choose v vs

-- What is made of values: their number, their sum, the sum of partial numbers, the least, or the
-- greatest.
pub data Combine : Type 0 where
  counted : Combine
  added : Combine
  counts_added : Combine
  least : Combine
  greatest : Combine

abbrev pub combine_of : AggOp → Combine
combine_of Count = counted
combine_of Sum = added
combine_of Min = least
combine_of Max = greatest

-- what is made of partial results: numbers are added, and of the others the same is made again
abbrev pub merge_of : Combine → Combine
merge_of counted = counts_added
merge_of added = added
merge_of counts_added = counts_added
merge_of least = least
merge_of greatest = greatest

-- What is made of one or more values; numbers are taken modulo 2 ^ 64. The sum, the least and the
-- greatest are of those that aren't NULL, and NULL where there is none.
unfoldable pub combined : Combine → List Value → Value
combined counted vs = UInt (length vs % 2 ^ 64)
combined added vs = wrapped_sum (valid_values vs)
combined counts_added vs = wrapped true (exact_sum vs)
combined least vs = chosen lesser (valid_values vs)
combined greatest vs = chosen greater (valid_values vs)

-- a combination, and the value of a row that it is over
pub record Call : Type 0 where
  pub op : Combine
  pub arg : Row → Value

-- each once, in order of first appearance
unfoldable pub distinct : {X : Type 0} → (X → X → Bool) → List X → List X
distinct same [] = []
distinct same (x ∷ xs) = x ∷ filter (λ y. not (same x y)) (distinct same xs)

abbrev pub distinct_rows : List Row → List Row
distinct_rows rows = distinct same_row rows

-- the rows with this key
abbrev pub rows_with : (Row → Row) → Row → List Row → List Row
rows_with key k rows = filter (λ r. same_row k (key r)) rows

-- one row for each distinct key, in order of first appearance: the key, and each call's value over
-- the rows with it
abbrev pub grouped_by : (Row → Row) → List Call → List Row → List Row
grouped_by key calls rows =
    map (λ k. k ++ map (λ (call : Call). combined call.op (map call.arg (rows_with key k rows)))
    calls) (distinct_rows (map key rows))

-- what a call is over: the value of its argument; `count` has none
abbrev pub argument_of : Option (ExprOf ℕ) → Row → Value
argument_of None row = UInt 0
argument_of (Some e) row = value_of e row

abbrev pub call_of : AggCall ℕ → Call
call_of call = record { op = combine_of call.op; arg = argument_of call.arg }

-- the groups of rows by the columns `keys`
abbrev pub groups : List ℕ → List (AggCall ℕ) → List Row → List Row
groups keys calls rows = grouped_by (values_at keys) (map call_of calls) rows

-- the calls over rows whose states begin in column c
abbrev pub state_calls : ℕ → List Combine → List Call
state_calls c [] = []
state_calls c (op ∷ ops) =
    record { op = merge_of op; arg = λ row. value_at row c } ∷ state_calls (c + 1) ops

-- the groups of rows that have n keys and then the states of partial groups
abbrev pub merged_groups : ℕ → List Combine → List Row → List Row
merged_groups n ops rows = grouped_by (take n) (state_calls n ops) rows

-- the type of a call's value
abbrev pub call_type : AggOp → Option (ExprOf ℕ) → List ColumnType → ColumnType
call_type Count arg types = column.UInt64
call_type op None types = column.UInt64
call_type op (Some e) types = type_of e types

-- the row of an aggregate query over no rows: a call on an argument that may be NULL is NULL
abbrev pub default_row : List (AggCall ℕ) → List ColumnType → Row
default_row calls types =
    map (λ (call : AggCall ℕ). default_value (call_type call.op call.arg types)) calls

-- the groups, or without GROUP BY and without rows the one default row
abbrev pub groups_or_default : Bool → Row → List Row → List Row
groups_or_default true default [] = default ∷ []
groups_or_default true default (row ∷ rows) = row ∷ rows
groups_or_default false default rows = rows
