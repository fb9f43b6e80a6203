-- The rows that a query reads: a table's, or those of two joined tables.
use Rattle.std.specs.Prelude.{◌&&◌, ◌++◌, ◌||◌, ◌∷◌}
use Rattle.query_model.specs.Prelude.{Bool, Checked, CheckedJoin, Declared, KeyPair, List, None, Numbers, Option, Row, Some, Table, TableUse, UInt, Value, [], filter, flat_map, is_eq, is_null, map, not, slice_index_or, suc, true, value_at, value_cmp, zero, ℕ}
use Rattle.query_model.specs.Expressions.{rows_where}
use Rattle.chunk_data.specs.declared.typed_value.ColumnType.TheVariants as column

-- the declared tables, by their places
abbrev pub Database : Type 0
Database = List Table

-- 0 to n - 1
unfoldable pub count_up : ℕ → List ℕ
count_up zero = []
count_up (suc n) = count_up n ++ n ∷ []

-- the table `numbers(n)`: one UInt64 column
abbrev pub numbers : ℕ → Table
numbers n = record { types = column.UInt64 ∷ []; rows = map (λ k. UInt k ∷ []) (count_up n) }

abbrev pub used_table : Database → TableUse → Table
used_table db (Declared t) = slice_index_or db t (record { types = []; rows = [] })
used_table db (Numbers n) = numbers n

-- two values agree where neither is NULL and they are equal
abbrev pub values_agree : Value → Value → Bool
values_agree a b = not (is_null a || is_null b) && is_eq (value_cmp a b)

-- two rows agree on every pair of columns
abbrev pub agree : List KeyPair → Row → Row → Bool
agree [] l r = true
agree (pair ∷ pairs) l r =
    values_agree (value_at l pair.left) (value_at r pair.right) && agree pairs l r

-- each row of the one table beside each row of the other with which it agrees
abbrev pub joined_rows : List KeyPair → List Row → List Row → List Row
joined_rows pairs ls rs = flat_map (λ l. map (λ r. l ++ r) (filter (agree pairs l) rs)) ls

-- the table with the columns and rows of FROM and JOIN
abbrev pub joined_table : Option CheckedJoin → Database → Table → Table
joined_table None db left = left
joined_table (Some join) db left =
    let right = used_table db join.table in
    record { types = left.types ++ right.types; rows = joined_rows join.pairs left.rows right.rows }

abbrev pub source_table : Checked → Database → Table
source_table q db = joined_table q.join db (used_table db q.from)

abbrev pub source_rows : Checked → Database → List Row
source_rows q db = (source_table q db).rows

-- the source rows at which WHERE is true
abbrev pub filtered_rows : Checked → Database → List Row
filtered_rows q db = rows_where q.filter (source_rows q db)
