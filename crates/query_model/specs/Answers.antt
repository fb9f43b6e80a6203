-- The answers of a query: its output rows, their order, and the limit.
use Rattle.std.specs.Prelude.{◌+◌, ◌==◌, ◌≡◌}
use Rattle.query_model.specs.Prelude.{Checked, ColumnType, Grouped, Grouping, IsPermutation, IsSorted, List, None, Option, Plain, Row, Shape, Some, SortKey, Span, cond, drop, map, row_cmp, take, values_at, ℕ}
use Rattle.query_model.specs.Expressions.{Expr, value_of, rows_where}
use Rattle.query_model.specs.Sources.{Database, source_table, filtered_rows}
use Rattle.query_model.specs.Groups.{groups, groups_or_default, default_row}

-- the row of the items' values
abbrev pub item_row : List Expr → Row → Row
item_row items row = map (λ e. value_of e row) items

-- the groups of the rows, or the one row of defaults
abbrev pub grouped_rows : Grouping → List ColumnType → List Row → List Row
grouped_rows g types rows =
    groups_or_default g.lone (default_row g.calls types) (groups g.keys g.calls rows)

-- what SELECT makes of the filtered rows
abbrev pub selected_rows : Shape → List ColumnType → List Row → List Row
selected_rows (Plain items) types rows = map (item_row items) rows
selected_rows (Grouped g) types rows =
    map (values_at g.picks) (rows_where g.having (grouped_rows g types rows))

-- the rows of the answer, before order and limit
abbrev pub output_rows : Checked → Database → List Row
output_rows q db = selected_rows q.shape (source_table q db).types (filtered_rows q db)

-- the first `count` rows after the first `skip`; all where there is no LIMIT
abbrev pub limited : Option Span → List Row → List Row
limited None rows = rows
limited (Some span) rows = take span.count (drop span.skip rows)

-- how many rows a limit must read, at least one
abbrev pub enough : Span → ℕ
enough span = cond (span.count == 0) 1 (span.skip + span.count)

-- the rows in some order that the keys allow, of which the limit leaves the answer
pub record IsOrderedAnswer (keys : List SortKey) (limit : Option Span)
    (rows answer : List Row) : Type 0 where
  pub ordered : List Row
  pub same_rows : IsPermutation rows ordered
  pub in_order : IsSorted (row_cmp keys) ordered
  pub is : answer ≡ limited limit ordered

abbrev pub IsAnswer : Checked → Database → List Row → Type 0
IsAnswer q db answer = IsOrderedAnswer q.order q.limit (output_rows q db) answer
