-- How many rows the boxes of a kind pull together in a run.
use Rattle.std.specs.Prelude.{◌+◌, ◌∷◌}
use Rattle.query_model.specs.Prelude.{Checked, CheckedJoin, ColumnType, Grouped, Kind, List, None, Option, Plain, Row, Shape, Some, SortKey, [], length, ℕ}
use Rattle.query_model.specs.Expressions.{Cond}
use Rattle.query_model.specs.Sources.{Database, used_table, source_table, source_rows, filtered_rows}
use Rattle.query_model.specs.Answers.{grouped_rows, output_rows}
use Rattle.query_model.specs.declared.processor_spec.Kind.TheVariants as kind

-- the number of rows at which a condition is tested: all of them, or 0 where there is none
abbrev pub rows_tested : Option Cond → List Row → ℕ
rows_tested None rows = 0
rows_tested (Some c) rows = length rows

-- the number of rows at which HAVING is tested: those of the groups of the filtered rows
abbrev pub groups_tested : Shape → List ColumnType → List Row → ℕ
groups_tested (Plain items) types rows = 0
groups_tested (Grouped g) types rows = rows_tested g.having (grouped_rows g types rows)

-- the number in a grouped query, and else 0
abbrev pub if_grouped : Shape → ℕ → ℕ
if_grouped (Plain items) n = 0
if_grouped (Grouped g) n = n

-- the number in a query without grouping, and else 0
abbrev pub if_plain : Shape → ℕ → ℕ
if_plain (Plain items) n = n
if_plain (Grouped g) n = 0

-- the number where there is ORDER BY, and else 0
abbrev pub if_ordered : List SortKey → ℕ → ℕ
if_ordered [] n = 0
if_ordered (key ∷ keys) n = n

-- the number of rows of both tables where there is JOIN, and else 0
abbrev pub rows_joined : Option CheckedJoin → Database → List Row → ℕ
rows_joined None db left = 0
rows_joined (Some join) db left = length left + length (used_table db join.table).rows

-- The number of rows that the boxes of a kind pull together in a run without LIMIT whose answer is
-- `answer`. A kind of which the query has no use pulls nothing: a Filter without WHERE and HAVING,
-- a PartialAggregate without grouping, a HashJoin without JOIN, a Sort without ORDER BY, and a
-- MergeSorted without ORDER BY or with grouping, since then one Sort has all rows. Of the kinds
-- that come last nothing is said.
abbrev pub flow : Kind → Checked → Database → List Row → Option ℕ
flow kind.Filter q db answer = Some (rows_tested q.filter (source_rows q db)
    + groups_tested q.shape (source_table q db).types (filtered_rows q db))
flow kind.Expression q db answer =
    Some (length (filtered_rows q db) + if_grouped q.shape (length (output_rows q db)))
flow kind.PartialAggregate q db answer = Some (if_grouped q.shape (length (filtered_rows q db)))
flow kind.HashJoin q db answer = Some (rows_joined q.join db (used_table db q.from).rows)
flow kind.Sort q db answer = Some (if_ordered q.order (length (output_rows q db)))
flow kind.MergeSorted q db answer =
    Some (if_ordered q.order (if_plain q.shape (length (output_rows q db))))
flow kind.Collect q db answer = Some (length answer)
flow kind.Csv q db answer = None
flow kind.List q db answer = None
flow kind.Numbers q db answer = None
flow kind.Resize q db answer = None
flow kind.MergeAggregate q db answer = None
flow kind.Limit q db answer = None
