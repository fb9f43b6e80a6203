-- How many boxes of each kind the plan of a query takes.
use Rattle.std.specs.Prelude.{◌+◌, ◌∷◌}
use Rattle.query_model.specs.Prelude.{Checked, CheckedJoin, Declared, Grouped, Kind, List, ListFile, None, Numbers, Option, PartsDecl, Paths, Plain, Shape, Some, SortKey, Span, TableDecl, TableUse, [], length, slice_get, sum_by, ℕ}
use Rattle.query_model.specs.Database.{used_tables}
use Rattle.query_model.specs.Flow.{if_grouped, if_plain, if_ordered}
use Rattle.query_model.specs.Expressions.{Cond}
use Rattle.query_model.specs.declared.processor_spec.Kind.TheVariants as kind

-- a source for each path; those that are kept for the paths of a list file
abbrev pub part_sources_need : PartsDecl → ℕ
part_sources_need (Paths paths) = length paths
part_sources_need (ListFile path) = 32

abbrev pub list_sources_need : PartsDecl → ℕ
list_sources_need (Paths paths) = 0
list_sources_need (ListFile path) = 1

abbrev pub if_declared : (PartsDecl → ℕ) → Option TableDecl → ℕ
if_declared f None = 0
if_declared f (Some decl) = f decl.parts

-- what a used table needs: by its declaration, or so many for numbers
abbrev pub table_need : (PartsDecl → ℕ) → ℕ → List TableDecl → TableUse → ℕ
table_need f n tables (Declared t) = if_declared f (slice_get tables t)
table_need f n tables (Numbers m) = n

-- what the used tables need together
abbrev pub tables_need : (PartsDecl → ℕ) → ℕ → Checked → List TableDecl → ℕ
tables_need f n q tables = sum_by (table_need f n tables) (used_tables q)

-- the number where there is a condition, and else 0
abbrev pub if_filtered : Option Cond → ℕ → ℕ
if_filtered None n = 0
if_filtered (Some c) n = n

-- the first number where there is JOIN, and else the second
abbrev pub if_joined : Option CheckedJoin → ℕ → ℕ → ℕ
if_joined None m n = n
if_joined (Some join) m n = m

-- the number where there is HAVING, and else 0
abbrev pub having_need : Shape → ℕ → ℕ
having_need (Plain items) n = 0
having_need (Grouped g) n = if_filtered g.having n

-- the number where there is no ORDER BY, and else 0
abbrev pub if_unordered : List SortKey → ℕ → ℕ
if_unordered [] n = n
if_unordered (key ∷ keys) n = 0

-- how many nodes sort: one a lane, or one of all groups
abbrev pub sorts_need : Shape → ℕ → ℕ
sorts_need (Plain items) lanes = lanes
sorts_need (Grouped g) lanes = 1

-- the number where there is LIMIT, and else 0
abbrev pub if_limited : Option Span → ℕ → ℕ
if_limited None n = 0
if_limited (Some span) n = n

-- How many boxes of the kind the plan of the query over the declared tables takes, with so many
-- lanes. The sources that are kept for the paths of a list file count among them.
abbrev pub query_boxes : Checked → List TableDecl → (lanes : ℕ) → Kind → ℕ
query_boxes q tables lanes kind.Csv = tables_need part_sources_need 0 q tables
query_boxes q tables lanes kind.List = tables_need list_sources_need 0 q tables
query_boxes q tables lanes kind.Numbers = tables_need (λ decl. 0) 1 q tables
query_boxes q tables lanes kind.Filter = if_filtered q.filter lanes + having_need q.shape 1
query_boxes q tables lanes kind.Expression = lanes + if_grouped q.shape 1
query_boxes q tables lanes kind.Resize =
    if_joined q.join 3 1 + if_plain q.shape (if_unordered q.order 1)
query_boxes q tables lanes kind.PartialAggregate = if_grouped q.shape lanes
query_boxes q tables lanes kind.MergeAggregate = if_grouped q.shape 1
query_boxes q tables lanes kind.HashJoin = if_joined q.join 1 0
query_boxes q tables lanes kind.Sort = if_ordered q.order (sorts_need q.shape lanes)
query_boxes q tables lanes kind.MergeSorted = if_ordered q.order (if_plain q.shape 1)
query_boxes q tables lanes kind.Limit = if_limited q.limit 1
query_boxes q tables lanes kind.Collect = 1
