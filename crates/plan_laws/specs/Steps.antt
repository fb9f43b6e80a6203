-- What a checked query fills in of the table of steps.
use Rattle.std.specs.Prelude.{Bool, List, None, Option, Some, [], slice_get, suc, ℕ, ◌++◌, ◌∷◌}
use Rattle.plan_laws.specs.Prelude.{Checked, CheckedJoin, ColumnType, Declared, JoinSpec, Kind, ListFile, Numbers, PartSpec, PartsDecl, Paths, SortKey, SortSpec, Spec, TableDecl, TableUse, column_types, numbers, shape_types}
use Rattle.plan_laws.specs.Plans.{PlanJoin, SelectPlan}
use Rattle.plan_laws.specs.Queries.{shape_of}
use Rattle.query_model.specs.declared.processor_spec.Kind.TheVariants as kind
use Rattle.query_model.specs.declared.processor_spec.Spec.TheVariants as spec

-- how the parts of a table are read: the place of the table, the types of its columns, whether the
-- first record is passed over, and the most rows of a chunk
pub record SourceReading : Type 0 where
  pub table : ℕ
  pub types : List ColumnType
  pub header : Bool
  pub rows : ℕ

abbrev pub part_spec : SourceReading → ℕ → List ℕ → PartSpec
part_spec r part path = record {
  table = r.table;
  part = part;
  path = path;
  types = r.types;
  header = r.header;
  rows = r.rows;
}

-- the source of a part's rows, and that of a list of parts, with its kind
abbrev pub part_source : PartSpec → Spec
part_source part = spec.Csv part

abbrev pub list_kind : Kind
list_kind = kind.List

abbrev pub list_source : PartSpec → Spec
list_source list = spec.List list

-- a source for each path, of which the first is that of part k
abbrev pub path_sources : SourceReading → ℕ → List (List ℕ) → List Spec
path_sources r k [] = []
path_sources r k (path ∷ paths) = part_source (part_spec r k path) ∷ path_sources r (suc k) paths

abbrev pub part_sources : SourceReading → PartsDecl → List Spec
part_sources r (Paths paths) = path_sources r 1 paths
part_sources r (ListFile path) = list_source (part_spec r 0 path) ∷ []

abbrev pub table_reading : (header : Bool) (rows table : ℕ) → TableDecl → SourceReading
table_reading header rows t decl = record {
  table = t;
  types = column_types decl.schema;
  header = header;
  rows = rows;
}

abbrev pub declared_sources : (header : Bool) (rows table : ℕ) → Option TableDecl → List Spec
declared_sources header rows t None = []
declared_sources header rows t (Some decl) =
    part_sources (table_reading header rows t decl) decl.parts

-- the sources of a used table: its parts, its list file, or the numbers
abbrev pub table_sources : List TableDecl → (header : Bool) (rows : ℕ) → TableUse → List Spec
table_sources tables header rows (Declared t) =
    declared_sources header rows t (slice_get tables t)
table_sources tables header rows (Numbers n) = spec.Numbers n rows ∷ []

abbrev pub types_declared : Option TableDecl → List ColumnType
types_declared None = []
types_declared (Some decl) = column_types decl.schema

-- the types of a used table's columns
abbrev pub used_types : List TableDecl → TableUse → List ColumnType
used_types tables (Declared t) = types_declared (slice_get tables t)
used_types tables (Numbers n) = (numbers n).types

abbrev pub join_spec : List TableDecl → (rows : ℕ) → TableUse → CheckedJoin → JoinSpec
join_spec tables rows from j = record {
  pairs = j.pairs;
  left = used_types tables from;
  right = used_types tables j.table;
  rows = rows;
}

abbrev pub join_of : List TableDecl → (header : Bool) (rows : ℕ) → TableUse → Option CheckedJoin
    → Option PlanJoin
join_of tables header rows from None = None
join_of tables header rows from (Some j) = Some (record {
  sources = table_sources tables header rows j.table;
  join = join_spec tables rows from j;
})

-- the types of the columns of FROM and then of JOIN
abbrev pub source_types : List TableDecl → TableUse → Option CheckedJoin → List ColumnType
source_types tables from None = used_types tables from
source_types tables from (Some j) = used_types tables from ++ used_types tables j.table

abbrev pub order_of : List ColumnType → ℕ → List SortKey → Option SortSpec
order_of types rows [] = None
order_of types rows (key ∷ keys) =
    Some (record { keys = key ∷ keys; types = types; rows = rows })

-- The plan of the query over the declared tables, with so many lanes and rows of a chunk, where the
-- order's rows have these types.
abbrev pub ordered_plan : Checked → List TableDecl → (lanes rows : ℕ) → (header : Bool)
    → List ColumnType → SelectPlan
ordered_plan q tables lanes rows header types = record {
  sources = table_sources tables header rows q.from;
  join = join_of tables header rows q.from q.join;
  filter = q.filter;
  shape = shape_of q.shape (source_types tables q.from q.join) rows;
  order = order_of types rows q.order;
  limit = q.limit;
  lanes = lanes;
}

-- the plan of the query, whose order is of the rows that its shape makes
abbrev pub select_plan : Checked → List TableDecl → (lanes rows : ℕ) → (header : Bool) → SelectPlan
select_plan q tables lanes rows header =
    ordered_plan q tables lanes rows header
    (shape_types q.shape (source_types tables q.from q.join))
