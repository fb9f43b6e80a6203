-- The plan of a checked query.
use Rattle.std.specs.Prelude.{List, None, Option, Some, [], is_none, map, ℕ, ◌++◌, ◌∷◌, ◌≡◌}
use Rattle.plan_laws.specs.Prelude.{AggCall, AllByRecursion, Checked, ColumnType, Database, Expr, ExprOf, GroupSpec, Grouped, Grouping, Plain, Shape, StateCall, call_type, is_count, source_rows, source_table}
use Rattle.plan_laws.specs.Streams.{RowsOfSources}
use Rattle.plan_laws.specs.Plans.{PlanShape, SelectPlan, grouped, plain, plan_keys, read_rows}
use Rattle.chunk_data.specs.Values.{type_at}
use Rattle.query_model.specs.declared.query.ExprOf.TheVariants as expr

abbrev pub with_argument : Option (ExprOf ℕ) → List Expr → List Expr
with_argument None more = more
with_argument (Some e) more = e ∷ more

-- the arguments of the calls that have one
abbrev pub call_arguments : List (AggCall ℕ) → List Expr
call_arguments [] = []
call_arguments (call ∷ calls) = with_argument call.arg (call_arguments calls)

abbrev pub column_items : List ℕ → List Expr
column_items places = map (λ c. expr.Column c) places

abbrev pub state_call : List ColumnType → AggCall ℕ → StateCall
state_call types call = record { op = call.op; kind = call_type call.op call.arg types }

abbrev pub group_spec : Grouping → List ColumnType → ℕ → GroupSpec
group_spec g types rows = record {
  keys = map (type_at types) g.keys;
  calls = map (state_call types) g.calls;
  lone = g.lone;
  rows = rows;
}

abbrev pub shape_of : Shape → List ColumnType → ℕ → PlanShape
shape_of (Plain items) types rows = plain items
shape_of (Grouped g) types rows = grouped (column_items g.keys ++ call_arguments g.calls)
    (group_spec g types rows) g.having (column_items g.picks)

-- `count` has no argument, and each other call has one
abbrev pub IsCall : AggCall ℕ → Type 0
IsCall call = is_count call.op ≡ is_none call.arg

abbrev pub HasCalls : Shape → Type 0
HasCalls (Plain items) = Unit {0}
HasCalls (Grouped g) = AllByRecursion IsCall g.calls

-- The plan of the query over tables with the database's rows. Of the sources it says that they give
-- these rows together.
pub record IsPlanOf (q : Checked) (db : Database) (parts : RowsOfSources) (p : SelectPlan) : Type
    0 where
  pub chunk_rows : ℕ
  pub calls : HasCalls q.shape
  pub shape : p.shape ≡ shape_of q.shape (source_table q db).types chunk_rows
  pub filter : p.filter ≡ q.filter
  pub order : plan_keys p.order ≡ q.order
  pub limit : p.limit ≡ q.limit
  pub read : read_rows parts p.sources p.join ≡ source_rows q db
