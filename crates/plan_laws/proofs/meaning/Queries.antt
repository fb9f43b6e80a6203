-- What the plan of a checked query makes of rows is what the query selects.
use Rattle.plan_laws.proofs.Imports.{List, None, Option, Some, [], ap, ap₂, arith, false, is_none, length, map, refl, suc, sym, take, true, zero, ℕ, ◌++◌, ◌+◌, ◌∙◌, ◌∷◌, ◌≡◌, ◌≤◌, AggCall, AggOp, AllByRecursion, Call, Checked, ColumnType, Database, Expr, ExprOf, Grouped, Grouping, IsAnswer, Plain, Row, Shape, Text, append_assoc, both_ways, call_of, count_up, filter-map, get_or_at, grouped_by, grouped_rows, groups, item_row, length-append, length-map, map-append, map-map, selected_rows, take_at, take_more, value_at, value_of, values_at, HasCalls, IsCall, IsPlanOf, call_arguments, column_items, group_spec, grouped_of, shape_of, state_call, RowsOfSources, SelectPlan, shape_rows, calls_from, is_count, Flow}
use Rattle.plan_laws.proofs.meaning.Plans.{PlanMade}
use Rattle.query_model.specs.declared.query.AggOp.TheVariants as agg
use Rattle.query_model.specs.declared.query.ExprOf.TheVariants as expr

-- groups of made rows are the groups by what the key and the calls are of the rows before
pub grouped_by-map : (f : Row → Row) (key : Row → Row) (calls : List Call) (rows : List Row)
    → grouped_by key calls (map f rows) ≡ grouped_by (λ r. key (f r))
    (map (λ (c : Call). record { op = c.op; arg = λ r. c.arg (f r) }) calls) rows
grouped_by-map f key calls rows = grind (arith, map-map, filter-map)

-- the first columns of a row
first-values : (n : ℕ) (row : Row) → n ≤ length row → values_at (count_up n) row ≡ take n row
unfolding count_up
first-values zero row le = refl
first-values (suc n) row le =
    values-append (count_up n) (n ∷ []) row
    ∙ ap (λ l. l ++ value_at row n ∷ []) (first-values n row (omega (arith, le)))
    ∙ sym (take_more row n (Text []) (omega (arith, le)))
    ∙ (let next : n + 1 ≡ suc n = omega arith in ap (λ k. take k row) next)
  where
    values-append : (xs bs : List ℕ) (row : Row) → values_at (xs ++ bs) row ≡ values_at xs row
        ++ values_at bs row
    values-append [] bs row = refl
    values-append (x ∷ xs) bs row = ap (λ l. value_at row x ∷ l) (values-append xs bs row)

columns-values : (cs : List ℕ) (row : Row) → map (λ (e : Expr). value_of e row) (column_items cs)
    ≡ values_at cs row
unfolding value_of
columns-values [] row = refl
columns-values (c ∷ cs) row = ap (λ l. value_at row c ∷ l) (columns-values cs row)

values-count : (cs : List ℕ) (row : Row) → length (values_at cs row) ≡ length cs
values-count [] row = refl
values-count (c ∷ cs) row = ap suc (values-count cs row)

-- the keys of the row of keys and arguments
keys-kept : (cs : List ℕ) (es : List Expr) (row : Row)
    → values_at (count_up (length cs)) (item_row (column_items cs ++ es) row) ≡ values_at cs row
keys-kept cs es row =
    search (arith, map-append, columns-values, values-count, first-values, length-append, take_at)

-- the argument behind the others
argument-at : (front rest : List Expr) (e : Expr) (row : Row)
    → value_of (expr.Column (length front)) (item_row (front ++ e ∷ rest) row) ≡ value_of e row
unfolding value_of
argument-at front rest e row = search (arith, map-append, get_or_at, length-map)

-- the call over the row that these expressions make
abbrev over : List Expr → Call → Call
over all x = record { op = x.op; arg = λ (r : Row). x.arg (item_row all r) }

-- the calls over the row of keys and arguments are the calls over the row
abbrev AreKept : List ColumnType → List Expr → List (AggCall ℕ) → Type 0
AreKept types front calls =
    map (over (front ++ call_arguments calls))
    (map call_of (calls_from (length front) (map (state_call types) calls))) ≡ map call_of calls

calls-kept : (types : List ColumnType) (front : List Expr) (calls : List (AggCall ℕ))
    → AllByRecursion IsCall calls → AreKept types front calls
calls-kept types front [] h = refl
calls-kept types front (call ∷ calls) h =
    go call.op call.arg h.0 (λ front'. calls-kept types front' calls h.1)
  where
    go : (op : AggOp) (arg : Option (ExprOf ℕ)) → is_count op ≡ is_none arg
        → ((front' : List Expr) → AreKept types front' calls)
        → AreKept types front (record { op = op; arg = arg } ∷ calls)
    go agg.Count None e more = search (arith)
    go agg.Count (Some a) e more = absurd (both_ways true e refl)
    go op None e more = absurd (both_ways false refl e)
    go op (Some a) e more = grind (arith, argument-at, append_assoc, length-append front (a ∷ []))

-- the groups of the rows of keys and arguments
groups-kept : (types : List ColumnType) (keys : List ℕ) (calls : List (AggCall ℕ)) (rows : List Row)
    → AllByRecursion IsCall calls
    → groups (count_up (length keys)) (calls_from (length keys) (map (state_call types) calls))
    (map (item_row (column_items keys ++ call_arguments calls)) rows) ≡ groups keys calls rows
groups-kept types keys calls rows h =
    let all : List Expr = column_items keys ++ call_arguments calls in
    let count : length (column_items keys) ≡ length keys = length-map keys (λ c. expr.Column c) in
    grouped_by-map (item_row all) (values_at (count_up (length keys)))
    (map call_of (calls_from (length keys) (map (state_call types) calls))) rows
    ∙ ap₂ (λ key cs. grouped_by key cs rows) (λ i r. keys-kept keys (call_arguments calls) r i)
    (ap (λ n. map (over all) (map call_of (calls_from n (map (state_call types) calls))))
    (sym count) ∙ calls-kept types (column_items keys) calls h)

picks-kept : (picks : List ℕ) (rows : List Row) → map (item_row (column_items picks)) rows ≡ map
    (values_at picks) rows
picks-kept picks rows = ap (λ f. map f rows) (λ i r. columns-values picks r i)

-- The groups that the plan makes of the filtered rows are those of the query.
pub groups-selected : (g : Grouping) (types : List ColumnType) (n : ℕ) (rows : List Row)
    → AllByRecursion IsCall g.calls
    → grouped_of (group_spec g types n)
    (map (item_row (column_items g.keys ++ call_arguments g.calls)) rows)
    ≡ grouped_rows g types rows
groups-selected g types n rows h =
    grind (arith, map-map, length-map, groups-kept types g.keys g.calls rows h)

-- What the plan makes of the filtered rows is what the query selects.
pub shape-selects : (shape : Shape) (types : List ColumnType) (n : ℕ) (rows : List Row)
    → HasCalls shape → shape_rows (shape_of shape types n) rows ≡ selected_rows shape types rows
shape-selects (Plain items) types n rows h = refl
shape-selects (Grouped g) types n rows h = search (arith, picks-kept, groups-selected)

-- The rows of a flow that a query's plan makes are an answer of the query.
pub query-answers : (q : Checked) (db : Database) (parts : RowsOfSources) (p : SelectPlan)
    (flow : Flow) (rows : List Row) → IsPlanOf q db parts p → PlanMade parts p flow
    → rows ≡ flow.rows → IsAnswer q db rows
query-answers q db parts p flow rows is made same = search (arith, shape-selects)
