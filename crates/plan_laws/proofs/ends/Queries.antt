-- In a run of a query's plan the collector has a front of an answer of the query; at the end it has
-- the answer, and its boxes pulled their flow.
use Rattle.plan_laws.proofs.Imports.{Bool, IfSome, List, None, Option, Some, [], ap, arith, collector_kind, cond, flat_map, length, list_source, part_source, refl, slice_get, subst, suc, sym, true, ℕ, ◌+◌, ◌<◌, ◌∙◌, ◌∷◌, ◌≡◌, ◌⊎◌, All, AllByRecursion, body_nodes, AreKeyPairs, BoxPicture, Checked, CheckedJoin, ColumnType, Database, Declared, DraftNode, Files, HasCalls, IsAnswer, IsCut, IsPlanOf, IsSmall, IsSourceSpec, IsTypedFilter, IsTypedShape, JoinsSources, Kind, ListFile, NodePort, Numbers, PartSpec, RowsOfSources, PartsDecl, Paths, SourceReading, SelectPlan, SortKey, Spec, Stream, Table, TableDecl, TableUse, append-nil, chunk_rows, count_over, database, declared_sources, declared_table, flow, forms, get_or-map, get_or_past, join_of, join_pulls, join_spec, joined_table, length-map, of_kind, order_of, output_rows, part_paths, part_rows, part_sources, part_spec, path_sources, plan_keys, plan_nodes, plan_rows, plan_valid, pulled_rows, read_rows, table_reading, rows_joined, same_kind, select_plan, shape_of, slice_get_cases, source_types, sources_rows, sum_by-cons, table_sources, types_declared, used_table, used_types, HasEnded, part_of, sources_of_files, stream_pulled_at, shape_types, query_boxes, LawfulSnapshot, Row, ◌++◌}
use Rattle.plan_laws.proofs.meaning.Plans.{PlanMade, plan-block}
use Rattle.plan_laws.proofs.meaning.Fitting.{body-level}
use Rattle.plan_laws.proofs.meaning.PlanGraphs.{plan-graph}
use Rattle.plan_laws.proofs.meaning.PlanTypes.{OneType}
use Rattle.plan_laws.proofs.meaning.BoxCounts.{boxes_for, plan-needs}
use Rattle.plan_laws.proofs.meaning.Blocks.{none-of}
use Rattle.plan_laws.proofs.meaning.Queries.{query-answers, shape-selects}
use Rattle.query_model.specs.declared.processor_spec.Kind.TheVariants as kind
use Rattle.plan_laws.proofs.ends.Answers.{ListRun}
use Rattle.plan_laws.proofs.ends.Columns.{IsTypedSelect}
use Rattle.plan_laws.proofs.ends.Flows.{HasFlowed, collector-pulled, flow-pulled}
use Rattle.plan_laws.proofs.ends.LaidEnds.{laid-ended, laid-run}
use Rattle.plan_laws.proofs.ends.LaidPlans.{IsQueryPlan, made_types, select-laid}
use Rattle.plan_laws.proofs.ends.ShapeTypes.{has-calls}
use Rattle.plan_laws.proofs.ends.TypedPlans.{FitsOrdering, IsTypedJoin, read_types}
use Rattle.query_model.specs.declared.processor_spec.Spec.TheVariants as spec

-- ---- tables

abbrev table_in : Bool → Files → Option TableDecl → Table
table_in header files None = record { types = []; rows = [] }
table_in header files (Some decl) = declared_table header files decl

-- the types of a used table's columns
pub types-used : (header : Bool) (files : Files) (tables : List TableDecl) (u : TableUse)
    → used_types tables u ≡ (used_table (database header files tables) u).types
types-used header files tables u =
    grind (arith, slice_get_cases, get_or-map, get_or_past, length-map)

module _ (files : Files) (parts : RowsOfSources)
    (same : (part : PartSpec) → parts (part_source part) ≡ part_of files part) where
  paths-rows : (r : SourceReading) (k : ℕ) (paths : List (List ℕ))
      → sources_rows parts (path_sources r k paths)
      ≡ flat_map (part_rows r.header r.types files) paths
  paths-rows r k [] = refl
  paths-rows r k (path ∷ paths) = grind (arith, paths-rows r (suc k) paths)

-- the rows of a declaration's parts, or of the parts that its list names
declared-rows : (files : Files) (r : SourceReading) (d : PartsDecl)
    → sources_rows (sources_of_files files) (part_sources r d)
    ≡ flat_map (part_rows r.header r.types files) (part_paths files d)
declared-rows files r (Paths paths) = grind (arith, paths-rows)
declared-rows files r (ListFile path) = search (arith, append-nil, paths-rows)

-- the rows of a used table are those of its sources
pub rows-used : (header : Bool) (files : Files) (tables : List TableDecl) (rows : ℕ) (u : TableUse)
    → sources_rows (sources_of_files files) (table_sources tables header rows u)
    ≡ (used_table (database header files tables) u).rows
rows-used header files tables rows u =
    grind (arith, declared-rows, append-nil, slice_get_cases, get_or-map, get_or_past, length-map)

-- ---- sources

paths-sources : (P : Spec → Type 0) (r : SourceReading)
    → ((k : ℕ) (path : List ℕ) → P (part_source (part_spec r k path)))
    → (k : ℕ) (paths : List (List ℕ)) → AllByRecursion P (path_sources r k paths)
paths-sources P r h k [] = tt
paths-sources P r h k (path ∷ paths) = (h k path, paths-sources P r h (suc k) paths)

-- what holds of a source of parts, or of a list of them
abbrev OfBoth : (Spec → Type 0) → PartSpec → Type 0
OfBoth P part = P (part_source part) × P (list_source part)

-- what holds of each source of a used table
pub each-source : (P : Spec → Type 0) (tables : List TableDecl) (header : Bool) (rows : ℕ)
    (u : TableUse)
    → ((part : PartSpec) → part.types ≡ used_types tables u → OfBoth P part)
    → ((n : ℕ) → u ≡ Numbers n → P (spec.Numbers n rows))
    → AllByRecursion P (table_sources tables header rows u)
each-source P tables header rows (Declared t) file num = go (slice_get tables t) file
  where
    of-parts : (r : SourceReading) (d : PartsDecl)
        → ((part : PartSpec) → part.types ≡ r.types → OfBoth P part)
        → AllByRecursion P (part_sources r d)
    of-parts r (Paths paths) file =
        paths-sources P r (λ k path. (file (part_spec r k path) refl).0) 1 paths
    of-parts r (ListFile path) file = ((file (part_spec r 0 path) refl).1, tt)

    go : (o : Option TableDecl)
        → ((part : PartSpec) → part.types ≡ types_declared o → OfBoth P part)
        → AllByRecursion P (declared_sources header rows t o)
    go None file = tt
    go (Some decl) file = of-parts (table_reading header rows t decl) decl.parts file
each-source P tables header rows (Numbers n) file num = (num n refl, tt)

-- ---- the plan of a query

module _ (q : Checked) (tables : List TableDecl) (lanes rows : ℕ) (header : Bool) (files : Files)
  where
    abbrev db : Database
    db = database header files tables

    abbrev left : Table
    left = used_table db q.from

    abbrev sources : List Spec
    sources = table_sources tables header rows q.from

    -- what is read of the tables is the rows of FROM, with the columns' types
    types-read : (j : Option CheckedJoin)
        → source_types tables q.from j ≡ (joined_table j db left).types
    types-read None = types-used header files tables q.from
    types-read (Some j) = search (arith, types-used)

    rows-read : (j : Option CheckedJoin) → read_rows (sources_of_files files) sources
        (join_of tables header rows q.from j) ≡ (joined_table j db left).rows
    rows-read None = rows-used header files tables rows q.from
    rows-read (Some j) = search (arith, rows-used)

    -- a join pulls the rows of both tables
    join-pulled : (k : Kind) (j : Option CheckedJoin)
        → join_pulls k (sources_of_files files) sources (join_of tables header rows q.from j)
        ≡ cond (same_kind kind.HashJoin k) (rows_joined j db left.rows) 0
    join-pulled k None = sym (none-of (same_kind kind.HashJoin k))
    join-pulled k (Some j) = search (arith, rows-used)

    plan-of : HasCalls q.shape
        → IsPlanOf q db (sources_of_files files) (select_plan q tables lanes rows header)
    plan-of calls = search (arith, types-read, kept, rows-read)
      where
        kept : (keys : List SortKey) → plan_keys (order_of
            (shape_types q.shape (source_types tables q.from q.join)) rows keys) ≡ keys
        kept [] = refl
        kept (key ∷ keys) = refl

-- nothing that is kept for a list is a collector
none-kept : (nodes : List DraftNode)
    → count_over (boxes_for collector_kind) nodes ≡ count_over (of_kind collector_kind) nodes
none-kept [] = refl
none-kept (z ∷ nodes) = grind (arith, sum_by-cons, boxes_for, none-of, none-kept nodes)

-- The plan of a typed query reads from sources, and its nodes fit their types.
pub query-plan : (q : Checked) (tables : List TableDecl) (lanes rows : ℕ) (header : Bool)
    → IsTypedSelect tables q → 0 < lanes → IsQueryPlan (select_plan q tables lanes rows header)
query-plan q tables lanes rows header typed some =
    let plan : SelectPlan = select_plan q tables lanes rows header in
    let u : List ColumnType = used_types tables q.from in
    let read = types q.join in
    record {
      is = record {
        some_lanes = some;
        sources = are-sources q.from;
        join = joined q.join;
      };
      shape = q.shape;
      types = u;
      rows = rows;
      typed = record {
        shape = ap (λ t. shape_of q.shape t rows) read;
        join = join-typed q.join typed.pairs;
        filter = subst (λ t. IsTypedFilter t q.filter) read typed.typed.filter;
        typed = subst (λ t. IsTypedShape t q.shape) read typed.typed.items;
        order = subst (λ t. FitsOrdering (shape_types q.shape t) plan.order) read
            (order-fits (shape_types q.shape (source_types tables q.from q.join)) q.order
            typed.keys);
      };
      sources = of-types q.from;
    }
  where
    are-sources : (t : TableUse) → AllByRecursion IsSourceSpec (table_sources tables header rows t)
    are-sources t = each-source IsSourceSpec tables header rows t (λ part t. (tt, tt)) (λ n t. tt)

    of-types : (t : TableUse) → AllByRecursion (λ s. OneType s [] (used_types tables t))
        (table_sources tables header rows t)
    of-types t =
        each-source (λ s. OneType s [] (used_types tables t)) tables header rows t
        (λ part t. (
          record { fit = tt; makes = λ v us x m. m ∙ t },
          record { fit = tt; makes = λ v us x m. m ∙ t },
        ))
        (λ n t. record { fit = tt; makes = λ v us x m. m ∙ ap (used_types tables) (sym t) })

    types : (j : Option CheckedJoin) → source_types tables q.from j
        ≡ read_types (used_types tables q.from) (join_of tables header rows q.from j)
    types None = refl
    types (Some j) = refl

    joined : (j : Option CheckedJoin) → JoinsSources (join_of tables header rows q.from j)
    joined None = tt
    joined (Some j) = are-sources j.table

    join-typed : (j : Option CheckedJoin)
        → IfSome j (λ (j : CheckedJoin). AreKeyPairs (join_spec tables 0 q.from j))
        → IfSome (join_of tables header rows q.from j) (IsTypedJoin (used_types tables q.from))
    join-typed None pairs = tt
    join-typed (Some j) pairs = search (arith, of-types)

    order-fits : (v : List ColumnType) (keys : List SortKey)
        → All (λ (key : SortKey). key.column < length v) keys
        → FitsOrdering v (order_of v rows keys)
    order-fits v [] within = tt
    order-fits v (key ∷ keys) within = record { types_are = refl; keys_within = within }

-- At one moment of a run of the plan's graph what the collector pulled is the front of an answer of
-- the query, over the rows before the first bad record of each part.
pub record QueryFront (q : Checked) (header : Bool) (files : Files) (tables : List TableDecl)
    (nodes : List DraftNode) (boxes : List BoxPicture) (h : LawfulSnapshot files nodes boxes)
    (last : ℕ) : Type 0 where
  pub rest : List Row
  pub answer : IsAnswer q (database header files tables)
      (chunk_rows (h.lists.pulled last 0) ++ rest)

-- At its end that is the answer, with the plan's clause on bad parts. Without LIMIT the nodes of
-- each kind that was taken pulled its flow.
pub record QueryAnswered (q : Checked) (header : Bool) (files : Files) (tables : List TableDecl)
    (lanes : ℕ) (plan : SelectPlan) (nodes : List DraftNode) (boxes : List BoxPicture)
    (h : LawfulSnapshot files nodes boxes) (last : ℕ) : Type 0 where
  pub answer : IsAnswer q (database header files tables) (chunk_rows (h.lists.pulled last 0))
  pub output : plan_rows (sources_of_files files) plan
      ≡ output_rows q (database header files tables)
  pub valid : (plan_valid (sources_of_files files) plan ≡ true)
      ⊎ IsCut (sources_of_files files) plan
  pub run : ListRun files (plan_nodes plan) nodes boxes h last
  pub collected : pulled_rows collector_kind 0 nodes (stream_pulled_at boxes h.lists.pulled)
      ≡ length (chunk_rows (h.lists.pulled last 0))
  pub pulled : q.limit ≡ None → (k : Kind) → 0 < query_boxes q tables lanes k
      → IfSome (flow k q (database header files tables) (chunk_rows (h.lists.pulled last 0)))
      (λ n. pulled_rows k 0 nodes (stream_pulled_at boxes h.lists.pulled) ≡ n)

-- A run of the plan of a typed query, by lawful boxes loaded with copies of its nodes' specs.
module _ (q : Checked) (tables : List TableDecl) (lanes rows : ℕ) (header : Bool) (files : Files)
    (nodes : List DraftNode) (boxes : List BoxPicture) (last : ℕ) (typed : IsTypedSelect tables q)
    (some : 0 < lanes) (small : IsSmall (select_plan q tables lanes rows header))
    (e : forms nodes ≡ forms (plan_nodes (select_plan q tables lanes rows header)))
    (count : length (plan_nodes (select_plan q tables lanes rows header)) ≡ last + 1) where
  abbrev plan : SelectPlan
  plan = select_plan q tables lanes rows header

  abbrev stored : Database
  stored = database header files tables

  abbrev parts : RowsOfSources
  parts = sources_of_files files

  is : IsPlanOf q stored parts plan
  is = plan-of q tables lanes rows header files
      (has-calls (source_types tables q.from q.join) q.shape typed.typed.items)

  ready : IsQueryPlan plan
  ready = query-plan q tables lanes rows header typed some

  -- At one moment the collector has pulled the front of an answer of the query.
  pub planned-front : (h : LawfulSnapshot files nodes boxes)
      → QueryFront q header files tables nodes boxes h last
  planned-front h =
      let level = body-level plan small in
      let run = laid-run files (body_nodes plan) 14 level.rank (made_types plan ready)
      (PlanMade parts plan) (select-laid parts plan ready small) level.low nodes e boxes h last
      (plan-graph plan nodes small e).graph count in
      let front = run.collected.front in
      record {
        rest = front.rest;
        answer = query-answers q stored parts plan run.collected.flow _ is run.made front.is;
      }

  -- At the end of a run it has pulled an answer.
  pub planned-ended : (h : HasEnded files nodes boxes)
      → QueryAnswered q header files tables lanes plan nodes boxes h.at_end last
  planned-ended h =
      let level = body-level plan small in
      let ended = laid-ended files (body_nodes plan) 14 level.rank (made_types plan ready)
      (PlanMade parts plan) (select-laid parts plan ready small) level.low nodes e boxes h last
      (plan-graph plan nodes small e).graph count in
      let f : NodePort → Stream = stream_pulled_at boxes h.at_end.lists.pulled in
      let collected = ended.laid.collected in
      let block = plan-block parts plan ready.is in
      let counts = (block.run [] (collected.flow ∷ []) refl collected.means).1 in
      let flowed : HasFlowed plan parts nodes f last = record {
        same = e;
        count = count;
        one_collector = search (arith, none-kept, plan-needs);
        pulled = λ k unlimited told.
            collected.counted (block.all_open unlimited) ended.done k ∙ counts unlimited k told;
      } in
      record {
        answer = query-answers q stored parts plan collected.flow _ is ended.laid.made
            (collected.front.all ended.done);
        output = grind (arith, shape-selects, is);
        valid = ended.laid.made.valid (collected.front.certain ended.done);
        run = ended.laid.run;
        collected = collector-pulled plan parts nodes f last flowed;
        pulled = λ unlimited k taken. flow-pulled plan parts nodes f last flowed unlimited q stored
            is (λ k. join-pulled q tables lanes rows header files k q.join)
            (shape_types q.shape (source_types tables q.from q.join)) rows refl k;
      }
