-- The rows that the nodes of each kind pulled in a run of a query's plan are the kind's flow.
use Rattle.plan_laws.proofs.Imports.{Checked, ColumnType, Cond, Database, DraftNode, Grouped, HasCalls, IsPlanOf, IsTold, Kind, NodeForm, NodePort, RowsOfSources, Plain, Row, SelectPlan, Shape, SortKey, SortSpec, Stream, collector_kind, rows_together, body_nodes, collect_node, count_over, filter_pulls, filtered_rows, flow, forms, gather_pulls, groups_tested, if_grouped, if_ordered, if_plain, join_pulls, kind_of, length-map, of_kind, order_of, plan_nodes, plan_pulls, ports_of, pulled_rows, rows_joined, stream_rows, rows_tested, same_kind, selected_rows, shape_of, shape_pulls, sort_pulls, source_rows, source_table, sum_by-append, sum_by-cons, used_table, Bool, IfSome, List, None, Option, [], ap, ap₂, arith, cond, false, length, length-append, map, refl, suc, sym, true, ℕ, ◌++◌, ◌+◌, ◌∙◌, ◌∷◌, ◌≡◌}
use Rattle.plan_laws.proofs.meaning.Same.{by-forms, kind-same}
use Rattle.plan_laws.proofs.meaning.Queries.{groups-selected}
use Rattle.plan_laws.proofs.meaning.Blocks.{none-of}
use Rattle.query_model.specs.declared.processor_spec.Kind.TheVariants as kind

-- ---- lists of nodes

module _ (k : Kind) (f : NodePort → Stream) where
  pulled-append : (n : ℕ) (xs ys : List DraftNode) → pulled_rows k n (xs ++ ys) f
      ≡ pulled_rows k n xs f + pulled_rows k (n + length xs) ys f
  pulled-append n [] ys = search (arith)
  pulled-append n (x ∷ xs) ys = search (arith, pulled-append (suc n) xs ys)

  -- copies pull the same
  pulled-same : (n : ℕ) (xs ys : List DraftNode) → forms xs ≡ forms ys
      → pulled_rows k n xs f ≡ pulled_rows k n ys f
  pulled-same n xs ys e =
      by-forms (λ xs ys. (n : ℕ) → pulled_rows k n xs f ≡ pulled_rows k n ys f) (λ n. refl)
      (λ x y xs ys same rest n. ap₂ (λ a b. a + b)
      (ap₂ (λ j m. cond (same_kind j k)
      (length (rows_together (stream_rows (map f (ports_of n 0 m))))) 0)
      (kind-same x.spec y.spec (ap (λ (z : NodeForm). z.spec) same))
      (ap (λ (z : NodeForm). z.takes) same)) (rest (suc n))) xs ys e n

  -- nothing is pulled where there is no node of the kind
  none-pulled : (n : ℕ) (nodes : List DraftNode) → count_over (of_kind k) nodes ≡ 0
      → pulled_rows k n nodes f ≡ 0
  none-pulled n [] none = refl
  none-pulled n (x ∷ xs) none =
      let split = sum_by-cons (λ (z : DraftNode). of_kind k z.spec z.takes) x xs in
      go (same_kind (kind_of x.spec) k) (sym split ∙ none) (λ e. none-pulled (suc n) xs e)
    where
      go : (b : Bool) → cond b 1 0 + count_over (of_kind k) xs ≡ 0
          → (count_over (of_kind k) xs ≡ 0 → pulled_rows k (suc n) xs f ≡ 0)
          → cond b (length (rows_together (stream_rows (map f (ports_of n 0 x.takes))))) 0
          + pulled_rows k (suc n) xs f ≡ 0
      go true e rest = absurd (omega (arith, e))
      go false e rest = let none = rest (omega (arith, e)) in omega (arith, none)

-- ---- what makes the output rows

cond-sum : (b : Bool) (m n : ℕ) → cond b (m + n) 0 ≡ cond b m 0 + cond b n 0
cond-sum b m n = grind arith

tests : (k : Kind) (c : Option Cond) (l : List Row)
    → filter_pulls k c (length l) ≡ cond (same_kind kind.Filter k) (rows_tested c l) 0
tests k c l = grind (arith, none-of)

module _ (k : Kind) (made : List ColumnType) (chunk_rows : ℕ) where
  -- the rows of the sorts, and of the merge behind them
  abbrev ordered : List SortKey → (all merged : ℕ) → ℕ
  ordered keys all merged = cond (same_kind kind.Sort k) (if_ordered keys all) 0
      + cond (same_kind kind.MergeSorted k) (if_ordered keys merged) 0

  gathers : (keys : List SortKey) (m : ℕ)
      → gather_pulls k (order_of made chunk_rows keys) m ≡ ordered keys m m
  gathers keys m = grind (arith, none-of)

  -- one sort has all groups
  sorts : (keys : List SortKey) (m : ℕ)
      → sort_pulls k (order_of made chunk_rows keys) m ≡ ordered keys m 0
  sorts keys m = grind (arith, none-of)

module _ (k : Kind) (types made : List ColumnType) (n chunk_rows : ℕ) (keys : List SortKey)
    (rows : List Row) where
  abbrev order : Option SortSpec
  order = order_of made chunk_rows keys

  -- the rows that the steps between the filters and the limit pull, by kinds
  abbrev shape_flow : Shape → ℕ
  shape_flow s =
      let out : ℕ = length (selected_rows s types rows) in
      cond (same_kind kind.Filter k) (groups_tested s types rows) 0
      + (cond (same_kind kind.Expression k) (length rows + if_grouped s out) 0
      + (cond (same_kind kind.PartialAggregate k) (if_grouped s (length rows)) 0
      + ordered k made chunk_rows keys out (if_plain s out)))

  shape-told : (s : Shape) → HasCalls s
      → shape_pulls k (shape_of s types n) order rows ≡ shape_flow s
  shape-told (Plain items) calls = search (arith, length-map, none-of, cond-sum, gathers)
  shape-told (Grouped g) calls =
      grind (arith, length-map, tests, cond-sum, sorts, groups-selected g types n rows calls)

-- ---- plans

-- a run of the plan: the rows that its nodes pulled, and those that were collected
pub record HasFlowed (p : SelectPlan) (parts : RowsOfSources) (nodes : List DraftNode)
    (f : NodePort → Stream) (last : ℕ) : Type 0 where
  pub same : forms nodes ≡ forms (plan_nodes p)
  pub count : length (plan_nodes p) ≡ last + 1
  pub one_collector : count_over (of_kind collector_kind) (plan_nodes p) ≡ 1
  pub pulled : (k : Kind) → p.limit ≡ None → IsTold k
      → pulled_rows k 0 (body_nodes p) f ≡ plan_pulls k parts p

module _ (p : SelectPlan) (parts : RowsOfSources) (nodes : List DraftNode) (f : NodePort → Stream)
    (last : ℕ) (h : HasFlowed p parts nodes f last) where
  abbrev rows : List Row
  rows = (f (record { node = last; port = 0 })).rows

  -- the collector's rows come to those of the other nodes
  all-pulled : (k : Kind) → pulled_rows k 0 nodes f
      ≡ pulled_rows k 0 (body_nodes p) f + cond (same_kind collector_kind k) (length rows) 0
  all-pulled k =
      let body : List DraftNode = body_nodes p in
      let place : 0 + length body ≡ last =
      omega (arith, h.count, length-append body (collect_node ∷ [])) in
      let split = pulled-append k f 0 body (collect_node ∷ []) in
      let at = ap (λ n. pulled_rows k n (collect_node ∷ []) f) place in
      let one : length (rows ++ []) ≡ length rows = length-append rows [] ∙ omega arith in
      let collect = ap (λ n. cond (same_kind collector_kind k) n 0) one in
      pulled-same k f 0 nodes (plan_nodes p) h.same ∙ omega (arith, split, at, collect)

  pub collector-pulled : pulled_rows collector_kind 0 nodes f ≡ length rows
  collector-pulled = search (arith, sum_by-append, none-pulled, all-pulled)

  -- Where there is no LIMIT, each kind pulled its flow of the query of which these are the rows.
  module _ (unlimited : p.limit ≡ None) (q : Checked) (db : Database) (is : IsPlanOf q db parts p)
      (joins : (k : Kind) → join_pulls k parts p.sources p.join
      ≡ cond (same_kind kind.HashJoin k) (rows_joined q.join db (used_table db q.from).rows) 0)
      (made : List ColumnType) (chunk_rows : ℕ)
      (order : p.order ≡ order_of made chunk_rows q.order) where
    abbrev types : List ColumnType
    types = (source_table q db).types

    told-pulled : (k : Kind) → IsTold k → pulled_rows k 0 nodes f
        ≡ cond (same_kind kind.HashJoin k) (rows_joined q.join db (used_table db q.from).rows) 0
        + cond (same_kind kind.Filter k) (rows_tested q.filter (source_rows q db)) 0
        + shape_flow k types made is.chunk_rows chunk_rows q.order (filtered_rows q db) q.shape
        + cond (same_kind collector_kind k) (length rows) 0
    told-pulled k told = search (arith, all-pulled, shape-told, tests)

    pub flow-pulled : (k : Kind)
        → IfSome (flow k q db rows) (λ n. pulled_rows k 0 nodes f ≡ n)
    flow-pulled k = grind (arith, told-pulled)
