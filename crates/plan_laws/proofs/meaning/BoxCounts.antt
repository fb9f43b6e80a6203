-- The boxes of a kind that a query's plan uses are as many as the query needs.
use Rattle.plan_laws.proofs.Imports.{Checked, CheckedJoin, ColumnType, Count, Declared, DraftNode, Grouped, Kind, Numbers, PartsDecl, Plain, Shape, TableDecl, TableUse, count_by-le-length, count_over, each_kept, grown_kind, if_declared, kind_of, list_kind, list_sources_need, query_boxes, of_kind, part_sources_need, plan_count, plan_nodes, row_of, same_kind, sources_count, sum_by-append, sum_by-cons, sum_by-replicate, table_need, Bool, List, None, Option, Some, [], arith, cond, false, length, refl, replicate, slice_get, suc, sum_by, sym, true, ℕ, ◌+◌, ◌∷◌, ◌≡◌, ◌≤◌, PlanReserve, reserved_nodes, boxes_reserved, kept_at, reserves_from, SourceReading, declared_sources, ordered_plan, part_sources, path_sources, select_plan, table_sources}
use Rattle.plan_laws.proofs.meaning.Blocks.{none-of}
use Rattle.plan_laws.proofs.meaning.Counts.{counted-append, lanes-counted, plan-counted}
use Rattle.query_model.specs.declared.processor_spec.Kind.TheVariants as kind

-- so many where the kind is this one
abbrev only : Kind → Kind → ℕ → ℕ
only k j n = cond (same_kind j k) n 0

only-more : (b : Bool) (n : ℕ) → cond b 1 0 + cond b n 0 ≡ cond b (suc n) 0
only-more b n = grind arith

-- the boxes of a kind that a node takes, and those that are kept for it
abbrev pub boxes_for : Kind → Count
boxes_for k s takes = of_kind k s takes
    + cond (row_of (kind_of s)).reads_list (only k grown_kind 32) 0

-- ---- step by step

paths-need : (k : Kind) (r : SourceReading) (i : ℕ) (paths : List (List ℕ))
    → sources_count (boxes_for k) (path_sources r i paths) ≡ only k grown_kind (length paths)
paths-need k r i [] = sym (none-of (same_kind grown_kind k))
paths-need k r i (path ∷ paths) =
    search (arith, sum_by-cons, only-more, paths-need k r (suc i) paths)

parts-need : (k : Kind) (r : SourceReading) (parts : PartsDecl)
    → sources_count (boxes_for k) (part_sources r parts)
    ≡ only k grown_kind (part_sources_need parts) + only k list_kind (list_sources_need parts)
parts-need k r parts = grind (arith, none-of, paths-need, sum_by-cons)

sources-need : (k : Kind) (tables : List TableDecl) (header : Bool) (rows : ℕ) (u : TableUse)
    → sources_count (boxes_for k) (table_sources tables header rows u)
    ≡ only k grown_kind (table_need part_sources_need 0 tables u)
    + only k list_kind (table_need list_sources_need 0 tables u)
    + only k kind.Numbers (table_need (λ decl. 0) 1 tables u)
sources-need k tables header rows (Declared t) = declared (slice_get tables t)
  where
    declared : (decl : Option TableDecl)
        → sources_count (boxes_for k) (declared_sources header rows t decl)
        ≡ only k grown_kind (if_declared part_sources_need decl)
        + only k list_kind (if_declared list_sources_need decl)
        + only k kind.Numbers (if_declared (λ parts. 0) decl)
    declared None = grind (arith, none-of)
    declared (Some decl) = search (arith, parts-need, none-of)
sources-need k tables header rows (Numbers m) = grind (arith, none-of, sum_by-cons)

-- ---- the plan

-- whatever types its order has
plan-need : (q : Checked) (tables : List TableDecl) (lanes rows : ℕ) (header : Bool)
    (types : List ColumnType) (k : Kind)
    → plan_count (boxes_for k) (ordered_plan q tables lanes rows header types)
    ≡ query_boxes q tables lanes k
plan-need q tables lanes rows header types k = go k q.shape q.join refl refl
  where
    go : (k : Kind) (s : Shape) (j : Option CheckedJoin) → q.shape ≡ s → q.join ≡ j
        → plan_count (boxes_for k) (ordered_plan q tables lanes rows header types)
        ≡ query_boxes q tables lanes k
    go kind.Limit (Plain items) None is at =
        let read = sources-need kind.Limit tables header rows q.from in
        simp (is, at, sum_by-cons) (grind (arith, none-of, lanes-counted, counted-append))
    go kind.Limit (Plain items) (Some j) is at =
        let read = sources-need kind.Limit tables header rows q.from in
        let join = sources-need kind.Limit tables header rows j.table in
        simp (is, at, sum_by-cons) (grind (arith, none-of, lanes-counted, counted-append))
    go kind.Limit (Grouped g) None is at =
        let read = sources-need kind.Limit tables header rows q.from in
        simp (is, at, sum_by-cons) (grind (arith, none-of, lanes-counted, counted-append))
    go kind.Limit (Grouped g) (Some j) is at =
        let read = sources-need kind.Limit tables header rows q.from in
        let join = sources-need kind.Limit tables header rows j.table in
        simp (is, at, sum_by-cons) (grind (arith, none-of, lanes-counted, counted-append))
    go k (Plain items) None is at =
        let read = sources-need k tables header rows q.from in
        simp (is, at, sum_by-cons) (grind (arith, none-of, lanes-counted, counted-append))
    go k (Plain items) (Some j) is at =
        let read = sources-need k tables header rows q.from in
        let join = sources-need k tables header rows j.table in
        simp (is, at, sum_by-cons) (grind (arith, none-of, lanes-counted, counted-append))
    go k (Grouped g) None is at =
        let read = sources-need k tables header rows q.from in
        simp (is, at, sum_by-cons) (grind (arith, none-of, lanes-counted, counted-append))
    go k (Grouped g) (Some j) is at =
        let read = sources-need k tables header rows q.from in
        let join = sources-need k tables header rows j.table in
        simp (is, at, sum_by-cons) (grind (arith, none-of, lanes-counted, counted-append))

-- The nodes of a kind of a query's plan are as many as the query needs.
pub plan-needs : (q : Checked) (tables : List TableDecl) (lanes rows : ℕ) (header : Bool) (k : Kind)
    → count_over (boxes_for k) (plan_nodes (select_plan q tables lanes rows header))
    ≡ query_boxes q tables lanes k
plan-needs q tables lanes rows header k =
    search (arith, plan-counted, plan-need)

-- ---- what is kept

-- What the nodes count of their own, and what is counted of what is kept for them.
kept-counted : (f : PlanReserve → ℕ) (a : DraftNode → ℕ) (w : Count)
    → ((n : ℕ) (z : DraftNode) → a z + sum_by f (kept_at n z) ≡ w z.spec z.takes)
    → (n : ℕ) (nodes : List DraftNode)
    → sum_by a nodes + sum_by f (reserves_from n nodes) ≡ count_over w nodes
kept-counted f a w each n [] = refl
kept-counted f a w each n (z ∷ nodes) =
    search (arith, sum_by-cons, sum_by-append, kept-counted f a w each (suc n) nodes)

-- The nodes of a list of nodes and the boxes that are kept for them, by kind.
pub boxes-counted : (k : Kind) (n : ℕ) (nodes : List DraftNode)
    → count_over (of_kind k) nodes + sum_by (boxes_reserved k) (reserves_from n nodes)
    ≡ count_over (boxes_for k) nodes
boxes-counted k n nodes = search (arith, kept-counted, sum_by-replicate, sum_by-cons)

-- The nodes and those that are kept for them.
pub nodes-kept : (n : ℕ) (nodes : List DraftNode)
    → length nodes + reserved_nodes (reserves_from n nodes) ≡ count_over each_kept nodes
nodes-kept n nodes =
    let ones = kept-counted (λ (r : PlanReserve). length r.kinds) (λ z. 1) each_kept
    (λ n z. each n z (row_of (kind_of z.spec)).reads_list refl) n nodes in
    omega (arith, ones, count nodes)
  where
    count : (zs : List DraftNode) → length zs ≡ sum_by (λ z. 1) zs
    count [] = refl
    count (z ∷ zs) = omega (arith, sum_by-cons (λ (z : DraftNode). 1) z zs, count zs)

    each : (n : ℕ) (z : DraftNode) (b : Bool) → (row_of (kind_of z.spec)).reads_list ≡ b
        → 1 + reserved_nodes
        (cond b (record { node = n; kinds = replicate 32 grown_kind; edges = 32 } ∷ []) [])
        ≡ 1 + cond b 32 0
    each n z true e = refl
    each n z false e = refl

-- what is kept of a kind is among what is kept
pub reserved-le : (k : Kind) (reserves : List PlanReserve)
    → sum_by (boxes_reserved k) reserves ≤ reserved_nodes reserves
reserved-le k [] = omega arith
reserved-le k (r ∷ reserves) =
    search (arith, count_by-le-length, sum_by-cons, reserved-le k reserves)
