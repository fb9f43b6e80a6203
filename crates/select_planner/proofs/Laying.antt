-- The steps of a plan, laid down one behind another.
use Rattle.std.proofs.lemmas.Grind.{common_steps}
use Rattle.select_planner.proofs.Imports.{AggCall, IsSmall, first_crowded, small-plan, used_tables, Bool, Checked, Declared, DraftNode, Expr, Kind, List, None, PartSpec, PartsDecl, Paths, PlanNode, PlanReserve, SourceReading, Spec, TableDecl, TableUse, [], append-nil, append_assoc, arith, boxes_reserved, boxes_taken, call_arguments, column_items, count_by-le-length, forms, formula, get_or, kept_at, lane_nodes, length, length-take-le, map, map-append, nodes_behind, part_source, part_sources, part_spec, path_sources, paths-length, plan_nodes, refl, reserved-le, reserved_nodes, reserves_from, select_plan, slice_get, slice_get_past, source_nodes, spec_form, suc, sum_by, sum_by-take-le, sum_by_more, table_sources, take, take_more, with_argument, zero, ℕ, ◌++◌, ◌+◌, ◌<◌, ◌∷◌, ◌≡◌, ◌≤◌}

pub ruleset one_behind = (append_assoc, map-append)

-- ---- lanes

lanes-push : (s : Spec) (rank i n : ℕ)
    → lane_nodes s rank i (suc n) ≡ lane_nodes s rank i n ++ lane_nodes s rank (i + n) 1
lanes-push s rank i zero = search (arith)
lanes-push s rank i (suc n) = search (arith, lanes-push s rank (suc i) n)

-- a lane more, with a copy of its own
pub lane_more : (s t : Spec) (rank k : ℕ) (x y z : List DraftNode) → spec_form s ≡ spec_form t
    → forms y ≡ forms x ++ forms (lane_nodes t rank 0 k)
    → forms z ≡ forms y ++ forms (lane_nodes s rank k 1)
    → forms z ≡ forms x ++ forms (lane_nodes t rank 0 (k + 1))
lane_more s t rank k x y z e h g = search (arith, append_assoc, map-append, lanes-push)

-- lanes with copies have the same forms
pub lanes-same : (s t : Spec) (rank i k : ℕ) → spec_form s ≡ spec_form t
    → forms (lane_nodes s rank i k) ≡ forms (lane_nodes t rank i k)
lanes-same s t rank i zero e = refl
lanes-same s t rank i (suc k) e = search (arith, lanes-same s t rank (suc i) k e)

-- ---- sources

sources-append : (i : ℕ) (xs ys : List Spec)
    → source_nodes i (xs ++ ys) ≡ source_nodes i xs ++ source_nodes (i + length xs) ys
sources-append i [] ys = search (arith)
sources-append i (x ∷ xs) ys = search (arith, sources-append (suc i) xs ys)

-- sources behind other ends
pub sources_behind : (ends i : ℕ) (specs : List Spec)
    → nodes_behind ends (source_nodes i specs) ≡ source_nodes (ends + i) specs
sources_behind ends i [] = refl
sources_behind ends i (s ∷ specs) = search (arith, sources_behind ends (suc i) specs)

paths-push : (r : SourceReading) (k : ℕ) (paths : List (List ℕ)) (path : List ℕ)
    → path_sources r k (paths ++ path ∷ [])
    ≡ path_sources r k paths ++ part_source (part_spec r (k + length paths) path) ∷ []
paths-push r k [] path = search (arith)
paths-push r k (p ∷ paths) path = search (arith, paths-push r (suc k) paths path)

-- the source of a path more, behind so many open ends
pub path_more : (r : SourceReading) (place : ℕ) (paths : List (List ℕ)) (path : List ℕ)
    (part : PartSpec) (i : ℕ)
    (x y z : List DraftNode) → i < length paths → path ≡ get_or paths i path
    → part ≡ part_spec r (i + 1) path
    → forms y ≡ forms x ++ forms (source_nodes place (path_sources r 1 (take i paths)))
    → forms z ≡ forms y ++ forms (source_nodes (place + i) (part_source part ∷ []))
    → forms z ≡ forms x ++ forms (source_nodes place (path_sources r 1 (take (i + 1) paths)))
path_more r at paths path part i x y z lt is same h g = grind (
  arith,
  common_steps,
  length-take-le,
  paths-length,
  take_more,
  paths-push,
  append_assoc,
  map-append,
  sources-append,
) steps 1500000

-- as many sources as paths
pub parts_count : (r : SourceReading) (d : PartsDecl) (paths : List (List ℕ)) → d ≡ Paths paths
    → length paths ≡ length (part_sources r d)
parts_count r d paths e = search (arith, paths-length)

-- a table that isn't declared has no sources
pub none_declared : (tables : List TableDecl) (header : Bool) (rows t : ℕ) (u : TableUse)
    → u ≡ Declared t → slice_get tables t ≡ None → table_sources tables header rows u ≡ []
none_declared tables header rows t u e n = search (arith)

pub ruleset undeclared = (append-nil, none_declared, slice_get_past)

-- The nodes that were laid down are those of a small plan for the tables, as the code reads them.
pub laid : (q : Checked) (tables seen read : List TableDecl) (lanes rows : ℕ) (header : Bool)
    (nodes : List DraftNode) → seen ≡ tables → read ≡ tables → lanes ≤ 16
    → first_crowded seen (used_tables q) ≡ None
    → forms nodes ≡ forms (plan_nodes (select_plan q read lanes rows header))
    → IsSmall (select_plan q tables lanes rows header)
    × (forms nodes ≡ forms (plan_nodes (select_plan q tables lanes rows header)))
laid q tables seen read lanes rows header nodes a b le few same =
    (small-plan q tables seen lanes rows header a le few, search (arith))

-- ---- groups

arguments-push : (calls : List (AggCall ℕ)) (call : AggCall ℕ)
    → call_arguments (calls ++ call ∷ []) ≡ call_arguments calls ++ with_argument call.arg []
arguments-push [] call = refl
arguments-push (c ∷ calls) call = grind (arith, arguments-push calls call)

-- the argument of a call more
pub argument_more : (keys : List ℕ) (calls : List (AggCall ℕ)) (call : AggCall ℕ) (i : ℕ)
    (x y : List Expr) → i < length calls → call ≡ get_or calls i call
    → map formula x ≡ map formula (column_items keys ++ call_arguments (take i calls))
    → map formula y ≡ map formula x ++ map formula (with_argument call.arg [])
    → map formula y ≡ map formula (column_items keys ++ call_arguments (take (i + 1) calls))
argument_more keys calls call i x y lt is h e =
    grind (arith, common_steps, take_more, arguments-push, map-append, append_assoc)

-- ---- what is kept

-- what is kept for one node more
pub kept_more : (i : ℕ) (nodes : List DraftNode) (node : DraftNode) → i < length nodes
    → node ≡ get_or nodes i node
    → reserves_from 0 (take (i + 1) nodes) ≡ reserves_from 0 (take i nodes) ++ kept_at i node
kept_more i nodes node lt is = grind (arith, length-take-le, take_more, push)
  where
    push : (n : ℕ) (xs : List DraftNode)
        → reserves_from n (xs ++ node ∷ []) ≡ reserves_from n xs ++ kept_at (n + length xs) node
    push n [] = grind (arith, append-nil)
    push n (x ∷ xs) = search (arith, append_assoc, push (suc n) xs)

-- a plan's boxes so far are at most 256
pub few_boxes : (k : Kind) (nodes : List PlanNode) (reserves : List PlanReserve) (i : ℕ)
    (r : PlanReserve) → length nodes + reserved_nodes reserves ≤ 256 → i < length reserves
    → r ≡ get_or reserves i r
    → boxes_taken k nodes + sum_by (boxes_reserved k) (take i reserves) + boxes_reserved k r ≤ 256
few_boxes k nodes reserves i r few lt is =
    grind (arith, common_steps, reserved-le, count_by-le-length, sum_by_more, sum_by-take-le)
