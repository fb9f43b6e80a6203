-- The plan of a query as a list of nodes, and what it answers.
use Rattle.std.specs.Prelude.{Bool, List, None, Option, Some, [], cond, false, flat_map, length, map, sum_by, true, ℕ, ⊤, ◌&&◌, ◌++◌, ◌+◌, ◌<◌, ◌∷◌, ◌≡◌, ◌≤◌, ◌*◌}
use Rattle.plan_laws.specs.Prelude.{AllByRecursion, Cond, Expr, GroupSpec, JoinSpec, Kind, Row, SortKey, SortSpec, Span, Spec, default_states, enough, groups_or_default, item_row, joined_rows, kind_of, list_all, partial_rows, rows_where, same_kind}
use Rattle.plan_laws.specs.declared.nodes.DraftNode.{DraftNode}
use Rattle.plan_laws.specs.Blocks.{nodes_behind, joint_node, lane_nodes, source_nodes}
use Rattle.plan_laws.specs.Roles.{IsSourceSpec, is_valid_source, source_list}
use Rattle.plan_laws.specs.Counts.{Count, count_over, kept_for, sources_count}
use Rattle.plan_laws.specs.Streams.{RowsOfSources}
use Rattle.query_model.specs.declared.processor_spec.Kind.TheVariants as kind
use Rattle.query_model.specs.declared.processor_spec.Spec.TheVariants as spec

abbrev pub filter_nodes : Option Cond → ℕ → ℕ → List DraftNode
filter_nodes None rank lanes = []
filter_nodes (Some c) rank lanes = lane_nodes (spec.Filter c) rank 0 lanes

abbrev pub limit_nodes : Option Span → List DraftNode
limit_nodes None = []
limit_nodes (Some span) = joint_node (spec.Limit span) 13 1 1 ∷ []

-- ---- the plan

-- what is made of the filtered rows: the items' values; or the keys and arguments, their groups,
-- those that HAVING lets pass, and the picked columns
pub data PlanShape : Type 0 where
  plain : List Expr → PlanShape
  grouped : List Expr → GroupSpec → Option Cond → List Expr → PlanShape

-- the second table, and the pairs on which its rows must agree
pub record PlanJoin : Type 0 where
  pub sources : List Spec
  pub join : JoinSpec

pub record SelectPlan : Type 0 where
  pub sources : List Spec
  pub join : Option PlanJoin
  pub filter : Option Cond
  pub shape : PlanShape
  pub order : Option SortSpec
  pub limit : Option Span
  pub lanes : ℕ

-- the steps that join, sort and merge
abbrev pub join_step : PlanJoin → Spec
join_step j = spec.HashJoin j.join

abbrev pub sort_step : SortSpec → Spec
sort_step order = spec.Sort order

abbrev pub merge_step : SortSpec → Spec
merge_step order = spec.MergeSorted order

-- a resize of so many ends into so many
abbrev pub resize_node : (rank takes gives : ℕ) → DraftNode
resize_node rank takes gives = joint_node spec.Resize rank takes gives

-- From so many open ends with the rows of FROM to the lanes, joined with the second table where
-- there is one, whose sources come first. The ends are those of a table's sources, or the one end
-- of a subquery; the second table's nodes stand behind them.
abbrev pub read_steps : ℕ → Option PlanJoin → ℕ → List DraftNode
read_steps ends None lanes = resize_node 2 ends lanes ∷ []
read_steps ends (Some j) lanes =
    nodes_behind ends (source_nodes 0 j.sources)
    ++ (resize_node 2 ends 1
    ∷ (nodes_behind 1 (resize_node 2 (length j.sources) 1 ∷ [])
    ++ (joint_node (join_step j) 3 2 1
    ∷ resize_node 4 1 lanes
    ∷ [])))

abbrev pub read_nodes : List Spec → Option PlanJoin → ℕ → List DraftNode
read_nodes sources join lanes = source_nodes 0 sources ++ read_steps (length sources) join lanes

-- so many lanes to one, in the order of the keys where there is one
abbrev pub gather_nodes : Option SortSpec → ℕ → List DraftNode
gather_nodes None lanes = resize_node 12 lanes 1 ∷ []
gather_nodes (Some order) lanes = lane_nodes (sort_step order) 11 0 lanes
    ++ joint_node (merge_step order) 12 lanes 1 ∷ []

abbrev pub sort_nodes : Option SortSpec → List DraftNode
sort_nodes None = []
sort_nodes (Some order) = joint_node (sort_step order) 11 1 1 ∷ []

abbrev pub shape_nodes : PlanShape → Option SortSpec → ℕ → List DraftNode
shape_nodes (plain items) order lanes = lane_nodes (spec.Expression items) 6 0 lanes ++ gather_nodes
    order lanes
shape_nodes (grouped arguments g having picks) order lanes =
    lane_nodes (spec.Expression arguments) 6 0 lanes
    ++ (lane_nodes (spec.PartialAggregate g) 7 0 lanes
    ++ (joint_node (spec.MergeAggregate g) 8 lanes 1
    ∷ (filter_nodes having 9 1
    ++ (lane_nodes (spec.Expression picks) 10 0 1
    ++ sort_nodes order))))

-- what is made of the rows in the lanes, down to one end
abbrev pub lane_steps : SelectPlan → List DraftNode
lane_steps p =
    filter_nodes p.filter 5 p.lanes
    ++ (shape_nodes p.shape p.order p.lanes ++ limit_nodes p.limit)

-- the steps behind so many open ends with the rows of FROM
abbrev pub select_steps : ℕ → SelectPlan → List DraftNode
select_steps ends p = read_steps ends p.join p.lanes ++ lane_steps p

-- all nodes but the collector
abbrev pub body_nodes : SelectPlan → List DraftNode
body_nodes p = source_nodes 0 p.sources ++ select_steps (length p.sources) p

-- the collector of the one end that a list of nodes leaves open
abbrev pub collector : ℕ → DraftNode
collector rank = joint_node spec.Collect rank 1 0

abbrev pub collect_node : DraftNode
collect_node = collector 14

abbrev pub collector_kind : Kind
collector_kind = kind_of collect_node.spec

abbrev pub plan_nodes : SelectPlan → List DraftNode
plan_nodes p = body_nodes p ++ collect_node ∷ []

abbrev pub JoinsSources : Option PlanJoin → Type 0
JoinsSources None = ⊤
JoinsSources (Some j) = AllByRecursion IsSourceSpec j.sources

-- it has lanes, and reads from sources
pub record IsPlan (p : SelectPlan) : Type 0 where
  pub some_lanes : 0 < p.lanes
  pub sources : AllByRecursion IsSourceSpec p.sources
  pub join : JoinsSources p.join

pub record FewSources (sources : List Spec) : Type 0 where
  pub few : length sources ≤ 32
  pub few_kept : length sources + sum_by kept_for sources ≤ 33

abbrev pub FewJoined : Option PlanJoin → Type 0
FewJoined None = ⊤
FewJoined (Some j) = FewSources j.sources

-- it has no more parts and lanes than a node has ports
pub record IsSmall (p : SelectPlan) : Type 0 where
  pub few_sources : FewSources p.sources
  pub few_joined : FewJoined p.join
  pub few_lanes : p.lanes ≤ 16

-- ---- what its nodes count

-- the nodes that read, those of the shape, and all of a plan's, step by step
abbrev pub read_count : Count → ℕ → Option PlanJoin → ℕ
read_count w ends None = w spec.Resize ends
read_count w ends (Some j) =
    sources_count w j.sources + (w spec.Resize ends
    + (w spec.Resize (length j.sources) + (w (join_step j) 2 + w spec.Resize 1)))

abbrev pub shape_count : Count → PlanShape → Option SortSpec → ℕ → ℕ
shape_count w (plain items) order lanes =
    lanes * w (spec.Expression items) 1 + count_over w (gather_nodes order lanes)
shape_count w (grouped arguments g having picks) order lanes =
    lanes * w (spec.Expression arguments) 1 + (lanes * w (spec.PartialAggregate g) 1
    + (w (spec.MergeAggregate g) lanes + (count_over w (filter_nodes having 9 1)
    + (1 * w (spec.Expression picks) 1 + count_over w (sort_nodes order)))))

abbrev pub plan_count : Count → SelectPlan → ℕ
plan_count w p =
    sources_count w p.sources + (read_count w (length p.sources) p.join
    + (count_over w (filter_nodes p.filter 5 p.lanes) + (shape_count w p.shape p.order p.lanes
    + (count_over w (limit_nodes p.limit) + count_over w (collect_node ∷ [])))))

-- ---- its answer

abbrev pub sources_rows : RowsOfSources → List Spec → List Row
sources_rows parts sources = flat_map (source_list parts) sources

abbrev pub all_valid : RowsOfSources → List Spec → Bool
all_valid parts sources = list_all (is_valid_source parts) sources

-- the rows that are read where FROM has these, and whether all parts are valid where those of FROM
-- are; and whether those parts are valid that must be before a row is read
abbrev pub joined_from : RowsOfSources → Option PlanJoin → List Row → List Row
joined_from parts None left = left
joined_from parts (Some j) left = joined_rows j.join.pairs left (sources_rows parts j.sources)

abbrev pub valid_from : RowsOfSources → Option PlanJoin → Bool → Bool
valid_from parts None left = left
valid_from parts (Some j) left = left && all_valid parts j.sources

abbrev pub read_rows : RowsOfSources → List Spec → Option PlanJoin → List Row
read_rows parts sources join = joined_from parts join (sources_rows parts sources)

abbrev pub read_valid : RowsOfSources → List Spec → Option PlanJoin → Bool
read_valid parts sources join = valid_from parts join (all_valid parts sources)

abbrev pub join_valid : RowsOfSources → Option PlanJoin → Bool
join_valid parts None = true
join_valid parts (Some j) = all_valid parts j.sources

abbrev pub grouped_of : GroupSpec → List Row → List Row
grouped_of g rows = groups_or_default g.lone (default_states g) (partial_rows g rows)

abbrev pub shape_rows : PlanShape → List Row → List Row
shape_rows (plain items) rows = map (item_row items) rows
shape_rows (grouped arguments g having picks) rows =
    map (item_row picks) (rows_where having (grouped_of g (map (item_row arguments) rows)))

-- what is made of the rows that are read, before order and limit
abbrev pub made_rows : SelectPlan → List Row → List Row
made_rows p rows = shape_rows p.shape (rows_where p.filter rows)

-- the rows before order and limit
abbrev pub plan_rows : RowsOfSources → SelectPlan → List Row
plan_rows parts p = made_rows p (read_rows parts p.sources p.join)

abbrev pub plan_valid : RowsOfSources → SelectPlan → Bool
plan_valid parts p = read_valid parts p.sources p.join

-- the parts that must be valid before a row passes: all of them where there are groups or an order,
-- and else those of the second table
abbrev pub needed_valid : PlanShape → Option SortSpec → (all join : Bool) → Bool
needed_valid (plain items) None all join = join
needed_valid (plain items) (Some order) all join = all
needed_valid (grouped arguments g having picks) order all join = all

abbrev pub plan_keys : Option SortSpec → List SortKey
plan_keys None = []
plan_keys (Some order) = order.keys

-- a limit that has enough rows of these
abbrev pub HasEnoughRows : Option Span → List Row → Type 0
HasEnoughRows None rows = ⊥
HasEnoughRows (Some span) rows = enough span ≤ length rows

-- A limit has enough of what is made of the rows that are read, and what must be valid before a row
-- passes is. `v` tells whether all that is read is valid, and `n` whether the second table is.
pub record StopsEarly (p : SelectPlan) (rows : List Row) (v n : Bool) : Type 0 where
  pub enough_rows : HasEnoughRows p.limit (made_rows p rows)
  pub needed : needed_valid p.shape p.order v n ≡ true

abbrev pub IsCut : RowsOfSources → SelectPlan → Type 0
IsCut parts p = StopsEarly p (read_rows parts p.sources p.join) (plan_valid parts p)
    (join_valid parts p.join)

-- ---- the rows that the nodes of a kind pull

-- a number of rows that a node with this spec pulls, where it is of the kind
abbrev pub pulls : Kind → Spec → ℕ → ℕ
pulls k s n = cond (same_kind (kind_of s) k) n 0

-- a join of FROM's rows
abbrev pub pulls_from : Kind → RowsOfSources → Option PlanJoin → List Row → ℕ
pulls_from k parts None left = 0
pulls_from k parts (Some j) left = pulls k (join_step j)
    (length left + length (sources_rows parts j.sources))

abbrev pub join_pulls : Kind → RowsOfSources → List Spec → Option PlanJoin → ℕ
join_pulls k parts sources join = pulls_from k parts join (sources_rows parts sources)

abbrev pub filter_pulls : Kind → Option Cond → ℕ → ℕ
filter_pulls k None n = 0
filter_pulls k (Some c) n = pulls k (spec.Filter c) n

abbrev pub gather_pulls : Kind → Option SortSpec → ℕ → ℕ
gather_pulls k None n = 0
gather_pulls k (Some order) n = pulls k (sort_step order) n + pulls k (merge_step order) n

abbrev pub sort_pulls : Kind → Option SortSpec → ℕ → ℕ
sort_pulls k None n = 0
sort_pulls k (Some order) n = pulls k (sort_step order) n

-- of the filtered rows
abbrev pub shape_pulls : Kind → PlanShape → Option SortSpec → List Row → ℕ
shape_pulls k (plain items) order rows = pulls k (spec.Expression items) (length rows)
    + gather_pulls k order (length rows)
shape_pulls k (grouped arguments g having picks) order rows =
    let groups : List Row = grouped_of g (map (item_row arguments) rows) in
    pulls k (spec.Expression arguments) (length rows)
    + (pulls k (spec.PartialAggregate g) (length rows)
    + (filter_pulls k having (length groups)
    + (pulls k (spec.Expression picks) (length (rows_where having groups)) + sort_pulls k order
    (length (rows_where having groups)))))

-- of the rows that are read
abbrev pub made_pulls : Kind → SelectPlan → List Row → ℕ
made_pulls k p rows =
    filter_pulls k p.filter (length rows) + shape_pulls k p.shape p.order (rows_where p.filter rows)

abbrev pub plan_pulls : Kind → RowsOfSources → SelectPlan → ℕ
plan_pulls k parts p =
    join_pulls k parts p.sources p.join + made_pulls k p (read_rows parts p.sources p.join)

-- a kind of which the flow of a query tells; the numbers of rows at the others aren't told
pub record IsTold (k : Kind) : Type 0 where
  pub no_resize : same_kind kind.Resize k ≡ false
  pub no_merge : same_kind kind.MergeAggregate k ≡ false
