-- A plan that was laid down by a list of nodes.
use Rattle.std.specs.Prelude.{List, [], cond, count_by, length, map, replicate, suc, sum_by, ℕ, ◌++◌, ◌+◌, ◌∷◌, ◌≡◌, ◌≤◌}
use Rattle.plan_laws.specs.Prelude.{Checked, IsGraph, Kind, TableDecl, grown_kind, kind_of, query_boxes, row_of, same_kind}
use Rattle.plan_laws.specs.declared.nodes.DraftNode.{DraftNode}
use Rattle.plan_laws.specs.Same.{forms}
use Rattle.plan_laws.specs.Drafts.{no_draft, with_nodes}
use Rattle.plan_laws.specs.Boxes.{reserved_nodes}
use Rattle.plan_laws.specs.declared.plan.PlanNode.{PlanNode}
use Rattle.plan_laws.specs.declared.plan.PlanReserve.{PlanReserve}
use Rattle.plan_laws.specs.declared.plan.Plan.{Plan}

abbrev pub plan_node_of : DraftNode → PlanNode
plan_node_of n = record { spec = n.spec; rank = n.rank }

abbrev pub plan_ranks : Plan → List ℕ
plan_ranks p = map (λ (n : PlanNode). n.rank) p.nodes

-- what is kept for node n: for a list of parts, a source and an edge for each that it may name
abbrev pub kept_at : ℕ → DraftNode → List PlanReserve
kept_at n node = cond (row_of (kind_of node.spec)).reads_list
    (record { node = n; kinds = replicate 32 grown_kind; edges = 32 } ∷ []) []

-- what is kept for the nodes, of which the first is node n
abbrev pub reserves_from : ℕ → List DraftNode → List PlanReserve
reserves_from n [] = []
reserves_from n (node ∷ nodes) = kept_at n node ++ reserves_from (suc n) nodes

-- the boxes of the kind that are kept for a node that grows
abbrev pub boxes_reserved : Kind → PlanReserve → ℕ
boxes_reserved k r = count_by (λ kind. same_kind kind k) r.kinds

-- the boxes of the kind that the nodes take
abbrev pub boxes_taken : Kind → List PlanNode → ℕ
boxes_taken k nodes = count_by (λ (n : PlanNode). same_kind (kind_of n.spec) k) nodes

-- the boxes of the kind that a plan's nodes take, and those that it keeps for growth
abbrev pub boxes_needed : Plan → Kind → ℕ
boxes_needed p k = boxes_taken k p.nodes + sum_by (boxes_reserved k) p.reserves

-- the plan is a graph, and takes as many boxes of each kind as the query needs
pub record IsSoundPlan (q : Checked) (tables : List TableDecl) (lanes : ℕ) (p : Plan) : Type 0 where
  pub graph : IsGraph (plan_ranks p) p.edges []
  pub needed : (k : Kind) → boxes_needed p k ≡ query_boxes q tables lanes k
  pub few : length p.nodes + reserved_nodes p.reserves ≤ 124
  pub few_edges : length p.edges ≤ 140

-- The plan has the nodes of these steps, each lane with a copy of its own, and the edges that they
-- make.
pub record LaysDown (steps : List DraftNode) (p : Plan) : Type 0 where
  pub copies : List DraftNode
  pub same : forms copies ≡ forms steps
  pub nodes : p.nodes ≡ map plan_node_of copies
  pub edges : p.edges ≡ (with_nodes copies no_draft).wires
  pub reserves : p.reserves ≡ reserves_from 0 copies
