-- What was laid down is a graph, and takes as many boxes of each kind as the query needs.
use Rattle.plan_laws.proofs.Imports.{Bool, List, [], ap, arith, cond, map, sum_by, sym, ℕ, ◌++◌, ◌+◌, ◌∙◌, ◌∷◌, ◌≡◌, Checked, Draft, DraftNode, IsSmall, Kind, NodeForm, TableDecl, append-nil, append_assoc, count_over, length-map, map-map, query_boxes, of_kind, plan_nodes, grown_kind, row_of, same_kind, with_node, with_nodes, Plan, boxes_needed, boxes_taken, boxes_reserved, IsSoundPlan, LaysDown, select_plan}
use Rattle.plan_laws.proofs.meaning.PlanGraphs.{counted-same, plan-graph}
use Rattle.plan_laws.proofs.meaning.Same.{kind-same}
use Rattle.plan_laws.proofs.graph.Ports.{sum_by-map}
use Rattle.plan_laws.proofs.meaning.BoxCounts.{boxes-counted, boxes_for, nodes-kept, plan-needs}

-- ---- boxes

-- A plan that was laid down takes as many boxes of each kind as the query needs.
pub needs-are : (q : Checked) (tables : List TableDecl) (lanes rows : ℕ) (header : Bool) (p : Plan)
    → LaysDown (plan_nodes (select_plan q tables lanes rows header)) p → (k : Kind)
    → boxes_needed p k ≡ query_boxes q tables lanes k
needs-are q tables lanes rows header p l k =
    let steps : List DraftNode = plan_nodes (select_plan q tables lanes rows header) in
    let taken : boxes_taken k p.nodes ≡ count_over (of_kind k) l.copies =
    grind (arith, sum_by-map) in
    let kept = ap (sum_by (boxes_reserved k)) l.reserves in
    let whole = counted-same (boxes_for k) (λ x y form. ap (λ j. cond (same_kind j k) 1 0
    + cond (row_of j).reads_list (cond (same_kind grown_kind k) 32 0) 0)
    (kind-same x.spec y.spec (ap (λ (f : NodeForm). f.spec) form))) l.copies steps l.same
    ∙ plan-needs q tables lanes rows header k in
    omega (arith, taken, kept, boxes-counted k 0 l.copies, whole)

-- ---- the graph

ranks-are : (nodes : List DraftNode) (d : Draft) → (with_nodes nodes d).ranks ≡ d.ranks
    ++ map (λ (n : DraftNode). n.rank) nodes
ranks-are [] d = sym (append-nil d.ranks)
ranks-are (n ∷ nodes) d = grind (arith, append_assoc, ranks-are nodes (with_node n d))

-- A plan that was laid down is a graph, and takes as many boxes as the query needs.
pub is-sound : (q : Checked) (tables : List TableDecl) (lanes rows : ℕ) (header : Bool) (p : Plan)
    → IsSmall (select_plan q tables lanes rows header)
    → LaysDown (plan_nodes (select_plan q tables lanes rows header)) p
    → IsSoundPlan q tables lanes p
is-sound q tables lanes rows header p small l = grind (
  arith,
  map-map,
  ranks-are,
  length-map,
  plan-graph (select_plan q tables lanes rows header) l.copies small l.same,
  needs-are q tables lanes rows header p l,
  nodes-kept 0 l.copies,
)
