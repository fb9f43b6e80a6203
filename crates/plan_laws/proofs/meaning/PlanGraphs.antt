-- A list of nodes of the forms of a plan's is a graph of few nodes.
use Rattle.plan_laws.proofs.Imports.{List, [], ap, arith, cond, length, refl, ◌+◌, ◌≡◌, ◌≤◌, AllFitDraft, DraftNode, IsDraftGraph, no_draft, row_of, sum_by-cons, with_nodes, Count, count_over, each_input, each_kept, SelectPlan, IsSmall, plan_nodes, NodeForm, node_form, forms}
use Rattle.plan_laws.proofs.graph.Fitting.{fits}
use Rattle.plan_laws.proofs.graph.GraphLaws.{lists-are-graphs}
use Rattle.plan_laws.proofs.meaning.Counts.{few-nodes, nodes-counted, wires-counted}
use Rattle.plan_laws.proofs.meaning.Fitting.{plan-fits}
use Rattle.plan_laws.proofs.meaning.Same.{by-forms, fit-same, after-same, kind-same}

-- nodes of one form count the same
pub counted-same : (w : Count)
    → ((x y : DraftNode) → node_form x ≡ node_form y → w x.spec x.takes ≡ w y.spec y.takes)
    → (xs ys : List DraftNode) → forms xs ≡ forms ys → count_over w xs ≡ count_over w ys
counted-same w same xs ys e =
    by-forms (λ xs ys. count_over w xs ≡ count_over w ys) refl
    (λ x y xs ys form rest.
    let count = (λ (z : DraftNode). w z.spec z.takes) in
    omega (arith, rest, same x y form, sum_by-cons count x xs, sum_by-cons count y ys)) xs ys e

-- the nodes fit, are few, and make a graph
pub record IsPlanGraph (nodes : List DraftNode) : Type 0 where
  pub fit : AllFitDraft nodes no_draft
  pub few : count_over each_kept nodes ≤ 124
  pub few_wires : length (with_nodes nodes no_draft).wires ≤ 140
  pub graph : IsDraftGraph nodes

pub plan-graph : (p : SelectPlan) (nodes : List DraftNode) → IsSmall p
    → forms nodes ≡ forms (plan_nodes p) → IsPlanGraph nodes
plan-graph p nodes small e =
    let steps : List DraftNode = plan_nodes p in
    let ends = plan-fits p small in
    let bounds = few-nodes p small in
    let ranked = fit-same nodes steps [] e ends.0 in
    let drawn : AllFitDraft nodes no_draft = (fits nodes ranked).fit in
    let kept = counted-same each_kept (λ x y same. ap (λ j. 1 + cond (row_of j).reads_list 32 0)
    (kind-same x.spec y.spec (ap (λ (f : NodeForm). f.spec) same))) nodes steps e in
    let few : count_over each_kept nodes ≤ 124 = omega (arith, kept, bounds.0) in
    let inputs = counted-same each_input (λ x y. ap (λ (f : NodeForm). f.takes)) nodes steps e in
    let wires = wires-counted nodes no_draft drawn in
    grind (
      arith,
      drawn,
      few,
      wires,
      inputs,
      bounds.1,
      lists-are-graphs,
      after-same,
      nodes-counted,
    )
