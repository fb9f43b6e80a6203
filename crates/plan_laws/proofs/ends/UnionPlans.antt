-- A union of two plans: the second behind the end of the first, and then one resize.
use Rattle.plan_laws.proofs.Imports.{All-cons, All-nil, DraftNode, Flow, IsPermutation, IsSmall, List, RowsOfSources, SelectPlan, Types, [], and_parts, ap₂, append-nil, arith, body_nodes, moved_nodes, refl, resize_node, true, ℕ, ◌++◌, ◌+◌, ◌<◌, ◌∙◌, ◌∷◌, ◌≡◌, ap, length, BoxPicture, Files, HasEnded, IsDraftGraph, collector, forms, sources_of_files}
use Rattle.plan_laws.proofs.meaning.Blocks.{Alone, Both, Form, form-block, block-so}
use Rattle.plan_laws.proofs.meaning.Plans.{PlanMade}
use Rattle.plan_laws.proofs.meaning.Fitting.{body-level}
use Rattle.plan_laws.proofs.graph.Fitting.{joint-fit}
use Rattle.plan_laws.proofs.ends.LaidEnds.{LaidEnded, laid-ended}
use Rattle.plan_laws.proofs.ends.LaidPlans.{IsQueryPlan, Laid, ends_behind, laid-behind, laid-then, made_types, no_ends, one_end, raised_ends, select-laid}
use Rattle.plan_laws.proofs.ends.TypedPlans.{joint-typed}
use Rattle.plan_laws.proofs.ends.ResizeLaws.{resize-type}

-- the nodes of both, the second with ranks above the first's, and the resize of their ends
abbrev pub united_nodes : (first second : List DraftNode) (above rank : ℕ) → List DraftNode
united_nodes first second above rank =
    first ++ (moved_nodes 1 above second ++ resize_node rank 2 1 ∷ [])

-- The rows of two flows in any order, which are certain where both are.
pub record UnionMade (P Q : Flow → Type 0) (flow : Flow) : Type 0 where
  pub first : Flow
  pub second : Flow
  pub has_first : P first
  pub has_second : Q second
  pub same : IsPermutation (first.rows ++ second.rows) flow.rows
  pub certain : flow.certain ≡ true → (first.certain ≡ true) × (second.certain ≡ true)

module _ (P Q : Flow → Type 0) where
  two-flows : (l : List Flow) → Both (Alone P) (Alone Q) l
      → Form (λ (p : Flow × Flow). p.0 ∷ p.1 ∷ []) (λ p. P p.0 × Q p.1) l
  two-flows l b = record {
    value = (b.first.value, b.second.value);
    are = b.are ∙ ap₂ (λ x y. x ++ y) b.first.are b.second.are;
    has = (b.first.has, b.second.has);
  }

  -- Two plans that leave an end each, of rows of the same types, are one that leaves an end.
  pub united-laid : {parts : RowsOfSources} {first second : List DraftNode} {a b : ℕ}
      {types : Types} (above rank : ℕ) → a < rank → above + b < rank
      → Laid parts first no_ends (one_end a types P)
      → Laid parts second no_ends (one_end b types Q)
      → Laid parts (united_nodes first second above rank) no_ends
      (one_end rank types (UnionMade P Q))
  united-laid {parts} {first} {second} {a} {b} {types} above rank low less f g =
      let ends : List ℕ = a ∷ (above + b) ∷ [] in
      let resize : Laid parts (resize_node rank 2 1 ∷ [])
      (ends_behind (one_end a types P) (raised_ends above (one_end b types Q)))
      (one_end rank types (UnionMade P Q)) = record {
        fit = grind (arith, joint-fit, All-cons, All-nil);
        typed = joint-typed (resize_node rank 2 1).spec rank 2 1 types types (resize-type 2 types);
        known = grind arith;
        makes = block-so two-flows (λ l h. h) (λ k. refl)
            (form-block (resize_node rank 2 1).spec rank 2 (λ (p : Flow × Flow). p.0 ∷ p.1 ∷ [])
            (λ p. P p.0 × Q p.1) (UnionMade P Q) (λ k. 0) (λ u. tt) (λ p. refl)
            (λ p out h makes. grind (arith, append-nil, and_parts, h))
            (λ k p u. absurd u));
      } in
      laid-then f (laid-then
      (laid-behind 1 above (one_end a types P)
      (record { ranks = refl; types = refl; flows = λ l h. ap (λ x. length x) h.are }) g) resize)

-- The union of two SELECTs.
abbrev pub union_nodes : SelectPlan → SelectPlan → List DraftNode
union_nodes p q = united_nodes (body_nodes p) (body_nodes q) 14 28

pub selects-united : (parts : RowsOfSources) (p q : SelectPlan) (pp : IsQueryPlan p)
    (qq : IsQueryPlan q) → (small : IsSmall p) (small' : IsSmall q)
    → made_types p pp ≡ made_types q qq
    → Laid parts (union_nodes p q) no_ends
    (one_end 28 (made_types p pp) (UnionMade (PlanMade parts p) (PlanMade parts q)))
selects-united parts p q pp qq small small' same =
    let a = body-level p small in
    let b = body-level q small' in
    let first : a.rank < 28 = let low = a.low in omega (arith, low) in
    let second : 14 + b.rank < 28 = let low = b.low in omega (arith, low) in
    united-laid (PlanMade parts p) (PlanMade parts q) 14 28 first second
    (select-laid parts p pp small) (rw same (select-laid parts q qq small'))

-- At the end of a run of the union's graph the collector has the rows of an answer of each.
pub union-ended : (files : Files) (p q : SelectPlan) (pp : IsQueryPlan p) (qq : IsQueryPlan q)
    → IsSmall p → IsSmall q → made_types p pp ≡ made_types q qq → (nodes : List DraftNode)
    → forms nodes ≡ forms (union_nodes p q ++ collector 29 ∷ []) → (boxes : List BoxPicture)
    (h : HasEnded files nodes boxes) (last : ℕ) → IsDraftGraph nodes
    → length (union_nodes p q ++ collector 29 ∷ []) ≡ last + 1
    → LaidEnded files (union_nodes p q) 29
    (UnionMade (PlanMade (sources_of_files files) p) (PlanMade (sources_of_files files) q)) nodes
    boxes h last
union-ended files p q pp qq small small' same nodes e boxes h last g count =
    laid-ended files (union_nodes p q) 29 28 (made_types p pp)
    (UnionMade (PlanMade (sources_of_files files) p) (PlanMade (sources_of_files files) q))
    (selects-united (sources_of_files files) p q pp qq small small' same) (omega arith) nodes e
    boxes h last g count
