-- Each plan with few parts and lanes fits.
use Rattle.plan_laws.proofs.Imports.{None, Option, Some, [], arith, length, refl, replicate, ℕ, ◌++◌, ◌<◌, ◌∷◌, ◌≡◌, ◌≤◌, AllFitEnds, Cond, SortSpec, Span, append-nil, length-replicate, ranks_after, FewJoined, IsSmall, PlanJoin, PlanShape, SelectPlan, body_nodes, filter_nodes, gather_nodes, grouped, lane_steps, limit_nodes, plain, plan_nodes, read_steps, resize_node, select_steps, shape_nodes, sort_nodes}
use Rattle.plan_laws.proofs.graph.Fitting.{FitsBlock, Levels, block-append, joint-fit, joint-level, lanes-level, level-append, same-ranks, sources-fit, stay-level, node-fit}
use Rattle.plan_laws.proofs.graph.Frames.{fits-behind}

filter-level : (f : Option Cond) (q n r t : ℕ) → r < q → q < t
    → Levels (filter_nodes f q n) (replicate n r) n t
filter-level f q n r t low high = grind (arith, stay-level, lanes-level)

-- a resize of the first of the open ends
first-fit : (ends m r : ℕ) → r < 2 → ends ≤ 32
    → FitsBlock (resize_node 2 ends 1 ∷ []) (replicate ends r ++ replicate m 1)
    (2 ∷ replicate m 1)
first-fit ends m r low few =
    node-fit (resize_node 2 ends 1) [] (replicate ends r) (replicate m 1) refl
    (length-replicate ends r) (same-ranks ends r 2 low) few (omega arith)

-- so many open ends of one rank with the rows of FROM
read-steps-level : (ends : ℕ) (join : Option PlanJoin) (lanes r : ℕ) → r < 2 → ends ≤ 32
    → FewJoined join → lanes ≤ 16 → Levels (read_steps ends join lanes) (replicate ends r) lanes 5
read-steps-level ends None lanes r low few fj fl = grind (arith, joint-level)
read-steps-level ends (Some j) lanes r low few fj fl = record {
  rank = 4;
  low = omega arith;
  block =
      block-append
      (rw (append-nil (replicate ends r)) at (fits-behind ends (replicate ends r)
      (length-replicate ends r) (sources-fit j.sources 0 [] refl)))
      (block-append (first-fit ends (length j.sources) r low few)
      (block-append
      (fits-behind 1 (2 ∷ []) refl (joint-fit _ 2 (length j.sources) 1
      (replicate (length j.sources) 1) (length-replicate (length j.sources) 1)
      (same-ranks (length j.sources) 1 2 (omega arith)) fj.few (omega arith)))
      (block-append
      (joint-fit _ 3 2 1 (2 ∷ 2 ∷ []) refl (same-ranks 2 2 3 (omega arith))
      (omega arith) (omega arith))
      (joint-fit _ 4 1 lanes (3 ∷ []) refl (same-ranks 1 3 4 (omega arith))
      (omega arith) fl))));
}

gather-level : (order : Option SortSpec) (lanes r : ℕ) → r < 11 → lanes ≤ 16
    → Levels (gather_nodes order lanes) (replicate lanes r) 1 13
gather-level None lanes r low few = search (arith, joint-level)
gather-level (Some o) lanes r low few =
    level-append (lanes-level _ 11 lanes r 12 low (omega arith))
    (λ s less. joint-level _ 12 lanes 1 s 13 less (omega arith)
    (omega (arith, few)) (omega arith))

sort-level : (order : Option SortSpec) (r : ℕ) → r < 11 → Levels (sort_nodes order) (replicate 1 r)
    1 13
sort-level None r low = stay-level 1 r 13 (omega (arith, low))
sort-level (Some o) r low = joint-level _ 11 1 1 r 13 low (omega arith) (omega arith)
    (omega arith)

shape-level : (shape : PlanShape) (order : Option SortSpec) (lanes r : ℕ) → r < 6 → lanes ≤ 16
    → Levels (shape_nodes shape order lanes) (replicate lanes r) 1 13
shape-level (plain items) order lanes r low few =
    level-append (lanes-level _ 6 lanes r 11 low (omega arith))
    (λ s less. gather-level order lanes s less few)
shape-level (grouped arguments g having picks) order lanes r low few =
    level-append (lanes-level _ 6 lanes r 7 low (omega arith))
    (λ s less. level-append (lanes-level _ 7 lanes s 8 less (omega arith))
    (λ u small. level-append (joint-level _ 8 lanes 1 u 9 small (omega arith)
    (omega (arith, few)) (omega arith))
    (λ v under. level-append (filter-level having 9 1 v 10 under (omega arith))
    (λ w below. level-append (lanes-level _ 10 1 w 11 below (omega arith))
    (λ x lower. sort-level order x lower)))))

limit-level : (l : Option Span) (r : ℕ) → r < 13 → Levels (limit_nodes l) (replicate 1 r) 1 14
limit-level None r low = stay-level 1 r 14 (omega (arith, low))
limit-level (Some span) r low = joint-level _ 13 1 1 r 14 low (omega arith)
    (omega arith) (omega arith)

pub lane-steps-level : (p : SelectPlan) → IsSmall p → (r : ℕ) → r < 5
    → Levels (lane_steps p) (replicate p.lanes r) 1 14
lane-steps-level p s r low =
    level-append (filter-level p.filter 5 p.lanes r 6 low (omega arith))
    (λ u small. level-append (shape-level p.shape p.order p.lanes u small s.few_lanes)
    (λ v under. limit-level p.limit v under))

-- the steps behind so many ends fit, and leave one end open
pub select-level : (p : SelectPlan) → IsSmall p → (ends r : ℕ) → r < 2 → ends ≤ 32
    → Levels (select_steps ends p) (replicate ends r) 1 14
select-level p s ends r low few =
    level-append (read-steps-level ends p.join p.lanes r low few s.few_joined s.few_lanes)
    (λ q less. lane-steps-level p s q less)

-- the plan fits up to the collector, and leaves one end open
pub body-level : (p : SelectPlan) → IsSmall p → Levels (body_nodes p) [] 1 14
body-level p s =
    level-append (record { rank = 1; low = omega arith; block = sources-fit p.sources 0 [] refl })
    (λ r low. select-level p s (length p.sources) r low s.few_sources.few)

-- the plan fits, and leaves no end open
pub plan-fits : (p : SelectPlan) → IsSmall p → AllFitEnds (plan_nodes p) []
    × (ranks_after (plan_nodes p) [] ≡ [])
plan-fits p s =
    let body : Levels (body_nodes p) [] 1 14 = body-level p s in
    let all = block-append body.block (joint-fit _ 14 1 0 (body.rank ∷ []) refl
    (same-ranks 1 body.rank 14 body.low) (omega arith) (omega arith)) in
    (all.fit, all.leaves)
