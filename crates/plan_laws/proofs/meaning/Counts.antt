-- A plan's nodes counted step by step: their number, their inputs, those of a kind.
use Rattle.plan_laws.proofs.Imports.{List, Option, [], ap, arith, length, moved_nodes, refl, suc, sum_by, zero, ℕ, ◌*◌, ◌++◌, ◌+◌, ◌∷◌, ◌≡◌, ◌≤◌, AllFitDraft, Cond, Draft, DraftNode, NodePort, SortSpec, Span, Spec, lane_nodes, length-append, source_nodes, sum_by-append, sum_by-cons, wires_to, with_node, with_nodes, PlanShape, SelectPlan, filter_nodes, limit_nodes, shape_nodes, plan_nodes, IsSmall, Count, count_over, each_kept, kept_for, each_input, sources_count, shape_count, plan_count}
use Rattle.plan_laws.proofs.graph.Places.{run-length}

-- ---- step by step

-- counts of lists behind each other
pub counted-append : (w : Count) (xs ys : List DraftNode)
    → count_over w (xs ++ ys) ≡ count_over w xs + count_over w ys
counted-append w xs ys = sum_by-append (λ (n : DraftNode). w n.spec n.takes) xs ys

pub counted-cons : (w : Count) (x : DraftNode) (xs : List DraftNode)
    → count_over w (x ∷ xs) ≡ w x.spec x.takes + count_over w xs
counted-cons w x xs = sum_by-cons (λ (n : DraftNode). w n.spec n.takes) x xs

pub lanes-counted : (w : Count) (s : Spec) (rank i n : ℕ)
    → count_over w (lane_nodes s rank i n) ≡ n * w s 1
lanes-counted w s rank i zero = omega arith
lanes-counted w s rank i (suc n) = search (arith, counted-cons, lanes-counted w s rank (suc i) n)

pub sources-counted : (w : Count) (i : ℕ) (specs : List Spec)
    → count_over w (source_nodes i specs) ≡ sources_count w specs
sources-counted w i [] = refl
sources-counted w i (s ∷ specs) =
    search (arith, counted-cons, sum_by-cons, sources-counted w (suc i) specs)

-- nodes behind others count the same
pub moved-counted : (w : Count) (ends rank : ℕ) (nodes : List DraftNode)
    → count_over w (moved_nodes ends rank nodes) ≡ count_over w nodes
moved-counted w ends rank [] = refl
moved-counted w ends rank (node ∷ nodes) =
    search (arith, counted-cons, moved-counted w ends rank nodes)

shape-counted : (w : Count) (shape : PlanShape) (order : Option SortSpec) (lanes : ℕ)
    → count_over w (shape_nodes shape order lanes) ≡ shape_count w shape order lanes
shape-counted w shape order lanes = grind (arith, counted-append, lanes-counted, counted-cons)

-- A plan's nodes count what its steps say.
pub plan-counted : (w : Count) (p : SelectPlan) → count_over w (plan_nodes p) ≡ plan_count w p
plan-counted w p =
    grind (arith, counted-append, sources-counted, shape-counted, counted-cons, moved-counted)

-- ---- nodes and edges

pub nodes-counted : (nodes : List DraftNode) → length nodes ≤ count_over each_kept nodes
nodes-counted [] = omega arith
nodes-counted (node ∷ nodes) =
    omega (arith, counted-cons each_kept node nodes, nodes-counted nodes)

wires-length : (n i : ℕ) (ends : List NodePort) → length (wires_to n i ends) ≡ length ends
wires-length n i [] = refl
wires-length n i (e ∷ ends) = ap suc (wires-length n (suc i) ends)

pub wires-counted : (nodes : List DraftNode) (d : Draft) → AllFitDraft nodes d
    → length (with_nodes nodes d).wires ≡ length d.wires + count_over each_input nodes
wires-counted [] d f = omega arith
wires-counted (node ∷ nodes) d f = grind (
  arith,
  length-append,
  wires-length,
  wires-counted nodes (with_node node d) f.1,
  run-length node.offset node.takes d.ends f.0.in_range,
  counted-cons each_input node nodes,
)

pub sources-kept : (specs : List Spec)
    → sources_count each_kept specs ≡ length specs + sum_by kept_for specs
sources-kept [] = refl
sources-kept (s ∷ specs) = search (arith, sum_by-cons, sources-kept specs)

pub no-inputs : (specs : List Spec) → sources_count each_input specs ≡ 0
no-inputs [] = refl
no-inputs (s ∷ specs) = search (arith, no-inputs specs)

few-filters : (f : Option Cond) (rank n : ℕ) → (count_over each_kept (filter_nodes f rank n) ≤ n)
    × (count_over each_input (filter_nodes f rank n) ≤ n)
few-filters f rank n = grind (arith, lanes-counted)

few-shape : (shape : PlanShape) (order : Option SortSpec) (lanes : ℕ) → lanes ≤ 16
    → (shape_count each_kept shape order lanes ≤ 36)
    × (shape_count each_input shape order lanes ≤ 52)
few-shape shape order lanes few =
    grind (arith, few-filters, counted-cons, lanes-counted, counted-append)

few-limits : (l : Option Span) → (count_over each_kept (limit_nodes l) ≤ 1)
    × (count_over each_input (limit_nodes l) ≤ 1)
few-limits l = grind arith

-- A small plan has at most 124 nodes, with those that are kept, and few inputs.
pub few-nodes : (p : SelectPlan) → IsSmall p → (count_over each_kept (plan_nodes p) ≤ 124)
    × (count_over each_input (plan_nodes p) ≤ 140)
few-nodes p s = grind (
  arith,
  few-filters p.filter 5 p.lanes,
  few-shape p.shape p.order p.lanes s.few_lanes,
  few-limits p.limit,
  plan-counted,
  sources-kept,
  no-inputs,
)
