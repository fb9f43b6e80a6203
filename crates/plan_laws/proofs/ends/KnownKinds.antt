-- Plans have nodes of known kinds alone.
use Rattle.plan_laws.proofs.Imports.{IfSome, List, None, Option, Some, [], arith, resize_node, subst, suc, sym, zero, ℕ, ◌<◌, ◌∷◌, ◌≡◌, AllByRecursion, DraftNode, IsPlan, IsSourceSpec, JoinsSources, NodeForm, PartSpec, PlanJoin, SelectPlan, SortSpec, Span, Spec, every-append, every-front, every-weaker, forms, body_nodes, collect_node, gather_nodes, lane_nodes, lane_steps, limit_nodes, node_form, plan_nodes, select_steps, sort_nodes, source_nodes, ⊤, IsReady, IsStep, KnownPorts, SourceHas, IsKnown, moved_node}
use Rattle.plan_laws.proofs.meaning.Same.{by-forms, same-spec}
use Rattle.plan_laws.proofs.meaning.Frames.{every-moved}
use Rattle.plan_laws.proofs.KindTable.{known-gives, known-ports}

-- ---- known kinds

-- a node of a known kind is ready
pub known-ready : (P L : PartSpec → Type 0) (n : DraftNode) → IsStep P L n → IsReady n
known-ready P L n h = grind (arith, known-ports, known-gives)

-- What is true of each node of a rank and with known ports that is no source's, and stays true
-- behind other ends, is true of a plan's nodes where it is of its sources.
module _ (Q : DraftNode → Type 0)
    (step : (s : Spec) (rank offset takes gives : ℕ) → 0 < rank → KnownPorts s takes gives
    → SourceHas (λ part. ⊥) (λ list. ⊥) s → Q (record {
      spec = s;
      rank = rank;
      offset = offset;
      takes = takes;
      gives = gives;
    }))
    (moved' : (ends : ℕ) (node : DraftNode) → Q node → Q (moved_node ends 0 node)) where
  lanes-have : (s : Spec) (rank i lanes : ℕ) → 0 < rank → KnownPorts s 1 1
      → SourceHas (λ part. ⊥) (λ list. ⊥) s → AllByRecursion Q (lane_nodes s rank i lanes)
  lanes-have s rank i zero r h k = tt
  lanes-have s rank i (suc n) r h k = (step s rank i 1 1 r h k, lanes-have s rank (suc i) n r h k)

  gather-have : (o : Option SortSpec) (lanes : ℕ) → AllByRecursion Q (gather_nodes o lanes)
  gather-have o lanes = grind (arith, every-append, lanes-have)

  sort-have : (o : Option SortSpec) → AllByRecursion Q (sort_nodes o)
  sort-have o = grind arith

  limit-have : (l : Option Span) → AllByRecursion Q (limit_nodes l)
  limit-have l = grind arith

  -- the steps in the lanes
  pub lane-have : (p : SelectPlan) → AllByRecursion Q (lane_steps p)
  lane-have p = grind (arith, every-append, limit-have, lanes-have, gather-have, sort-have)

  -- the resizes into the lanes
  abbrev Resizes : SelectPlan → Type 0
  Resizes p = (rank takes : ℕ) → 0 < rank → Q (resize_node rank takes p.lanes)

  -- the steps behind so many open ends
  pub select-have : (ends : ℕ) (p : SelectPlan) → Resizes p
      → IfSome p.join (λ (j : PlanJoin). AllByRecursion Q (source_nodes 0 j.sources))
      → AllByRecursion Q (select_steps ends p)
  select-have ends p resizes second = grind (arith, every-append, lane-have, every-moved)

  pub plan-have : (p : SelectPlan) → Resizes p → AllByRecursion Q (source_nodes 0 p.sources)
      → IfSome p.join (λ (j : PlanJoin). AllByRecursion Q (source_nodes 0 j.sources))
      → AllByRecursion Q (plan_nodes p)
  plan-have p resizes first second = grind (arith, every-append, select-have)

module _ (P L : PartSpec → Type 0) where
  abbrev Known : Spec → (takes gives : ℕ) → Type 0
  Known s takes gives = KnownPorts s takes gives × SourceHas P L s

  known-form : (a b : DraftNode) → node_form a ≡ node_form b → IsStep P L b → IsStep P L a
  known-form a b e h = grind (arith, same-spec)

  -- nodes of the same forms are known too
  pub known-forms : (xs ys : List DraftNode) → forms xs ≡ forms ys → AllByRecursion (IsStep P L) ys
      → AllByRecursion (IsStep P L) xs
  known-forms xs ys e h =
      by-forms (λ xs ys. AllByRecursion (IsStep P L) ys → AllByRecursion (IsStep P L) xs) (λ h. tt)
      (λ x y xs ys same rest h. (known-form x y same h.0, rest h.1)) xs ys e h

  -- ---- the nodes of a plan

  sources-known : (i : ℕ) (specs : List Spec) → AllByRecursion IsSourceSpec specs
      → AllByRecursion (SourceHas P L) specs → AllByRecursion (IsStep P L) (source_nodes i specs)
  sources-known i [] h parts = tt
  sources-known i (s ∷ specs) h parts = grind (arith, sources-known (suc i) specs h.1 parts.1)

  -- what is true of the parts of both tables
  abbrev pub BothHave : SelectPlan → Type 0
  BothHave p = AllByRecursion (SourceHas P L) p.sources
      × IfSome p.join (λ (j : PlanJoin). AllByRecursion (SourceHas P L) j.sources)

  joined-known : (j : Option PlanJoin) → JoinsSources j
      → IfSome j (λ (j : PlanJoin). AllByRecursion (SourceHas P L) j.sources)
      → IfSome j (λ (j : PlanJoin). AllByRecursion (IsStep P L) (source_nodes 0 j.sources))
  joined-known j are more = grind (arith, sources-known)

  resizes-known : (p : SelectPlan) → 0 < p.lanes → (rank takes : ℕ) → 0 < rank
      → IsStep P L (resize_node rank takes p.lanes)
  resizes-known p some rank takes r = grind arith

  plan-known : (p : SelectPlan) → IsPlan p → BothHave p → AllByRecursion (IsStep P L) (plan_nodes p)
  plan-known p is parts = grind (arith, plan-have, resizes-known, sources-known, joined-known)

  -- all nodes but the collector
  pub body-known : (p : SelectPlan) → IsPlan p → BothHave p
      → AllByRecursion (IsStep P L) (body_nodes p)
  body-known p is parts =
      every-front (IsStep P L) (body_nodes p) (collect_node ∷ []) (plan-known p is parts)

  -- the steps behind so many open ends
  pub select-known : (ends : ℕ) (p : SelectPlan) → 0 < p.lanes → JoinsSources p.join
      → IfSome p.join (λ (j : PlanJoin). AllByRecursion (SourceHas P L) j.sources)
      → AllByRecursion (IsStep P L) (select_steps ends p)
  select-known ends p some is parts = grind (arith, select-have, resizes-known, joined-known)

  -- Each node of such a plan's graph is of a known kind, and what is true of the sources' parts is
  -- true of its part.
  pub plan-steps : (p : SelectPlan) (nodes : List DraftNode) → IsPlan p → BothHave p
      → forms nodes ≡ forms (plan_nodes p) → AllByRecursion (IsStep P L) nodes
  plan-steps p nodes is parts e = known-forms nodes (plan_nodes p) e (plan-known p is parts)

-- nothing is asked of parts
pub any-parts : (specs : List Spec) → AllByRecursion (SourceHas (λ part. ⊤) (λ list. ⊤)) specs
any-parts [] = tt
any-parts (s ∷ specs) = grind (arith, any-parts specs)

pub any-joined : (j : Option PlanJoin)
    → IfSome j (λ (j : PlanJoin). AllByRecursion (SourceHas (λ part. ⊤) (λ list. ⊤)) j.sources)
any-joined j = grind (arith, any-parts)

-- nodes with the forms of nodes of known kinds are ready
pub known-nodes : (nodes steps : List DraftNode) → forms nodes ≡ forms steps
    → AllByRecursion IsKnown steps → AllByRecursion IsReady nodes
known-nodes nodes steps e h =
    every-weaker IsKnown IsReady (known-ready (λ part. ⊤) (λ list. ⊤)) nodes
    (known-forms (λ part. ⊤) (λ list. ⊤) nodes steps e h)

-- ---- ranks

-- each node has a rank above that of the sources that a list grows by
abbrev pub IsAboveSources : DraftNode → Type 0
IsAboveSources n = 0 < n.rank

sources-ranked : (i : ℕ) (specs : List Spec) → AllByRecursion IsAboveSources (source_nodes i specs)
sources-ranked i [] = tt
sources-ranked i (s ∷ specs) = (omega arith, sources-ranked (suc i) specs)

pub plan-ranked : (p : SelectPlan) (nodes : List DraftNode) → forms nodes ≡ forms (plan_nodes p)
    → AllByRecursion IsAboveSources nodes
plan-ranked p nodes e =
    by-forms (λ xs ys. AllByRecursion IsAboveSources ys → AllByRecursion IsAboveSources xs)
    (λ h. tt)
    (λ x y xs ys same rest h.
    (subst (λ (f : NodeForm). 0 < f.rank) (sym same) h.0, rest h.1)) nodes (plan_nodes p) e
    (plan-have IsAboveSources (λ s rank offset takes gives r h none. r)
    (λ ends node h. omega (arith, h)) p (λ rank takes r. r) (sources-ranked 0 p.sources)
    (joined p.join))
  where
    joined : (j : Option PlanJoin)
        → IfSome j (λ (j : PlanJoin). AllByRecursion IsAboveSources (source_nodes 0 j.sources))
    joined None = tt
    joined (Some j) = sources-ranked 0 j.sources
