-- The kinds of nodes.
use Rattle.plan_laws.proofs.Imports.{arith, List, [], ap, ap₂, cond, count_by, map, refl, replicate, suc, ℕ, ◌++◌, ◌∷◌, ◌≡◌, reserves_from, PlanReserve, DraftNode, Kind, NodeForm, count_over, forms, grown_kind, kind_of, of_kind, row_of, same_kind}
use Rattle.plan_laws.proofs.meaning.Same.{by-forms, kind-same}
use Rattle.plan_laws.proofs.graph.Ports.{sum_by-map}

abbrev kinds : List DraftNode → List Kind
kinds nodes = map kind_of (map (λ (n : DraftNode). n.spec) nodes)

-- nodes of the same forms have the same kinds
pub kinds-same : (xs ys : List DraftNode) → forms xs ≡ forms ys → kinds xs ≡ kinds ys
kinds-same xs ys e =
    by-forms (λ xs ys. kinds xs ≡ kinds ys) refl
    (λ x y xs ys same rest. ap₂ (λ k ks. k ∷ ks)
    (kind-same x.spec y.spec (ap (λ (z : NodeForm). z.spec) same)) rest) xs ys e

-- so many are of a kind
pub kinds-counted : (k : Kind) (nodes : List DraftNode)
    → count_by (λ j. same_kind j k) (kinds nodes) ≡ count_over (of_kind k) nodes
kinds-counted k nodes = grind (arith, sum_by-map)

-- and so much is kept for them
pub reserves-same : (xs ys : List DraftNode) → forms xs ≡ forms ys → (n : ℕ)
    → reserves_from n xs ≡ reserves_from n ys
reserves-same xs ys e = by-forms (λ xs ys. (n : ℕ) → reserves_from n xs ≡ reserves_from n ys)
    (λ n. refl)
    (λ x y xs ys same rest n. ap₂ (λ k l. cond (row_of k).reads_list (kept n) [] ++ l)
    (kind-same x.spec y.spec (ap (λ (z : NodeForm). z.spec) same)) (rest (suc n))) xs ys e
  where
    kept : ℕ → List PlanReserve
    kept n = record { node = n; kinds = replicate 32 grown_kind; edges = 32 } ∷ []
