-- The growth of a list, made path by path, and the inputs that it gives.
use Rattle.csv_procs.proofs.Imports.{Edge, GrowNode, List, PartSpec, [], arith, common_steps, count_by, drop, is_me, length, listed_edges, listed_parts, map, refl, spec_form, ℕ, ◌++◌, ◌+◌, ◌<◌, ◌∙◌, ◌∷◌, ◌≡◌}
use Rattle.query_model.specs.declared.processor_spec.Spec.TheVariants as spec

pub edges-count : (k : ℕ) (paths : List (List ℕ))
    → count_by (λ (e : Edge). is_me e.to.who) (listed_edges k paths) ≡ length paths
edges-count k [] = refl
edges-count k (path ∷ paths) = grind (arith, common_steps, edges-count (k + 1) paths)

-- what the first i paths grow by, and then what the others do
pub record GrowsUpTo (list : PartSpec) (paths : List (List ℕ)) (i : ℕ) (nodes : List GrowNode)
    (edges : List Edge) : Type 0 where
  pub specs : map (λ (n : GrowNode). spec_form n.spec) nodes ++ listed_parts list i (drop i paths)
      ≡ listed_parts list 0 paths
  pub ranks : map (λ (n : GrowNode). n.rank) nodes ++ map (λ path. 0) (drop i paths)
      ≡ map (λ path. 0) paths
  pub edges_are : edges ++ listed_edges i (drop i paths) ≡ listed_edges 0 paths
