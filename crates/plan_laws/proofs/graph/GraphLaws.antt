-- A list of nodes that fits, and leaves no end open, is a graph.
use Rattle.std.proofs.Common.{List, [], arith, length, refl, ◌++◌, ◌+◌, ◌∷◌, ◌≡◌, ◌≤◌}
use Rattle.plan_laws.proofs.Imports.{length-append, length-map, nil_from_length, AllFitEnds, Draft, IsDraftGraph, no_draft, ranks_after, with_node, with_nodes, DraftNode}
use Rattle.plan_laws.proofs.graph.Fitting.{Fitted, fits}
use Rattle.plan_laws.proofs.graph.Drafts.{draft-of, graph-of-draft, inputs-of-draft, outputs-of-draft}

pub lists-are-graphs : (nodes : List DraftNode) → AllFitEnds nodes [] → ranks_after nodes [] ≡ []
    → length nodes ≤ 256
    → length (with_nodes nodes no_draft).wires ≤ 1024 → IsDraftGraph nodes
lists-are-graphs nodes f none few edges =
    let fitted : Fitted nodes no_draft [] = fits nodes f in
    let d : Draft = with_nodes nodes no_draft in
    grind (
      arith,
      draft-of nodes fitted.fit,
      nil_from_length d.ends,
      length-map,
      graph-of-draft,
      inputs-of-draft,
      outputs-of-draft,
    )

-- the last of two parts of a list of nodes
pub with-append : (xs ys : List DraftNode) (d : Draft)
    → with_nodes (xs ++ ys) d ≡ with_nodes ys (with_nodes xs d)
with-append [] ys d = refl
with-append (x ∷ xs) ys d = with-append xs ys (with_node x d)

pub ranks-count : (nodes : List DraftNode) (d : Draft) → length (with_nodes nodes d).ranks ≡ length
    d.ranks + length nodes
ranks-count [] d = omega arith
ranks-count (node ∷ nodes) d = grind (arith, length-append, ranks-count nodes (with_node node d))
