-- One port, wire or node more.
use Rattle.chunk_data.proofs.Imports.{List, [], ap, arith, get_or, length, suc, sym, take, zero, ℕ, ◌++◌, ◌+◌, ◌<◌, ◌∙◌, ◌∷◌, ◌≡◌}
use Rattle.plan_laws.proofs.graph.GraphLaws.{with-append}
use Rattle.plan_laws.proofs.Imports.{Wire, get_or-drop, length-drop, length-take-le, take_more, AllFitDraft, Draft, DraftNode, FitsDraft, NodePort, ports_of, run_of, wires_to, with_node, with_nodes}

ports-suc : (n o k : ℕ) → ports_of n o (suc k) ≡ ports_of n o k ++ record { node = n; port = o + k }
    ∷ []
ports-suc n o zero = ap (λ (m : ℕ). record { node = n; port = m } ∷ []) (omega arith)
ports-suc n o (suc k) = grind (arith, ports-suc n (suc o) k)

pub ports-more : (n k : ℕ) → ports_of n 0 (k + 1) ≡ ports_of n 0 k ++ record { node = n; port = k }
    ∷ []
ports-more n k = search (arith, ports-suc)

-- the wire from this end to input i of node n
abbrev pub wire_to : ℕ → ℕ → NodePort → Wire
wire_to n i e = record { from = e.node; out = e.port; to = n; input = i }

wires-push : (n i : ℕ) (es : List NodePort) (e : NodePort)
    → wires_to n i (es ++ e ∷ []) ≡ wires_to n i es ++ wire_to n (i + length es) e ∷ []
wires-push n i [] e = ap (λ (m : ℕ). wire_to n m e ∷ []) (omega arith)
wires-push n i (x ∷ es) e = grind (arith, wire_to, wires-push n (suc i) es e)

pub run-more : {X : Type 0} (a k : ℕ) (xs : List X) (d : X) → a + k < length xs
    → run_of a (k + 1) xs ≡ run_of a k xs ++ get_or xs (a + k) d ∷ []
run-more a k xs d lt = search (arith, take_more, length-drop, get_or-drop)

pub wires-more : (n a k : ℕ) (xs : List NodePort) (d : NodePort) → a + k < length xs
    → wires_to n 0 (run_of a (k + 1) xs) ≡ wires_to n 0 (run_of a k xs)
    ++ wire_to n k (get_or xs (a + k) d) ∷ []
wires-more n a k xs d lt =
    grind (arith, length-take-le, wires-push, length-drop a xs, run-more a k xs d lt)

pub nodes-more : (nodes : List DraftNode) (i : ℕ) (node : DraftNode) (d : Draft) → i < length nodes
    → node ≡ get_or nodes i node
    → with_nodes (take (i + 1) nodes) d ≡ with_node node (with_nodes (take i nodes) d)
nodes-more nodes i node d lt is = ap (λ l. with_nodes l d) (take_more nodes i node lt
    ∙ ap (λ x. take i nodes ++ x ∷ []) (sym is)) ∙ with-append (take i nodes) (node ∷ []) d

-- the node at each place fits what the nodes before it made
pub fit-at : (nodes : List DraftNode) (i : ℕ) (e : DraftNode) (d : Draft) → i < length nodes
    → AllFitDraft nodes d → FitsDraft (get_or nodes i e) (with_nodes (take i nodes) d)
fit-at (x ∷ nodes) (suc i) e d lt f = fit-at nodes i e (with_node x d) (omega (arith, lt)) f.1
fit-at nodes i e d lt f = grind arith
