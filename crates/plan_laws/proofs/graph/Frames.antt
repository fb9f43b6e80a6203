-- Nodes behind other open ends, with higher ranks, fit as they do without them.
use Rattle.std.proofs.Common.{List, [], ap, append_assoc, arith, drop, length, map, refl, replicate, suc, sym, take, zero, ℕ, ◌++◌, ◌+◌, ◌<◌, ◌∙◌, ◌∷◌, ◌≡◌}
use Rattle.std.proofs.Math.Seq.{drop-append-add, take-append-add}
use Rattle.plan_laws.proofs.Imports.{All, All-cons, All-head, All-nil, All-tail, drop-drop, drop_at, length-append, length-map, AllFitEnds, DraftNode, nodes_behind, given_by, moved_nodes, moved_node, ranks_after, ranks_with, taken_by}
use Rattle.plan_laws.proofs.graph.Fitting.{FitsBlock}
use Rattle.plan_laws.proofs.graph.Places.{given-map, taken-map}

-- it takes the same
pub taken-moved : {X : Type 0} (ends rank : ℕ) (node : DraftNode) (xs ys : List X)
    → length xs ≡ ends → taken_by (moved_node ends rank node) (xs ++ ys) ≡ taken_by node ys
taken-moved ends rank node xs ys e = ap (take node.takes)
    (sym (drop-drop node.offset ends (xs ++ ys)) ∙ ap (drop node.offset) (drop_at xs ys ends e))

-- and puts the same in its place
pub given-moved : {X : Type 0} (ends rank : ℕ) (node : DraftNode) (new xs ys : List X)
    → length xs ≡ ends
    → given_by (moved_node ends rank node) new (xs ++ ys) ≡ xs ++ given_by node new ys
given-moved ends rank node new xs ys e =
    grind (arith, take-append-add, drop-append-add, append_assoc)

higher-all : (rank q : ℕ) (xs : List ℕ) → All (λ r. r < q) xs
    → All (λ r. r < rank + q) (map (λ r. rank + r) xs)
higher-all rank q [] a = All-nil (λ r. r < rank + q)
higher-all rank q (x ∷ xs) a =
    All-cons (λ r. r < rank + q) (rank + x) (map (λ r. rank + r) xs)
    (omega (arith, All-head (λ r. r < q) x xs a))
    (higher-all rank q xs (All-tail (λ r. r < q) x xs a))

higher-same : (rank n r : ℕ) → replicate n (rank + r) ≡ map (λ k. rank + k) (replicate n r)
higher-same rank zero r = refl
higher-same rank (suc n) r = ap (λ l. (rank + r) ∷ l) (higher-same rank n r)

moved-fit : (ends rank : ℕ) (nodes : List DraftNode) (done before : List ℕ) → length done ≡ ends
    → AllFitEnds nodes before
    → FitsBlock (moved_nodes ends rank nodes) (done ++ map (λ r. rank + r) before)
    (done ++ map (λ r. rank + r) (ranks_after nodes before))
moved-fit ends rank [] done before e f = record { fit = tt; leaves = refl }
moved-fit ends rank (node ∷ nodes) done before e f =
    let up = (λ (r : ℕ). rank + r) in
    let taken = taken-moved ends rank node done (map up before) e ∙ taken-map up node before in
    let given : ranks_with (moved_node ends rank node) (done ++ map up before)
    ≡ done ++ map up (ranks_with node before) =
    given-moved ends rank node (replicate node.gives (rank + node.rank)) done (map up before) e
    ∙ ap (λ l. done ++ given_by node l (map up before)) (higher-same rank node.gives node.rank)
    ∙ ap (λ l. done ++ l) (given-map up node (replicate node.gives node.rank) before) in
    let more = moved-fit ends rank nodes done (ranks_with node before) e f.1 in
    let ranked : All (λ r. r < rank + node.rank) (map up (taken_by node before)) =
    higher-all rank node.rank (taken_by node before) f.0.ranked in
    grind (arith, more, given, taken, ranked, f.0, length-append done (map up before), length-map)

-- a block behind other ends
pub fits-moved : {nodes : List DraftNode} {a b : List ℕ} (ends rank : ℕ) (done : List ℕ)
    → length done ≡ ends → FitsBlock nodes a b
    → FitsBlock (moved_nodes ends rank nodes) (done ++ map (λ r. rank + r) a)
    (done ++ map (λ r. rank + r) b)
fits-moved {nodes} {a} ends rank done e f = grind (arith, moved-fit ends rank nodes done a e f.fit)

same-higher : (rs : List ℕ) → map (λ r. 0 + r) rs ≡ rs
same-higher [] = refl
same-higher (r ∷ rs) = grind (arith, same-higher rs)

pub fits-behind : {nodes : List DraftNode} {a b : List ℕ} (ends : ℕ) (done : List ℕ)
    → length done ≡ ends → FitsBlock nodes a b
    → FitsBlock (nodes_behind ends nodes) (done ++ a) (done ++ b)
fits-behind {nodes} {a} {b} ends done e f =
    rw (same-higher a, same-higher b) at (fits-moved ends 0 done e f)
