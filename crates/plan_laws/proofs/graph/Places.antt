-- A run at a place of a list, and what stands there after a replacement.
use Rattle.std.proofs.Common.{List, ap, arith, drop, length, map, sym, take, ℕ, ◌++◌, ◌+◌, ◌∙◌, ◌≡◌, ◌≤◌}
use Rattle.plan_laws.proofs.Imports.{drop-drop, drop-map, drop_at, length-drop, length-take, map-append, take-append-drop, take-map, take_at, DraftNode, given_by, replaced, run_of, taken_by}

-- a list is what stands before a run, the run, and what stands behind it
pub run-split : {X : Type 0} (i k : ℕ) (xs : List X)
    → take i xs ++ (run_of i k xs ++ drop (i + k) xs) ≡ xs
run-split i k xs = ap (λ l. take i xs ++ (run_of i k xs ++ l)) (sym (drop-drop k i xs))
    ∙ ap (λ l. take i xs ++ l) (take-append-drop k (drop i xs)) ∙ take-append-drop i xs

pub run-length : {X : Type 0} (i k : ℕ) (xs : List X) → i + k ≤ length xs
    → length (run_of i k xs) ≡ k
run-length i k xs le = length-take k (drop i xs) ∙ let e = length-drop i xs in omega (arith, e, le)

pub run-at : {X : Type 0} (i k : ℕ) (xs t ys : List X) → length xs ≡ i → length t ≡ k
    → run_of i k (xs ++ (t ++ ys)) ≡ t
run-at i k xs t ys a b = ap (take k) (drop_at xs (t ++ ys) i a) ∙ take_at t ys k b

pub replaced-at : {X : Type 0} (i k : ℕ) (new xs t ys : List X) → length xs ≡ i → length t ≡ k
    → replaced i k new (xs ++ (t ++ ys)) ≡ xs ++ (new ++ ys)
replaced-at i k new xs t ys a b =
    ap (λ l. l ++ (new ++ drop (i + k) (xs ++ (t ++ ys)))) (take_at xs (t ++ ys) i a)
    ∙ ap (λ l. xs ++ (new ++ l)) (sym (drop-drop k i (xs ++ (t ++ ys)))
    ∙ ap (drop k) (drop_at xs (t ++ ys) i a) ∙ drop_at t ys k b)

pub taken-map : {X Y : Type 0} (f : X → Y) (node : DraftNode) (xs : List X)
    → taken_by node (map f xs) ≡ map f (taken_by node xs)
taken-map f node xs = search (arith, drop-map, take-map)

pub given-map : {X Y : Type 0} (f : X → Y) (node : DraftNode) (new xs : List X)
    → given_by node (map f new) (map f xs) ≡ map f (given_by node new xs)
given-map f node new xs = search (arith, take-map, drop-map, map-append)
