-- a list under a map
use Rattle.chunk_data.proofs.Imports.{All, Bool, List, [], ap, arith, drop-map, false, get_or, get_or-map, kept, length, length-map, map, refl, suc, sym, take-map, true, ℕ, ◌<◌, ◌∷◌, ◌≡◌}

pub kept-map : {X Y : Type 0} (f : X → Y) (mask : List Bool) (xs : List X)
    → kept mask (map f xs) ≡ map f (kept mask xs)
kept-map f (true ∷ mask) (x ∷ xs) = ap (λ l. f x ∷ l) (kept-map f mask xs)
kept-map f (false ∷ mask) (x ∷ xs) = kept-map f mask xs
kept-map f _ _ = refl

pub places-map : {X Y : Type 0} (f : X → Y) (xs : List X) (places : List ℕ) (d : X) (e : Y)
    → All (λ p. p < length xs) places
    → map (λ p. get_or (map f xs) p e) places ≡ map f (map (λ p. get_or xs p d) places)
places-map f xs [] d e h = refl
places-map f xs (p ∷ places) d e h =
    let a : get_or (map f xs) p e ≡ f (get_or xs p d) =
    get_or-map f xs p d e (h 0 0 (omega arith)) in
    let b : map (λ p. get_or (map f xs) p e) places ≡ map f (map (λ p. get_or xs p d) places) =
    places-map f xs places d e (λ k n lt. h (suc k) n (omega arith)) in
    cc

-- what a column gathers, from what the list under it gathers
pub places_of : {X Y : Type 0} (f : X → Y) (xs ys : List X) (column : List Y) (places : List ℕ)
    (d : X) (e : Y) → column ≡ map f xs → All (λ p. p < length column) places
    → ys ≡ map (λ p. get_or xs p d) places → map f ys ≡ map (λ p. get_or column p e) places
places_of f xs ys column places d e is h q =
    let r : All (λ p. p < length xs) places = λ k n lt. (let b : get_or places k n < length column =
    h k n lt in omega (arith, b, ap length is, length-map xs f)) in
    rw (q, is) (sym (places-map f xs places d e r))

pub ruleset maps = (kept-map, places-map, take-map, drop-map)
