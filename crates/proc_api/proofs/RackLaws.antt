-- Laws of racks.
use Rattle.proc_api.proofs.Imports.{BoxPicture, all_kinds, arith, kind_place, IsPlaceOf, Kind, List, TakesOut, ap, count_by, count_by_more_no, false, get_or, get_or-map, is_of, length, length-map, map, map-append, remove, split_at, sym, take, take-map, ℕ, ◌++◌, ◌+◌, ◌<◌, ◌∙◌, ◌∷◌, ◌≡◌}

-- the box at the first place of a kind is the first of that kind
pub takes_out_of : {A : Type 0} (f : A → BoxPicture) (k : Kind) (xs ys : List A) (i : ℕ) (x : A)
    → IsPlaceOf k (map f xs) i → x ≡ get_or xs i x → ys ≡ remove xs i
    → TakesOut k (map f xs) (map f ys) (f x)
takes_out_of f k xs ys i x p e left =
    grind (arith, length-map, split_at xs i x, map-append, take-map, get_or-map)

-- no box of the kind is among the first so far, nor is the next one
pub none_so_far : {A : Type 0} (f : A → BoxPicture) (k : Kind) (xs : List A) (i : ℕ) (x : A)
    → x ≡ get_or xs i x → i < length xs → count_by (is_of k) (take i (map f xs)) ≡ 0
    → is_of k (f x) ≡ false → count_by (is_of k) (take (i + 1) (map f xs)) ≡ 0
none_so_far f k xs i x e lt before not_it =
    let at : get_or (map f xs) i (f x) ≡ f x = get_or-map f xs i x (f x) lt ∙ ap f (sym e) in
    count_by_more_no (is_of k) (map f xs) i (f x) (rw length-map lt) (ap (is_of k) at ∙ not_it)
    ∙ before

-- each kind stands at its place
pub kind-at : (k d : Kind) → get_or all_kinds (kind_place k) d ≡ k
kind-at k d = grind arith
