-- A loop that puts each value to the group at its place.
use Rattle.aggregate_proc.proofs.Imports.{◌≡◌, ℕ, suc, ◌+◌, ◌<◌, ◌≤◌, List, [], ◌∷◌, ◌++◌, length, map, set, get_or, drop, ap, arith, Fold, Value, at_drop_more, folded, get_or-map, length-map, next_folded, put_folded, put_all, set-get_or}

-- y, which stands at the place, becomes x
put-set : {A : Type 0} (f : Fold) (h : A → Value) (xs : List A) (p : ℕ) (v : Value) (x y : A)
    → p < length xs → y ≡ get_or xs p y → h x ≡ next_folded f (h y) v
    → map h (set xs p x) ≡ put_folded f (map h xs) p v
put-set f h (z ∷ xs) (suc p) v x y lt at e =
    ap (λ l. h z ∷ l) (put-set f h xs p v x y (omega (arith, lt)) at e)
put-set f h xs p v x y lt at e = grind arith

put-push : {A : Type 0} (f : Fold) (h : A → Value) (xs : List A) (p : ℕ) (v : Value) (x : A)
    → length xs ≤ p → h x ≡ folded f (v ∷ [])
    → map h (xs ++ x ∷ []) ≡ put_folded f (map h xs) p v
put-push f h (y ∷ xs) (suc p) v x le e = grind (arith, put-push f h xs p v x (omega (arith, le)) e)
put-push f h xs p v x le e = grind arith

-- what is left to do
abbrev pub left_to_put : Fold → List Value → List ℕ → List Value → ℕ → List Value
left_to_put f states ps vs i = put_all f states (drop i ps) (drop i vs)

-- one step of the loop, at a value v
module _ {A : Type 0} (f : Fold) (h : A → Value) (xs : List A) (ps : List ℕ) (vs : List Value)
    (i : ℕ) (v : Value) (lt : i < length ps) (less : i < length vs) (at : get_or vs i v ≡ v) where
  one-step : (states : List Value)
      → left_to_put f states ps vs i ≡ left_to_put f (put_folded f states (get_or ps i 0) v) ps vs
      (i + 1)
  one-step states = let e = at_drop_more (λ l. l) ps i 0 lt in
      let g = at_drop_more (λ l. l) vs i v less in grind (arith, e, g)

  pub step-set : (new : List A) (x y : A) → new ≡ set xs (get_or ps i 0) x
      → get_or ps i 0 < length xs → y ≡ get_or xs (get_or ps i 0) y → h x ≡ next_folded f (h y) v
      → left_to_put f (map h new) ps vs (i + 1) ≡ left_to_put f (map h xs) ps vs i
  step-set new x y e within here is = grind (arith, put-set, one-step)

  -- it stays as it is
  pub step-keep : (new : List A) (y : A) → new ≡ xs → get_or ps i 0 < length xs
      → y ≡ get_or xs (get_or ps i 0) y → h y ≡ next_folded f (h y) v
      → left_to_put f (map h new) ps vs (i + 1) ≡ left_to_put f (map h xs) ps vs i
  step-keep new y e within here is = grind (arith, step-set, set-get_or xs (get_or ps i 0) y)

  pub step-push : (new : List A) (x : A) → new ≡ xs ++ x ∷ [] → length xs ≤ get_or ps i 0
      → h x ≡ folded f (v ∷ [])
      → left_to_put f (map h new) ps vs (i + 1) ≡ left_to_put f (map h xs) ps vs i
  step-push new x e past is = grind (arith, put-push, one-step)

-- the same at the elements of a list
module _ {A : Type 0} (f : Fold) (h : A → Value) (xs : List A) (ps : List ℕ) (ns : List A) (i : ℕ)
    (d : A) (lt : i < length ps) (e : length ns ≡ length ps) where
  less : i < length (map h ns)
  less = grind (arith, length-map)

  at : get_or (map h ns) i (h (get_or ns i d)) ≡ h (get_or ns i d)
  at = get_or-map h ns i d (h (get_or ns i d)) (omega (arith, e, lt))

  pub set-next : (new : List A) (x y : A) → new ≡ set xs (get_or ps i 0) x
      → get_or ps i 0 < length xs → y ≡ get_or xs (get_or ps i 0) y
      → h x ≡ next_folded f (h y) (h (get_or ns i d))
      → left_to_put f (map h new) ps (map h ns) (i + 1)
      ≡ left_to_put f (map h xs) ps (map h ns) i
  set-next = step-set f h xs ps (map h ns) i (h (get_or ns i d)) lt less at

  pub keep-next : (new : List A) (y : A) → new ≡ xs → get_or ps i 0 < length xs
      → y ≡ get_or xs (get_or ps i 0) y → h y ≡ next_folded f (h y) (h (get_or ns i d))
      → left_to_put f (map h new) ps (map h ns) (i + 1)
      ≡ left_to_put f (map h xs) ps (map h ns) i
  keep-next = step-keep f h xs ps (map h ns) i (h (get_or ns i d)) lt less at

  pub push-next : (new : List A) (x : A) → new ≡ xs ++ x ∷ [] → length xs ≤ get_or ps i 0
      → h x ≡ folded f (h (get_or ns i d) ∷ [])
      → left_to_put f (map h new) ps (map h ns) (i + 1)
      ≡ left_to_put f (map h xs) ps (map h ns) i
  push-next = step-push f h xs ps (map h ns) i (h (get_or ns i d)) lt less at
