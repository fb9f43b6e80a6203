-- Values that are laid out in slots and taken from them.
use Rattle.task_queue.proofs.Imports.{AllFit, Global, HasRoom, List, None, Option, Some, Vec, [], ap, append-nil, append_assoc, length, map, opening, refl, reverse, reverse-append, some-injective, some-ne-none, subst, suc, sym, values_of, vec_capacity, zero, ℕ, ◌++◌, ◌∙◌, ◌∷◌, ◌≡◌, ◌≤◌}

module _ {V : Type 0} where
  abbrev full : V → Option V
  full v = Some v

  reverse-push : (ys : List V) (x : V) → reverse (ys ++ x ∷ []) ≡ x ∷ reverse ys
  reverse-push ys x = reverse-append ys (x ∷ [])

  values_of-append : (xs ys : List (Option V)) → values_of (xs ++ ys) ≡ values_of xs ++ values_of ys
  values_of-append [] ys = refl
  values_of-append (None ∷ xs) ys = values_of-append xs ys
  values_of-append (Some v ∷ xs) ys = ap (λ l. v ∷ l) (values_of-append xs ys)

  -- the values in the slots that are left, before those taken back, where one more is taken back
  pub values-back : (ys slots : List (Option V)) (vs now all : List V) (x : V)
      → slots ≡ ys ++ Some x ∷ [] → now ≡ vs ++ x ∷ [] → values_of slots ++ reverse vs ≡ all
      → values_of ys ++ reverse now ≡ all
  values-back ys slots vs now all x is pushed so =
      ap (λ l. values_of ys ++ reverse l) pushed ∙ ap (λ l. values_of ys ++ l) (reverse-push vs x)
      ∙ sym (append_assoc (values_of ys) (x ∷ []) (reverse vs))
      ∙ (ap (λ l. l ++ reverse vs) (sym (values_of-append ys (Some x ∷ []))
      ∙ ap values_of (sym is)) ∙ so)

  -- the same where the slot was empty
  pub values-back_none : (ys slots : List (Option V)) (vs all : List V) → slots ≡ ys ++ None ∷ []
      → values_of slots ++ reverse vs ≡ all → values_of ys ++ reverse vs ≡ all
  values-back_none ys slots vs all is so = ap (λ l. l ++ reverse vs)
      (sym (append-nil (values_of ys))
      ∙ (sym (values_of-append ys (None ∷ [])) ∙ ap values_of (sym is))) ∙ so

  -- values that were laid out are those that stand in the slots
  pub values_of-full : (vs : List V) → values_of (map (λ v. Some v) vs) ≡ vs
  values_of-full [] = refl
  values_of-full (v ∷ vs) = ap (λ l. v ∷ l) (values_of-full vs)

  -- one more value that fits its place
  pub AllFit-push : (fits : V → ℕ → Type 0) (xs : List V) (x : V) → fits x (length xs)
      → AllFit fits xs → AllFit fits (xs ++ x ∷ [])
  AllFit-push fits [] x fit all zero v at = subst (λ u. fits u 0) (some-injective x v at) fit
  AllFit-push fits [] x fit all (suc n) v at = absurd (some-ne-none v (sym at))
  AllFit-push fits (y ∷ ys) x fit all zero v at = all 0 v at
  AllFit-push fits (y ∷ ys) x fit all (suc n) v at =
      AllFit-push (λ u k. fits u (suc k)) ys x fit (λ k u h. all (suc k) u h) n v at

  -- the list in slot 0 has the room that was asked for
  pub room-kept : (count : ℕ) (row empty : List (Vec V Global)) (values : Vec V Global)
      → row ≡ empty ++ values ∷ [] → empty ≡ [] → values.items ≡ [] → count ≤ vec_capacity values
      → HasRoom count (opening (0 ∷ []) row tt)
  room-kept count row empty values is none bare wide = subst (λ l. HasRoom count
      (opening (0 ∷ []) l tt))
      (sym (is ∙ ap (λ l. l ++ values ∷ []) none))
      record { room = values; here = refl; bare = bare; wide = wide }
