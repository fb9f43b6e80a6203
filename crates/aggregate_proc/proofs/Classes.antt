-- Rows that come one after another into classes by their codes, and what is made of each class.
use Rattle.aggregate_proc.proofs.Imports.{◌≡◌, Bool, true, false, not, ◌||◌, cond, List, [], ◌∷◌, ◌++◌, map, filter, fold, refl, sym, ap, ap₂, ◌∙◌, append_assoc, subst, arith, AllByRecursion, Fold, IsSame, Row, Value, any-filter_same, append-nil, distinct, filter-append, folded, insert_key, list_any, map-append, next_folded, places_from, position_or_len, put_folded, put_all, common_steps}
use Rattle.aggregate_proc.proofs.FoldLaws.{folded-next}
use Rattle.aggregate_proc.proofs.ListLaws.{all-filter}

filter-none : {A : Type 0} (p : A → Bool) (xs : List A) → list_any p xs ≡ false
    → filter p xs ≡ []
filter-none p [] h = refl
filter-none p (x ∷ xs) h = let more = filter-none p xs in grind (arith, common_steps)

-- the first element that passes, and the others
pub record Passing {A : Type 0} (p : A → Bool) (xs : List A) : Type 0 where
  pub first : A
  pub rest : List A
  pub is : filter p xs ≡ first ∷ rest
  pub passes : p first ≡ true

pub filter-some : {A : Type 0} (p : A → Bool) (xs : List A) → list_any p xs ≡ true → Passing p xs
filter-some p [] h = absurd cc
filter-some p (x ∷ xs) h = go (p x) refl (filter-some p xs)
  where
    go : (b : Bool) → p x ≡ b → (list_any p xs ≡ true → Passing p xs) → Passing p (x ∷ xs)
    go true e more =
        record {
          first = x;
          rest = filter p xs;
          is = ap (λ b. cond b (x ∷ filter p xs) (filter p xs)) e;
          passes = e;
        }
    go false e more = grind arith

pub list_any-map : {A B : Type 0} (p : B → Bool) (f : A → B) (xs : List A)
    → list_any p (map f xs) ≡ list_any (λ x. p (f x)) xs
list_any-map p f [] = refl
list_any-map p f (x ∷ xs) = ap (λ b. p (f x) || b) (list_any-map p f xs)

module _ {X : Type 0} (same : X → X → Bool) (is : IsSame same) where
  -- what is the same as x isn't what x differs from
  apart : (x y z : X) → same x y ≡ false → same x z ≡ true → not (same y z) ≡ true
  apart x y z e f = grind arith

  turned : (x y : X) → same y x ≡ same x y
  turned x y = grind arith

  any-others : (x y : X) (xs : List X) → same x y ≡ false
      → list_any (same x) (filter (λ z. not (same y z)) xs) ≡ list_any (same x) xs
  any-others x y xs e = any-filter_same (same x) (λ z. not (same y z)) true (λ z. apart x y z e) xs

  -- each once, and then one more
  pub distinct-push : (xs : List X) (x : X)
      → distinct same (xs ++ x ∷ []) ≡ insert_key same (distinct same xs) x
  unfolding distinct
  distinct-push [] x = refl
  distinct-push (y ∷ xs) x =
      grind (arith, any-others, turned, filter-append, common_steps, distinct-push xs x)

  pub distinct-more : (xs ys : List X)
      → distinct same (xs ++ ys) ≡ fold (insert_key same) (distinct same xs) ys
  distinct-more xs [] = ap (distinct same) (append-nil xs)
  distinct-more xs (y ∷ ys) =
      grind (arith, append_assoc, distinct-push, distinct-more (xs ++ y ∷ []) ys)

  -- each differs from those behind it
  abbrev AreApart : List X → Type 0
  AreApart [] = Unit {0}
  AreApart (x ∷ xs) = AllByRecursion (λ y. same x y ≡ false) xs × AreApart xs

  apart-filter : (p : X → Bool) (xs : List X) → AreApart xs → AreApart (filter p xs)
  apart-filter p [] h = tt
  apart-filter p (x ∷ xs) h = grind (arith, all-filter, apart-filter p xs h.1)

  left-out : (x : X) (xs : List X)
      → AllByRecursion (λ y. same x y ≡ false) (filter (λ y. not (same x y)) xs)
  left-out x [] = tt
  left-out x (y ∷ xs) = grind (arith, left-out x xs)

  distinct-apart : (xs : List X) → AreApart (distinct same xs)
  unfolding distinct
  distinct-apart [] = tt
  distinct-apart (x ∷ xs) = grind (arith, left-out, apart-filter, distinct-apart xs)

  pub any-distinct : (x : X) (xs : List X)
      → list_any (same x) (distinct same xs) ≡ list_any (same x) xs
  unfolding distinct
  any-distinct x [] = refl
  any-distinct x (y ∷ xs) = grind (arith, any-others, common_steps, any-distinct x xs)

  -- ---- what is made of each class

  module _ (code : Row → X) (arg : Row → Value) (f : Fold) where
    abbrev pub values_of : X → List Row → List Value
    values_of x rows = map arg (filter (λ r. same x (code r)) rows)

    abbrev pub class_values : List Row → List Value
    class_values rows = map (λ x. folded f (values_of x rows)) (distinct same (map code rows))

    values-more : (x : X) (rows : List Row) (r : Row) (b : Bool) → same x (code r) ≡ b
        → values_of x (rows ++ r ∷ []) ≡ values_of x rows ++ cond b (arg r ∷ []) []
    values-more x rows r b e =
        ap (map arg) (filter-append (λ q. same x (code q)) rows (r ∷ [])) ∙ map-append arg _ _
        ∙ ap (λ l. values_of x rows ++ l) (ap (λ c. map arg (cond c (r ∷ []) [])) e
        ∙ (elim b as (λ c. map arg (cond c (r ∷ []) []) ≡ cond c (arg r ∷ []) [])
        [ true ↦ refl | false ↦ refl ]))

    same-others : (xs : List X) (rows : List Row) (r : Row)
        → AllByRecursion (λ y. same (code r) y ≡ false) xs
        → map (λ x. folded f (values_of x (rows ++ r ∷ []))) xs
        ≡ map (λ x. folded f (values_of x rows)) xs
    same-others [] rows r h = refl
    same-others (x ∷ xs) rows r h =
        ap₂ ◌∷◌ (ap (folded f)
        (values-more x rows r false (turned (code r) x ∙ h.0) ∙ append-nil (values_of x rows)))
        (same-others xs rows r h.1)

    here : (rows : List Row) (r : Row) → list_any (λ q. same (code r) (code q)) rows ≡ true
        → folded f (values_of (code r) (rows ++ r ∷ []))
        ≡ next_folded f (folded f (values_of (code r) rows)) (arg r)
    here rows r h =
        let s = filter-some (λ q. same (code r) (code q)) rows h in
        ap (folded f) (values-more (code r) rows r true (is.itself (code r)))
        ∙ ap (λ l. folded f (map arg l ++ arg r ∷ [])) s.is
        ∙ folded-next f (arg s.first) (map arg s.rest) (arg r)
        ∙ sym (ap (λ l. next_folded f (folded f (map arg l)) (arg r)) s.is)

    put-here : (xs : List X) (rows : List Row) (r : Row) → AreApart xs
        → list_any (same (code r)) xs ≡ list_any (λ q. same (code r) (code q)) rows
        → map (λ x. folded f (values_of x (rows ++ r ∷ []))) (insert_key same xs (code r))
        ≡ put_folded f (map (λ x. folded f (values_of x rows)) xs)
        (position_or_len (same (code r)) xs) (arg r)
    put-here [] rows r h e =
        ap (λ l. folded f l ∷ []) (values-more (code r) rows r true (is.itself (code r))
        ∙ ap (λ l. map arg l ++ arg r ∷ [])
        (filter-none (λ q. same (code r) (code q)) rows (sym e)))
    put-here (x ∷ xs) rows r h e =
        let F' : X → Value = λ y. folded f (values_of y (rows ++ r ∷ [])) in
        let F : X → Value = λ y. folded f (values_of y rows) in
        let known : same (code r) x ≡ true → list_any (λ q. same (code r) (code q)) rows ≡ true =
        λ g. sym e ∙ ap (λ b. b || list_any (same (code r)) xs) g in
        let one : same (code r) x ≡ true → F' x ≡ next_folded f (F x) (arg r) =
        λ g. subst (λ y. F' y ≡ next_folded f (F y) (arg r)) (is.one (code r) x g)
        (here rows r (known g)) in
        let rest : same (code r) x ≡ true → map F' xs ≡ map F xs = λ g. same-others xs rows r
        (subst (λ y. AllByRecursion (λ z. same y z ≡ false) xs) (sym (is.one (code r) x g)) h.0) in
        let other : same (code r) x ≡ false → F' x ≡ F x = λ g. ap (folded f)
        (values-more x rows r false (turned (code r) x ∙ g) ∙ append-nil (values_of x rows)) in
        let more : same (code r) x ≡ false → map F' (insert_key same xs (code r))
        ≡ put_folded f (map F xs) (position_or_len (same (code r)) xs) (arg r) =
        λ g. put-here xs rows r h.1 (sym (ap (λ b. b || list_any (same (code r)) xs) g) ∙ e) in
        grind (arith, common_steps)

    -- one row more
    class-push : (rows : List Row) (r : Row)
        → class_values (rows ++ r ∷ [])
        ≡ put_folded f (class_values rows) (position_or_len (same (code r))
        (distinct same (map code rows))) (arg r)
    class-push rows r =
        ap (λ l. map (λ x. folded f (values_of x (rows ++ r ∷ []))) (distinct same l))
        (map-append code rows (r ∷ []))
        ∙ ap (map (λ x. folded f (values_of x (rows ++ r ∷ []))))
        (distinct-push (map code rows) (code r))
        ∙ put-here (distinct same (map code rows)) rows r (distinct-apart (map code rows))
        (any-distinct (code r) (map code rows) ∙ list_any-map (same (code r)) code rows)

    -- Rows that follow go to the classes at their places.
    pub class-more : (rows more : List Row)
        → class_values (rows ++ more)
        ≡ put_all f (class_values rows)
        (places_from true same (distinct same (map code rows)) (map code more)) (map arg more)
    class-more rows [] = ap class_values (append-nil rows)
    class-more rows (r ∷ more) =
        ap class_values (sym (append_assoc rows (r ∷ []) more)) ∙ class-more (rows ++ r ∷ []) more
        ∙ ap₂ (λ l m. put_all f l (places_from true same m (map code more)) (map arg more))
        (class-push rows r)
        (ap (distinct same) (map-append code rows (r ∷ []))
        ∙ distinct-push (map code rows) (code r))
