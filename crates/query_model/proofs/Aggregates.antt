-- The merge of the aggregates of parts is the aggregate of the whole, and no order of the values
-- matters.
use Rattle.query_model.proofs.Imports.{Bool, Combine, Equal, Greater, IsPermutation, Less, List, Null, Ordering, Value, [], added, ap, ap₂, arith, chosen, combined, cond, counted, counts_added, exact, exact_sum, false, filter-append, flat_map, fold, fold-append, greater, greatest, inl, inr, ints, is_lt, is_null, is_uint, least, length, length-append, length_permutation, lesser, list_all, list_all-append, map, merge_of, not, pos, refl, sym, true, valid_values, value_cmp, w64, wrapped, wrapped_sum, ℤ, ◌&&◌, ◌++◌, ◌+ℤ◌, ◌∙◌, ◌∷◌, ◌≡◌, ◌⊎◌}
use Rattle.query_model.proofs.Wrapping.{Same, Same-add, wrapped-Same, exact-wrapped, is_uint-wrapped}
use Rattle.query_model.proofs.ValueOrder.{value_cmp_total, value_cmp-IsAntisymmetric}
use Rattle.std.specs.Int.{int_wrap}
use Rattle.query_model.proofs.Lists.{IsPermutation-filter, along_permutation}

abbrev part_of : (List Value → Value) → List Value → List Value
part_of g [] = []
part_of g (v ∷ vs) = g (v ∷ vs) ∷ []

-- the partial aggregate of a part, where it has values
abbrev pub partial : Combine → List Value → List Value
partial op vs = part_of (combined op) vs

abbrev pub all_values : List (List Value) → List Value
all_values vss = flat_map (λ vs. vs) vss

abbrev parts_of : (List Value → Value) → List (List Value) → List Value
parts_of g vss = flat_map (part_of g) vss

abbrev pub partials : Combine → List (List Value) → List Value
partials op vss = flat_map (partial op) vss

exact_sum-append : (xs ys : List Value) → exact_sum (xs ++ ys) ≡ exact_sum xs +ℤ exact_sum ys
exact_sum-append [] ys = omega (arith, ints)
exact_sum-append (x ∷ xs) ys = let more = exact_sum-append xs ys in omega (arith, ints, more)

uint_sums : (vss : List (List Value))
    → list_all is_uint (parts_of wrapped_sum vss) ≡ list_all is_uint (all_values vss)
unfolding wrapped_sum
uint_sums [] = refl
uint_sums ([] ∷ vss) = uint_sums vss
uint_sums ((v ∷ vs) ∷ vss) = search (arith, is_uint-wrapped, list_all-append, uint_sums vss)

-- the sum of what parts leave is the sum of all, where a part leaves what its values sum up to
sum_of_parts : (g : List Value → Value) (sum : List Value → ℤ) → sum [] ≡ pos 0
    → ((xs ys : List Value) → sum (xs ++ ys) ≡ sum xs +ℤ sum ys)
    → ((v : Value) (vs : List Value) → Same (exact (g (v ∷ vs))) (sum (v ∷ vs)))
    → (vss : List (List Value)) → Same (exact_sum (parts_of g vss)) (sum (all_values vss))
sum_of_parts g sum none more part [] = ap (λ z. int_wrap w64 z) (sym none)
sum_of_parts g sum none more part ([] ∷ vss) = sum_of_parts g sum none more part vss
sum_of_parts g sum none more part ((v ∷ vs) ∷ vss) =
    Same-add _ _ _ _ (part v vs) (sum_of_parts g sum none more part vss)
    ∙ ap (λ z. int_wrap w64 z) (sym (more (v ∷ vs) (all_values vss)))

sums-merge : (vss : List (List Value))
    → wrapped_sum (parts_of wrapped_sum vss) ≡ wrapped_sum (all_values vss)
unfolding wrapped_sum
sums-merge [] = refl
sums-merge ([] ∷ vss) = sums-merge vss
sums-merge ((v ∷ vs) ∷ vss) =
    ap₂ wrapped (uint_sums ((v ∷ vs) ∷ vss)) refl
    ∙ wrapped-Same (list_all is_uint (all_values ((v ∷ vs) ∷ vss))) _ _
    (sum_of_parts wrapped_sum exact_sum refl exact_sum-append
    (λ v vs. exact-wrapped (list_all is_uint (v ∷ vs)) (exact_sum (v ∷ vs))) ((v ∷ vs) ∷ vss))

module _ (f : Value → Value → Value) (assoc : (a b c : Value) → f (f a b) c ≡ f a (f b c)) where
  fold-out : (a b : Value) (vs : List Value) → fold f (f a b) vs ≡ f a (fold f b vs)
  fold-out a b [] = refl
  fold-out a b (v ∷ vs) = grind (arith, fold-out a (f b v) vs)

  -- the choice of all is the choice of what the parts leave
  choice_of_parts : (a : Value) (vss : List (List Value))
      → fold f a (parts_of (chosen f) vss) ≡ fold f a (all_values vss)
  unfolding chosen
  choice_of_parts a [] = refl
  choice_of_parts a ([] ∷ vss) = choice_of_parts a vss
  choice_of_parts a ((v ∷ vs) ∷ vss) =
      search (arith, fold-out, fold-append, choice_of_parts (f a (fold f v vs)) vss)

  pub chosen_of_parts : (vss : List (List Value))
      → chosen f (parts_of (chosen f) vss) ≡ chosen f (all_values vss)
  unfolding chosen
  chosen_of_parts [] = refl
  chosen_of_parts ([] ∷ vss) = chosen_of_parts vss
  chosen_of_parts ((v ∷ vs) ∷ vss) =
      choice_of_parts (fold f v vs) vss ∙ sym (fold-append f v vs (all_values vss))

  module _ (comm : (a b : Value) → f a b ≡ f b a) where
    record SameChoice (xs ys : List Value) : Type 0 where
      after : (a : Value) → fold f a xs ≡ fold f a ys
      whole : chosen f xs ≡ chosen f ys

    pub chosen-permutation : (xs ys : List Value) → IsPermutation xs ys → chosen f xs ≡ chosen f ys
    unfolding chosen
    chosen-permutation xs ys h = (along_permutation SameChoice
        (λ xs. record { after = λ a. refl; whole = refl })
        (λ x xs ys h. record { after = λ a. h.after (f a x); whole = h.after x })
        (λ x y xs. record {
          after =
              λ a. ap (λ w. fold f w xs) (assoc a x y ∙ ap (f a) (comm x y) ∙ sym (assoc a y x));
          whole = ap (λ w. fold f w xs) (comm x y);
        })
        (λ xs ys zs h k. record { after = λ a. h.after a ∙ k.after a; whole = h.whole ∙ k.whole })
        xs ys h).whole

-- the first of two by an order
module _ (R : Value → Value → Ordering) (total : Rattle.std.specs.Cmp.IsTotalOrder R)
    (tie : (a b : Value) → R a b ≡ Equal → a ≡ b) where
  abbrev pub first : Value → Value → Value
  first a b = cond (is_lt (R b a)) b a

  lt-trans : (a b c : Value) → is_lt (R a b) ≡ true → is_lt (R b c) ≡ true → is_lt (R a c) ≡ true
  lt-trans a b c h k = ap is_lt (total.trans a b c (Less-is _ h) (Less-is _ k))
    where
      Less-is : (o : Ordering) → is_lt o ≡ true → o ≡ Less
      Less-is Less h = refl
      Less-is o h = cc

  -- what is not below b, which is not below a, is not below a
  le-trans : (a b c : Value) → is_lt (R b a) ≡ false → is_lt (R c b) ≡ false → is_lt (R c a) ≡ false
  le-trans a b c h k = go (is_lt (R c a)) refl (R a b) refl
    where
      go : (t : Bool) → is_lt (R c a) ≡ t → (o : Ordering) → R a b ≡ o → t ≡ false
      go false e o f = refl
      go true e Less f = let wrong : true ≡ false = sym (lt-trans c a b e (ap is_lt f)) ∙ k in
          absurd cc
      go true e Equal f = let wrong : true ≡ false = sym e ∙ ap (λ v. is_lt (R c v)) (tie a b f)
          ∙ k in absurd cc
      go true e Greater f = let wrong : true ≡ false = sym (ap is_lt
          (total.antisymm b a ∙ ap Rattle.std.specs.Ordering.ordering_reverse f)) ∙ h in absurd cc

  pub first-assoc : (a b c : Value) → first (first a b) c ≡ first a (first b c)
  first-assoc a b c = grind (arith, lt-trans c b a, le-trans a b c)

above_total : Rattle.std.specs.Cmp.IsTotalOrder (λ a b. value_cmp b a)
above_total = record {
  antisymm = λ a b. value_cmp_total.antisymm b a;
  trans = λ a b c h k. value_cmp_total.trans c b a k h;
  congr = λ a b c e. ap (value_cmp c) (sym (value_cmp-IsAntisymmetric b a e));
}

pub lesser-assoc : (a b c : Value) → lesser (lesser a b) c ≡ lesser a (lesser b c)
lesser-assoc = first-assoc value_cmp value_cmp_total value_cmp-IsAntisymmetric

pub lesser-comm : (a b : Value) → lesser a b ≡ lesser b a
lesser-comm = search (arith, value_cmp_total, value_cmp-IsAntisymmetric)

pub greater-assoc : (a b c : Value) → greater (greater a b) c ≡ greater a (greater b c)
greater-assoc =
    first-assoc (λ a b. value_cmp b a) above_total (λ a b e. sym (value_cmp-IsAntisymmetric b a e))

pub greater-comm : (a b : Value) → greater a b ≡ greater b a
greater-comm = search (arith, above_total, value_cmp-IsAntisymmetric)

-- ---- values some of which are NULL

abbrev is_valid : Value → Bool
is_valid v = not (is_null v)

all_valid : (vs : List Value) → list_all is_valid (valid_values vs) ≡ true
all_valid [] = refl
all_valid (v ∷ vs) = grind (arith, all_valid vs)

wrapped-valid : (b : Bool) (z : ℤ) → is_null (wrapped b z) ≡ false
unfolding wrapped
wrapped-valid true z = refl
wrapped-valid false z = refl

sum-valid : (v : Value) (vs : List Value) → list_all is_valid (v ∷ vs) ≡ true
    → is_null (wrapped_sum (v ∷ vs)) ≡ false
unfolding wrapped_sum
sum-valid v vs h = wrapped-valid _ _

module _ (f : Value → Value → Value) (one : (a b : Value) → (f a b ≡ a) ⊎ (f a b ≡ b)) where
  either-valid : (a b : Value) → is_null a ≡ false → is_null b ≡ false → is_null (f a b) ≡ false
  either-valid a b h k = elim (one a b) [
    | inl e ↦ ap is_null e ∙ h
    | inr e ↦ ap is_null e ∙ k
  ]

  chosen-valid : (v : Value) (vs : List Value) → list_all is_valid (v ∷ vs) ≡ true
      → is_null (chosen f (v ∷ vs)) ≡ false
  unfolding chosen
  chosen-valid v [] h = grind arith
  chosen-valid v (w ∷ vs) h = chosen-valid (f v w) vs (grind (arith, either-valid v w))

-- what parts leave, where a part without a value that isn't NULL leaves NULL
valid_part : (g : List Value → Value) → g [] ≡ Null
    → ((v : Value) (vs : List Value) → list_all is_valid (v ∷ vs) ≡ true
    → is_null (g (v ∷ vs)) ≡ false)
    → (vs : List Value) → list_all is_valid vs ≡ true
    → valid_values (g vs ∷ []) ≡ part_of g vs
valid_part g none some [] h = grind (arith, none)
valid_part g none some (v ∷ vs) h = grind (arith, some v vs)

valid_parts : (op : Combine) (g : List Value → Value)
    → ((vs : List Value) → combined op vs ≡ g (valid_values vs)) → g [] ≡ Null
    → ((v : Value) (vs : List Value) → list_all is_valid (v ∷ vs) ≡ true
    → is_null (g (v ∷ vs)) ≡ false)
    → (vss : List (List Value))
    → valid_values (partials op vss) ≡ parts_of g (map valid_values vss)
valid_parts op g is none some [] = refl
valid_parts op g is none some ([] ∷ vss) = valid_parts op g is none some vss
valid_parts op g is none some ((v ∷ vs) ∷ vss) =
    let valid = valid_values (v ∷ vs) in
    filter-append is_valid (combined op (v ∷ vs) ∷ []) (partials op vss)
    ∙ ap₂ ◌++◌ (ap (λ w. valid_values (w ∷ [])) (is (v ∷ vs))
    ∙ valid_part g none some valid (all_valid (v ∷ vs))) (valid_parts op g is none some vss)

valid_of_all : (vss : List (List Value))
    → valid_values (all_values vss) ≡ all_values (map valid_values vss)
valid_of_all [] = refl
valid_of_all (vs ∷ vss) =
    filter-append is_valid vs (all_values vss) ∙ ap (λ l. valid_values vs ++ l) (valid_of_all vss)

-- the same is made of what parts leave as of all, where NULL is passed over
merge-valid : (op : Combine) (g : List Value → Value)
    → ((vs : List Value) → combined op vs ≡ g (valid_values vs)) → g [] ≡ Null
    → ((v : Value) (vs : List Value) → list_all is_valid (v ∷ vs) ≡ true
    → is_null (g (v ∷ vs)) ≡ false)
    → ((vss : List (List Value)) → g (parts_of g vss) ≡ g (all_values vss))
    → (vss : List (List Value)) → combined op (partials op vss) ≡ combined op (all_values vss)
merge-valid op g is none some merge vss =
    is (partials op vss) ∙ ap g (valid_parts op g is none some vss)
    ∙ merge (map valid_values vss) ∙ ap g (sym (valid_of_all vss)) ∙ sym (is (all_values vss))

one_of_two : (c : Bool) (a b : Value) → (cond c b a ≡ a) ⊎ (cond c b a ≡ b)
one_of_two true a b = inr refl
one_of_two false a b = inl refl

-- merged partial aggregates are the aggregate of all
pub combined-merge : (op : Combine) (vss : List (List Value))
    → combined (merge_of op) (partials op vss) ≡ combined op (all_values vss)
unfolding combined wrapped wrapped_sum chosen
combined-merge counted vss =
    wrapped-Same true _ _
    (sum_of_parts (combined counted) (λ vs. pos (length vs)) refl
    (λ xs ys. let e = length-append xs ys in omega (arith, ints, e))
    (λ v vs. exact-wrapped true (pos (length (v ∷ vs)))) vss)
combined-merge counts_added vss =
    wrapped-Same true _ _
    (sum_of_parts (combined counts_added) exact_sum refl exact_sum-append
    (λ v vs. exact-wrapped true (exact_sum (v ∷ vs))) vss)
combined-merge added vss =
    merge-valid added wrapped_sum (λ vs. refl) refl sum-valid sums-merge vss
combined-merge least vss =
    merge-valid least (chosen lesser) (λ vs. refl) refl
    (chosen-valid lesser (λ a b. one_of_two (is_lt (value_cmp b a)) a b))
    (chosen_of_parts lesser lesser-assoc) vss
combined-merge greatest vss =
    merge-valid greatest (chosen greater) (λ vs. refl) refl
    (chosen-valid greater (λ a b. one_of_two (is_lt (value_cmp a b)) a b))
    (chosen_of_parts greater greater-assoc) vss

record SameSum (xs ys : List Value) : Type 0 where
  uint : list_all is_uint xs ≡ list_all is_uint ys
  total : exact_sum xs ≡ exact_sum ys
  whole : wrapped_sum xs ≡ wrapped_sum ys

sum-permutation : (xs ys : List Value) → IsPermutation xs ys → SameSum xs ys
unfolding wrapped_sum
sum-permutation = along_permutation SameSum
    (λ xs. record { uint = refl; total = refl; whole = refl })
    (λ x xs ys h.
    let uint = ap (λ b. is_uint x && b) h.uint in
    let total = ap (λ z. exact x +ℤ z) h.total in
    record { uint = uint; total = total; whole = ap₂ wrapped uint total })
    (λ x y xs.
    let uint = turned (is_uint x) (is_uint y) (list_all is_uint xs) in
    let total : exact_sum (x ∷ y ∷ xs) ≡ exact_sum (y ∷ x ∷ xs) = omega (arith, ints) in
    record { uint = uint; total = total; whole = ap₂ wrapped uint total })
    (λ xs ys zs h k. record {
      uint = h.uint ∙ k.uint;
      total = h.total ∙ k.total;
      whole = h.whole ∙ k.whole;
    })
  where
    turned : (a b c : Bool) → (a && (b && c)) ≡ (b && (a && c))
    turned a b c = grind arith

-- no order of the values matters
pub combined-permutation : (op : Combine) (xs ys : List Value) → IsPermutation xs ys
    → combined op xs ≡ combined op ys
unfolding combined
combined-permutation counted xs ys h = search (arith, length_permutation)
combined-permutation counts_added xs ys h = ap (wrapped true) (sum-permutation xs ys h).total
combined-permutation added xs ys h =
    (sum-permutation _ _ (IsPermutation-filter is_valid xs ys h)).whole
combined-permutation least xs ys h =
    chosen-permutation lesser lesser-assoc lesser-comm _ _ (IsPermutation-filter is_valid xs ys h)
combined-permutation greatest xs ys h = chosen-permutation greater greater-assoc greater-comm _ _
    (IsPermutation-filter is_valid xs ys h)
