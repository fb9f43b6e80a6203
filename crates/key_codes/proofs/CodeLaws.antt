-- Codes in a set, by which its keys are shown, and their places.
use Rattle.key_codes.proofs.Imports.{◌≡◌, ℕ, suc, zero, ◌+◌, ◌<◌, ◌≤◌, ◌||◌, ◌&&◌, Bool, true, false, cond, not, List, [], ◌∷◌, ◌++◌, length, map, take, drop, get_or, Option, Some, None, position, nat_eq, refl, ap, ap₂, arith, IfOk, IfSome, Result, OnOk, subst, sym, ◌∙◌, Ok, Err, common_steps, AllByRecursion, FindsCode, FindsNull, IsCell, IsNullWithin, PlainType, Value, beside_null, drop_all, get_or-map, get_or-zip2, insert_key, is_valid_at, le-leb, length-append, length-map, length-zip2, list_any, lt-leb, option_map, position_or_len, prefix_len-le-length, same_code, take_all, valid_codes, value_code, with_key, with_null, with_nulls}

-- what is made of the elements, of which one more is new where c is false
pub map-insert : {A B : Type 0} (f : A → B) (b c : Bool) (xs : List A) (x : A) → b ≡ c
    → cond b (map f xs) (map f xs ++ f x ∷ []) ≡ map f (cond c xs (xs ++ x ∷ []))
map-insert f b c xs x e = grind (arith, common_steps)

module _ {K : Type 0} (show : K → List ℕ) where
  place-of-code : (code : List ℕ) (ks : List K)
      → position_or_len (λ k. same_code code (show k)) ks
      ≡ position_or_len (same_code code) (map show ks)
  place-of-code code [] = refl
  place-of-code code (k ∷ ks) = grind (arith, place-of-code code ks)

  any-code : (code : List ℕ) (ks : List K)
      → list_any (λ k. same_code code (show k)) ks ≡ list_any (same_code code) (map show ks)
  any-code code [] = refl
  any-code code (k ∷ ks) = ap (λ b. same_code code (show k) || b) (any-code code ks)

  first-place : (t : K → Bool) (ks : List K) (p : ℕ) → Some p ≡ position t ks
      → p ≡ position_or_len t ks
  first-place t ks p e = grind (arith, common_steps)

  -- a code that is there
  pub finds-code : (adds : Bool) (code : List ℕ) (ks : List K) (p : ℕ)
      → Some p ≡ position (λ k. same_code code (show k)) ks
      → true ≡ list_any (λ k. same_code code (show k)) ks
      → FindsCode adds code (map show ks) (map show ks) p
  finds-code adds code ks p e found = grind (arith, first-place, place-of-code, any-code)

  -- a code that isn't there, and isn't put there
  pub misses-code : (code : List ℕ) (ks : List K) (n : ℕ) → n ≡ length ks
      → None ≡ position (λ k. same_code code (show k)) ks
      → FindsCode false code (map show ks) (map show ks) n
  misses-code code ks n l e = grind (arith, place-of-code, prefix_len-le-length, common_steps)

  -- a code that is put there
  pub puts-code : (code : List ℕ) (ks more : List K) (v : K) (p : ℕ) → show v ≡ code
      → p ≡ position_or_len (λ k. same_code (show v) (show k)) ks
      → more ≡ insert_key (λ x y. same_code (show x) (show y)) ks v
      → FindsCode true code (map show ks) (map show more) p
  puts-code code ks more v p is e f = record {
    is = e ∙ place-of-code (show v) ks ∙ ap (λ c. position_or_len (same_code c) (map show ks)) is;
    codes = ap (map show) f ∙ sym (map-insert show _ _ ks v (sym (any-code (show v) ks)))
        ∙ ap (insert_key same_code (map show ks)) is;
  }

-- numbers are told apart as their codes are
and-true : (b : Bool) → b ≡ (b && true)
and-true b = grind (arith, common_steps)

pub puts-number : (n : ℕ) (ks more : List ℕ) (p : ℕ) → p ≡ position_or_len (nat_eq n) ks
    → more ≡ insert_key nat_eq ks n
    → FindsCode true (n ∷ []) (map (λ k. k ∷ []) ks) (map (λ k. k ∷ []) more) p
puts-number n ks more p e f =
    puts-code (λ k. k ∷ []) (n ∷ []) ks more n p refl
    (e ∙ (λ i. position_or_len (λ k. and-true (nat_eq n k) i) ks))
    (f ∙ (λ i. insert_key (λ x y. and-true (nat_eq x y) i) ks n))

pub finds-number : (n : ℕ) (ks : List ℕ) (p : ℕ) → Some p ≡ position (nat_eq n) ks
    → FindsCode false (n ∷ []) (map (λ k. k ∷ []) ks) (map (λ k. k ∷ []) ks) p
finds-number n ks p e = record {
  is = first-place (λ k. k ∷ []) (λ k. same_code (n ∷ []) (k ∷ [])) ks p
      (e ∙ (λ i. position (λ k. and-true (nat_eq n k) i) ks))
      ∙ place-of-code (λ k. k ∷ []) (n ∷ []) ks;
  codes = refl;
}

pub misses-number : (n : ℕ) (ks : List ℕ) (p : ℕ) → p ≡ length ks → None ≡ position (nat_eq n) ks
    → FindsCode false (n ∷ []) (map (λ k. k ∷ []) ks) (map (λ k. k ∷ []) ks) p
misses-number n ks p l e =
    misses-code (λ k. k ∷ []) (n ∷ []) ks p l
    (e ∙ (λ i. position (λ k. and-true (nat_eq n k) i) ks))

-- ---- NULL among the codes

-- codes none of which is NULL's
module _ {K : Type 0} (head : K → ℕ) (tail : K → List ℕ) where
  abbrev shown : List K → List (List ℕ)
  shown ks = map (λ k. head k ∷ tail k) ks

  null-place : (place : ℕ) (ks : List K) → place ≤ length (shown ks)
      → position_or_len (same_code []) (with_null (Some place) (shown ks)) ≡ place
  null-place zero ks le = refl
  null-place (suc place) [] le = absurd (omega (arith, le))
  null-place (suc place) (k ∷ ks) le =
      let e = null-place place ks (omega (arith, le)) in omega (arith, e)

  null-there : (place : ℕ) (ks : List K)
      → list_any (same_code []) (with_null (Some place) (shown ks)) ≡ true
  null-there zero ks = refl
  null-there (suc place) [] = refl
  null-there (suc place) (k ∷ ks) = null-there place ks

  null-misses : (ks : List K) → position_or_len (same_code []) (shown ks) ≡ length (shown ks)
  null-misses [] = refl
  null-misses (k ∷ ks) = let e = null-misses ks in omega (arith, e)

  null-absent : (ks : List K) → list_any (same_code []) (shown ks) ≡ false
  null-absent [] = refl
  null-absent (k ∷ ks) = null-absent ks

  -- The place of NULL is found.
  pub finds-null : (adds : Bool) (count : ℕ) (old new : Option ℕ) (ks : List K) (p : ℕ)
      → FindsNull adds count old new p → count ≡ length (shown ks) → IsNullWithin old (shown ks)
      → FindsCode adds [] (with_null old (shown ks)) (with_null new (shown ks)) p
      × IsNullWithin new (shown ks)
  finds-null false count (Some k) new ks p h long within =
      let w = h.was k refl in rw w.0 (
        record { is = w.1 ∙ sym (null-place k ks within); codes = refl },
        within,
      )
  finds-null true count (Some k) new ks p h long within =
      let w = h.was k refl in rw w.0 (
        record {
          is = w.1 ∙ sym (null-place k ks within);
          codes = sym (ap (λ b. cond b (with_null (Some k) (shown ks))
              (with_null (Some k) (shown ks) ++ [] ∷ [])) (null-there k ks));
        },
        within,
      )
  finds-null false count None new ks p h long within =
      let c = h.comes refl in rw c.0 (
        record { is = c.1 ∙ long ∙ sym (null-misses ks); codes = refl },
        tt,
      )
  finds-null true count None new ks p h long within =
      let c = h.comes refl in rw c.0 (
        record {
          is = c.1 ∙ long ∙ sym (null-misses ks);
          codes = ap (λ n. take n (shown ks) ++ [] ∷ drop n (shown ks)) long
              ∙ ap₂ (λ a b. a ++ [] ∷ b) (take_all (length (shown ks)) (shown ks) (omega arith))
              (drop_all (length (shown ks)) (shown ks) (omega arith))
              ∙ sym (ap (λ b. cond b (shown ks) (shown ks ++ [] ∷ [])) (null-absent ks));
        },
        omega (arith, long),
      )

-- a code that isn't NULL's stands behind NULL or before it
code-place : (null : Option ℕ) (a : ℕ) (b : List ℕ) (codes : List (List ℕ))
    → IsNullWithin null codes
    → position_or_len (same_code (a ∷ b)) (with_null null codes)
    ≡ beside_null null (position_or_len (same_code (a ∷ b)) codes)
code-place None a b codes h = refl
code-place (Some zero) a b [] h = refl
code-place (Some zero) a b (c ∷ codes) h =
    let p = position_or_len (same_code (a ∷ b)) (c ∷ codes) in
    let t = le-leb 0 p (omega arith) in
    grind (arith, common_steps, t)
code-place (Some (suc k)) a b [] h = absurd (omega (arith, h))
code-place (Some (suc k)) a b (c ∷ codes) h =
    by (same_code (a ∷ b) c) (code-place (Some k) a b codes (omega (arith, h)))
  where
    by : (t : Bool) → position_or_len (same_code (a ∷ b)) (with_null (Some k) codes)
        ≡ beside_null (Some k) (position_or_len (same_code (a ∷ b)) codes)
        → cond (not t) (1 + position_or_len (same_code (a ∷ b)) (with_null (Some k) codes)) 0
        ≡ beside_null (Some (suc k))
        (cond (not t) (1 + position_or_len (same_code (a ∷ b)) codes) 0)
    by true e = let t = lt-leb (suc k) 0 (omega arith) in grind (arith, common_steps, t)
    by false e = grind (arith, common_steps)

code-any : (k a : ℕ) (b : List ℕ) (codes : List (List ℕ))
    → list_any (same_code (a ∷ b)) (with_null (Some k) codes)
    ≡ list_any (same_code (a ∷ b)) codes
code-any zero a b codes = refl
code-any (suc k) a b [] = refl
code-any (suc k) a b (c ∷ codes) = ap (λ t. same_code (a ∷ b) c || t) (code-any k a b codes)

code-behind : (k : ℕ) (codes : List (List ℕ)) (code : List ℕ) → k ≤ length codes
    → with_null (Some k) (codes ++ code ∷ []) ≡ with_null (Some k) codes ++ code ∷ []
code-behind zero codes code le = refl
code-behind (suc k) [] code le = absurd (omega (arith, le))
code-behind (suc k) (c ∷ codes) code le =
    ap (λ l. c ∷ l) (code-behind k codes code (omega (arith, le)))

with-code-beside : (adds : Bool) (null : Option ℕ) (a : ℕ) (b : List ℕ) (codes : List (List ℕ))
    → IsNullWithin null codes
    → with_null null (with_key adds same_code codes (a ∷ b))
    ≡ with_key adds same_code (with_null null codes) (a ∷ b)
with-code-beside adds None a b codes h = refl
with-code-beside false (Some k) a b codes h = refl
with-code-beside true (Some k) a b codes h =
    by (list_any (same_code (a ∷ b)) codes) (code-any k a b codes)
  where
    by : (t : Bool) → list_any (same_code (a ∷ b)) (with_null (Some k) codes) ≡ t
        → with_null (Some k) (cond t codes (codes ++ (a ∷ b) ∷ []))
        ≡ cond (list_any (same_code (a ∷ b)) (with_null (Some k) codes)) (with_null (Some k) codes)
        (with_null (Some k) codes ++ (a ∷ b) ∷ [])
    by true e = rw e refl
    by false e = rw e (code-behind k codes (a ∷ b) h)

within-more : (adds : Bool) (null : Option ℕ) (codes : List (List ℕ)) (code : List ℕ)
    → IsNullWithin null codes → IsNullWithin null (with_key adds same_code codes code)
within-more adds null codes code h = grind (arith, length-append, common_steps)

-- The place of the code of a value is found, where NULL may be among them.
pub finds-beside : (adds : Bool) (null : Option ℕ) (a : ℕ) (b : List ℕ)
    (old new : List (List ℕ)) (p : ℕ) → IsNullWithin null old → FindsCode adds (a ∷ b) old new p
    → FindsCode adds (a ∷ b) (with_null null old) (with_null null new) (beside_null null p)
    × IsNullWithin null new
finds-beside adds null a b old new p h f = (
  record {
    is = ap (beside_null null) f.is ∙ sym (code-place null a b old h);
    codes = ap (with_null null) f.codes ∙ with-code-beside adds null a b old h;
  },
  subst (IsNullWithin null) (sym f.codes) (within-more adds null old (a ∷ b) h),
)

-- the code of a value that may be NULL
pub valid-code : {A B : Type 0} (validity : Option B) (items : B → List Bool) (show : A → List ℕ)
    (xs : List A) (i : ℕ) (d : A) → IfSome validity (λ v. length (items v) ≡ length xs)
    → i < length xs
    → get_or (valid_codes (option_map items validity) (map show xs)) i []
    ≡ cond (is_valid_at (option_map items validity) i) (show (get_or xs i d)) []
valid-code None items show xs i d h lt = get_or-map show xs i d [] lt
valid-code (Some v) items show xs i d h lt =
    get_or-zip2 (λ valid code. cond valid code []) (items v) (map show xs) i true [] []
    (omega (arith, h, lt)) (omega (arith, lt, length-map xs show))
    ∙ ap (λ c. cond (get_or (items v) i true) c []) (get_or-map show xs i d [] lt)

pub length-valid : {A B : Type 0} (validity : Option B) (items : B → List Bool)
    (show : A → List ℕ) (xs : List A) → IfSome validity (λ v. length (items v) ≡ length xs)
    → length (valid_codes (option_map items validity) (map show xs)) ≡ length xs
length-valid None items show xs h = length-map xs show
length-valid (Some v) items show xs h =
    length-zip2 (λ valid code. cond valid code []) (items v) (map show xs)
    (h ∙ sym (length-map xs show)) ∙ h

-- the codes of values are those of what is kept, where they aren't NULL
pub codes-valid : (validity : Option (List Bool)) (vs : List Value)
    → valid_codes validity (map value_code vs) ≡ map value_code (with_nulls validity vs)
codes-valid None vs = refl
codes-valid (Some []) vs = refl
codes-valid (Some (b ∷ v)) [] = refl
codes-valid (Some (true ∷ v)) (x ∷ vs) = ap (λ l. value_code x ∷ l) (codes-valid (Some v) vs)
codes-valid (Some (false ∷ v)) (x ∷ vs) = ap (λ l. [] ∷ l) (codes-valid (Some v) vs)

pub cells-valid : (t : PlainType) (validity : Option (List Bool)) (vs : List Value)
    → AllByRecursion (IsCell t) vs → AllByRecursion (IsCell t) (with_nulls validity vs)
cells-valid t None vs h = h
cells-valid t (Some []) vs h = tt
cells-valid t (Some (b ∷ v)) [] h = tt
cells-valid t (Some (true ∷ v)) (x ∷ vs) h = (h.0, cells-valid t (Some v) vs h.1)
cells-valid t (Some (false ∷ v)) (x ∷ vs) h = (tt, cells-valid t (Some v) vs h.1)

pub on-ok : {A E : Type 0} (r : Result A E) {P : Type 0} → P → OnOk r P
on-ok r p = grind arith

pub if-ok-more : {A E : Type 0} (r : Result A E) {P Q : A → Type 0} → ((v : A) → P v → Q v)
    → IfOk r P → IfOk r Q
if-ok-more (Ok v) f h = f v h
if-ok-more (Err e) f h = tt

pub on-ok-more : {A E : Type 0} (r : Result A E) {P Q : Type 0} → (P → Q) → OnOk r P → OnOk r Q
on-ok-more (Ok v) f h = f h
on-ok-more (Err e) f h = tt
