-- What operators, comparisons and tests give where values may be NULL, and truths that may be.
use Rattle.expr_eval.proofs.Imports.{ArithOp, Bool, Column, ColumnType, CompareOp, Int, List, None, Null, Option, PlainType, Some, Text, UInt, Value, [], and_valid, ap, ap₂, arith, arith_type, arith_value, both_or_either, column_type, column_validity, compared, compares, comparison, false, gives_uint, has_truth, if◌then◌else◌, is_null, is_nullable, is_plain_uint, is_some, length, length-values, map, no_null, not, nullable_if, nullable_if_of, nullable_of_nullable_if, opposite_unless, option_map, or_null, passes, plain_of_nullable_if, plain_type, refl, result_plain, result_type, stored_values, subst, suc, swap_if, sym, true, truth_and, truth_not, truth_or, value_at, values, with_nulls, zip, zip2, ℕ, ◌&&◌, ◌||◌, ◌∙◌, ◌∷◌, ◌≡◌}
use Rattle.query_model.specs.Names.{Truth}
use Rattle.chunk_data.specs.declared.typed_value.PlainType.TheVariants as plain

-- ---- values and masks that aren't valid everywhere

-- What is valid stays, and what isn't becomes one value: NULL of values, and false of a mask. A
-- function that gives this value where an operand is NULL may be asked before or after.
module _ {Z : Type 0} (c : Bool → Z → Z) (none : Z) (stays : (z : Z) → c true z ≡ z)
    (becomes : (z : Z) → c false z ≡ none) (masked : Option (List Bool) → List Z → List Z)
    (whole : (zs : List Z) → masked None zs ≡ zs)
    (part : (v : List Bool) (zs : List Z) → masked (Some v) zs ≡ zip2 c v zs) where
  here : (f : Value → Z) → f Null ≡ none → (b : Bool) (x : Value) → c b (f x) ≡ f (or_null b x)
  here f n true x = stays (f x)
  here f n false x = becomes (f x) ∙ sym n

  one : (f : Value → Z) → f Null ≡ none → (v : List Bool) (xs : List Value)
      → zip2 c v (map f xs) ≡ map f (zip2 or_null v xs)
  one f n [] xs = refl
  one f n (b ∷ v) [] = refl
  one f n (b ∷ v) (x ∷ xs) = ap₂ ◌∷◌ (here f n b x) (one f n v xs)

  left : (f : Value → Value → Z) → ((y : Value) → f Null y ≡ none) → (v : List Bool)
      (xs ys : List Value) → zip2 c v (map (λ p. f p.0 p.1) (zip xs ys))
      ≡ map (λ p. f p.0 p.1) (zip (zip2 or_null v xs) ys)
  left f n [] xs ys = refl
  left f n (b ∷ v) [] ys = refl
  left f n (b ∷ v) (x ∷ xs) [] = refl
  left f n (b ∷ v) (x ∷ xs) (y ∷ ys) = ap₂ ◌∷◌ (here (λ z. f z y) (n y) b x) (left f n v xs ys)

  right : (f : Value → Value → Z) → ((x : Value) → f x Null ≡ none) → (v : List Bool)
      (xs ys : List Value) → zip2 c v (map (λ p. f p.0 p.1) (zip xs ys))
      ≡ map (λ p. f p.0 p.1) (zip xs (zip2 or_null v ys))
  right f n [] [] ys = refl
  right f n [] (x ∷ xs) ys = refl
  right f n (b ∷ v) [] ys = refl
  right f n (b ∷ v) (x ∷ xs) [] = refl
  right f n (b ∷ v) (x ∷ xs) (y ∷ ys) = ap₂ ◌∷◌ (here (f x) (n x) b y) (right f n v xs ys)

  pub masked-one : (f : Value → Z) → f Null ≡ none → (v : Option (List Bool)) (xs : List Value)
      → masked v (map f xs) ≡ map f (with_nulls v xs)
  masked-one f n None xs = whole (map f xs)
  masked-one f n (Some v) xs = part v (map f xs) ∙ one f n v xs

  at_left : (f : Value → Value → Z) → ((y : Value) → f Null y ≡ none) → (v : Option (List Bool))
      (xs ys : List Value) → masked v (map (λ p. f p.0 p.1) (zip xs ys))
      ≡ map (λ p. f p.0 p.1) (zip (with_nulls v xs) ys)
  at_left f n None xs ys = whole (map (λ p. f p.0 p.1) (zip xs ys))
  at_left f n (Some v) xs ys = part v (map (λ p. f p.0 p.1) (zip xs ys)) ∙ left f n v xs ys

  at_right : (f : Value → Value → Z) → ((x : Value) → f x Null ≡ none) → (v : Option (List Bool))
      (xs ys : List Value) → masked v (map (λ p. f p.0 p.1) (zip xs ys))
      ≡ map (λ p. f p.0 p.1) (zip xs (with_nulls v ys))
  at_right f n None xs ys = whole (map (λ p. f p.0 p.1) (zip xs ys))
  at_right f n (Some v) xs ys = part v (map (λ p. f p.0 p.1) (zip xs ys)) ∙ right f n v xs ys

  -- the first operand's validity, and then the second's
  pub masked-pairs : (f : Value → Value → Z) → ((y : Value) → f Null y ≡ none)
      → ((x : Value) → f x Null ≡ none) → (v w : Option (List Bool)) (xs ys : List Value)
      → masked w (masked v (map (λ p. f p.0 p.1) (zip xs ys)))
      ≡ map (λ p. f p.0 p.1) (zip (with_nulls v xs) (with_nulls w ys))
  masked-pairs f l r v w xs ys =
      ap (masked w) (at_left f l v xs ys) ∙ at_right f r w (with_nulls v xs) ys

-- what isn't valid in a column or in what was made is NULL
pub with_nulls-twice : (v : Option (List Bool)) (w : List Bool) (xs : List Value)
    → with_nulls (Some (and_valid v w)) xs ≡ with_nulls (Some w) (with_nulls v xs)
with_nulls-twice None w xs = refl
with_nulls-twice (Some v) w xs = go v w xs
  where
    go : (v w : List Bool) (xs : List Value)
        → zip2 or_null (zip2 ◌&&◌ v w) xs ≡ zip2 or_null w (zip2 or_null v xs)
    go [] [] xs = refl
    go [] (d ∷ w) xs = refl
    go (b ∷ v) [] xs = refl
    go (b ∷ v) (d ∷ w) [] = refl
    go (true ∷ v) (d ∷ w) (x ∷ xs) = ap (λ l. or_null d x ∷ l) (go v w xs)
    go (false ∷ v) (true ∷ w) (x ∷ xs) = ap (λ l. Null ∷ l) (go v w xs)
    go (false ∷ v) (false ∷ w) (x ∷ xs) = ap (λ l. Null ∷ l) (go v w xs)

and_turned : (b d : Bool) → (b && d) ≡ (d && b)
and_turned true true = refl
and_turned true false = refl
and_turned false true = refl
and_turned false false = refl

-- a mask and a validity have in common where the mask is true of valid values
pub common_is_valid : (v mask : List Bool) → map (λ p. p.0 && p.1) (zip mask v) ≡ zip2 ◌&&◌ v mask
common_is_valid [] [] = refl
common_is_valid [] (m ∷ mask) = refl
common_is_valid (b ∷ v) [] = refl
common_is_valid (b ∷ v) (m ∷ mask) = ap₂ ◌∷◌ (and_turned m b) (common_is_valid v mask)

-- ---- arithmetic

pub arith_left : (op : ArithOp) (y : Value) → arith_value op Null y ≡ Null
arith_left op y = refl

pub arith_right : (op : ArithOp) (x : Value) → arith_value op x Null ≡ Null
arith_right op (Int z) = refl
arith_right op (UInt n) = refl
arith_right op (Text bytes) = refl
arith_right op Null = refl

-- beside a plain number, which may be written in front
pub beside-nulls : (swapped : Bool) (op : ArithOp) (k : Value) (v : Option (List Bool))
    (xs : List Value) → with_nulls v (map (λ x. swap_if swapped (arith_value op) x k) xs)
    ≡ map (λ x. swap_if swapped (arith_value op) x k) (with_nulls v xs)
beside-nulls swapped op k v xs =
    masked-one or_null Null (λ z. refl) (λ z. refl) (λ v zs. with_nulls v zs) (λ zs. refl)
    (λ v zs. refl) (λ x. swap_if swapped (arith_value op) x k) (go swapped) v xs
  where
    go : (swapped : Bool) → swap_if swapped (arith_value op) Null k ≡ Null
    go false = refl
    go true = arith_right op k

pub pairs-nulls : (op : ArithOp) (v w : Option (List Bool)) (xs ys : List Value)
    → with_nulls w (with_nulls v (map (λ p. arith_value op p.0 p.1) (zip xs ys)))
    ≡ map (λ p. arith_value op p.0 p.1) (zip (with_nulls v xs) (with_nulls w ys))
pairs-nulls op v w xs ys =
    masked-pairs or_null Null (λ z. refl) (λ z. refl) (λ v zs. with_nulls v zs) (λ zs. refl)
    (λ v zs. refl) (arith_value op) (arith_left op) (arith_right op) v w xs ys

-- ---- the types of results

some_of_map : {X Y : Type 0} (f : X → Y) (o : Option X) → is_some (option_map f o) ≡ is_some o
some_of_map f None = refl
some_of_map f (Some x) = refl

-- a column may have NULL where it has a validity
nullable_by_validity : (c : Column) → is_nullable (column_type c) ≡ is_some (column_validity c)
nullable_by_validity c = nullable_of_nullable_if _ _ ∙ sym (some_of_map _ _)

or_false : (b d : Bool) → d ≡ false → b ≡ (b || d)
or_false true d h = refl
or_false false d h = sym h

or_true : (b d : Bool) → d ≡ true → true ≡ (b || d)
or_true true d h = refl
or_true false d h = sym h

-- of what was made, where the column has no validity, and where it has one
pub type_without : (made c : Column) → None ≡ column_validity c → column_type made
    ≡ nullable_if (is_nullable (column_type made) || is_nullable (column_type c))
    (plain_type (column_type made))
type_without made c h =
    sym (nullable_if_of (column_type made))
    ∙ ap (λ b. nullable_if b (plain_type (column_type made)))
    (or_false (is_nullable (column_type made)) (is_nullable (column_type c))
    (nullable_by_validity c ∙ sym (ap is_some h)))

pub type_with : (made c : Column) (v : List Bool) → Some v ≡ column_validity c
    → nullable_if true (plain_type (column_type made))
    ≡ nullable_if (is_nullable (column_type made) || is_nullable (column_type c))
    (plain_type (column_type made))
type_with made c v h =
    ap (λ b. nullable_if b (plain_type (column_type made)))
    (or_true (is_nullable (column_type made)) (is_nullable (column_type c))
    (nullable_by_validity c ∙ sym (ap is_some h)))

-- a plain result m of a column of type s, with NULL where the column has it, is l
type_of_nulled : (s m l : ColumnType) (p : PlainType) → m ≡ nullable_if false p
    → l ≡ nullable_if (is_nullable m || is_nullable s) (plain_type m)
    → l ≡ nullable_if (is_nullable s) p
type_of_nulled s m l p e h =
    h ∙ ap₂ nullable_if
    (ap (λ b. b || is_nullable s) (ap is_nullable e ∙ nullable_of_nullable_if false p))
    (ap plain_type e ∙ plain_of_nullable_if false p)

twice : (b : Bool) → b ≡ (b || b)
twice true = refl
twice false = refl

-- beside a plain number that the column's type has
pub type_of_beside : (op : ArithOp) (s m l : ColumnType)
    → m ≡ nullable_if false (result_plain op (plain_type s))
    → l ≡ nullable_if (is_nullable m || is_nullable s) (plain_type m) → l ≡ result_type op s
type_of_beside op s m l e h =
    type_of_nulled s m l (result_plain op (plain_type s)) e h
    ∙ ap (λ b. nullable_if b (result_plain op (plain_type s))) (twice (is_nullable s))

-- of two columns of one type, NULL apart
pub type_of_pairs : (op : ArithOp) (s t m l r : ColumnType) → plain_type s ≡ plain_type t
    → m ≡ nullable_if false (result_plain op (plain_type s))
    → l ≡ nullable_if (is_nullable m || is_nullable s) (plain_type m)
    → r ≡ nullable_if (is_nullable l || is_nullable t) (plain_type l) → r ≡ arith_type op s t
type_of_pairs op s t m l r same e h k =
    let p = result_plain op (plain_type s) in
    let kind : l ≡ nullable_if (is_nullable s) p = type_of_nulled s m l p e h in
    k ∙ ap₂ nullable_if
    (ap (λ b. b || is_nullable t) (ap is_nullable kind ∙ nullable_of_nullable_if (is_nullable s) p))
    (ap plain_type kind ∙ plain_of_nullable_if (is_nullable s) p)
    ∙ ap (λ q. nullable_if (is_nullable s || is_nullable t)
    (if gives_uint op (is_plain_uint (plain_type s)) (is_plain_uint q) then plain.UInt64
    else plain.Int64)) same

-- ---- comparisons

pub compares_left : (op : CompareOp) (y : Value) → compares op Null y ≡ false
compares_left op y = refl

pub compares_right : (op : CompareOp) (x : Value) → compares op x Null ≡ false
compares_right op (Int z) = refl
compares_right op (UInt n) = refl
compares_right op (Text bytes) = refl
compares_right op Null = refl

-- none of the values is NULL
abbrev pub AreValid : List Value → Type 0
AreValid [] = Unit {0}
AreValid (v ∷ vs) = (is_null v ≡ false) × AreValid vs

valid_by_places : (vs : List Value) → ((i : ℕ) → is_null (value_at vs i) ≡ false) → AreValid vs
valid_by_places [] h = tt
valid_by_places (v ∷ vs) h = (h 0, valid_by_places vs (λ i. h (suc i)))

-- a column keeps no NULL
stored_are_valid : (c : Column) → AreValid (stored_values c)
stored_are_valid c = valid_by_places (stored_values c) (λ i. no_null _ i)

compares_valid : (op : CompareOp) (x y : Value) → is_null x ≡ false → is_null y ≡ false
    → passes op (compared x y) ≡ compares op x y
compares_valid op x y h k = rw (h, k) refl

-- a column beside a value, from what the column keeps
pub compares-one : (op : CompareOp) (k : Value) → is_null k ≡ false → (c : Column)
    → and_valid (column_validity c) (map (λ x. passes op (compared x k)) (stored_values c))
    ≡ map (λ x. compares op x k) (values c)
compares-one op k n c =
    ap (and_valid (column_validity c)) (each (stored_values c) (stored_are_valid c))
    ∙ masked-one ◌&&◌ false (λ z. refl) (λ z. refl) (λ v zs. and_valid v zs) (λ zs. refl)
    (λ v zs. refl) (λ x. compares op x k) (compares_left op k) (column_validity c) (stored_values c)
  where
    each : (xs : List Value) → AreValid xs
        → map (λ x. passes op (compared x k)) xs ≡ map (λ x. compares op x k) xs
    each [] h = refl
    each (x ∷ xs) h = ap₂ ◌∷◌ (compares_valid op x k h.0 n) (each xs h.1)

-- two columns
pub compares-pairs : (op : CompareOp) (l r : Column)
    → and_valid (column_validity r) (and_valid (column_validity l)
    (map (λ p. passes op (compared p.0 p.1)) (zip (stored_values l) (stored_values r))))
    ≡ map (λ p. compares op p.0 p.1) (zip (values l) (values r))
compares-pairs op l r =
    ap (λ m. and_valid (column_validity r) (and_valid (column_validity l) m))
    (each (stored_values l) (stored_values r) (stored_are_valid l) (stored_are_valid r))
    ∙ masked-pairs ◌&&◌ false (λ z. refl) (λ z. refl) (λ v zs. and_valid v zs) (λ zs. refl)
    (λ v zs. refl) (compares op) (compares_left op) (compares_right op) (column_validity l)
    (column_validity r) (stored_values l) (stored_values r)
  where
    each : (xs ys : List Value) → AreValid xs → AreValid ys
        → map (λ p. passes op (compared p.0 p.1)) (zip xs ys)
        ≡ map (λ p. compares op p.0 p.1) (zip xs ys)
    each [] ys h k = refl
    each (x ∷ xs) [] h k = refl
    each (x ∷ xs) (y ∷ ys) h k = ap₂ ◌∷◌ (compares_valid op x y h.0 k.0) (each xs ys h.1 k.1)

-- ---- IS NULL

-- what is valid isn't NULL, and NULL is
pub truth_of_valid : (wanted : Bool) → has_truth wanted (Some false) ≡ not wanted
truth_of_valid true = refl
truth_of_valid false = refl

pub truth_of_null : (wanted : Bool) → has_truth wanted (Some true) ≡ wanted
truth_of_null true = refl
truth_of_null false = refl

-- in a column without a validity none is NULL
pub no_nulls : (wanted : Bool) (c : Column) → None ≡ column_validity c
    → map (λ v. not wanted) (values c)
    ≡ map (λ v. has_truth wanted (Some (is_null v))) (values c)
no_nulls wanted c h =
    let kept : stored_values c ≡ values c = ap (λ v. with_nulls v (stored_values c)) h in
    subst (λ vs. map (λ v. not wanted) vs ≡ map (λ v. has_truth wanted (Some (is_null v))) vs)
    kept (go (stored_values c) (stored_are_valid c))
  where
    go : (xs : List Value) → AreValid xs
        → map (λ v. not wanted) xs ≡ map (λ v. has_truth wanted (Some (is_null v))) xs
    go [] h = refl
    go (x ∷ xs) h =
        ap₂ ◌∷◌ (sym (ap (λ b. has_truth wanted (Some b)) h.0 ∙ truth_of_valid wanted)) (go xs h.1)

valid_or_null : (b : Bool) (x : Value) → is_null x ≡ false → not b ≡ is_null (or_null b x)
valid_or_null true x h = sym h
valid_or_null false x h = refl

-- in one with a validity those are that it says not to be valid
pub nulls_of : (wanted : Bool) (c : Column) (v : List Bool) → Some v ≡ column_validity c
    → length v ≡ length (values c) → map (λ b. has_truth wanted (Some (not b))) v
    ≡ map (λ x. has_truth wanted (Some (is_null x))) (values c)
nulls_of wanted c v h long =
    go v (stored_values c) (long ∙ length-values c) (stored_are_valid c)
    ∙ ap (λ o. map (λ x. has_truth wanted (Some (is_null x))) (with_nulls o (stored_values c))) h
  where
    go : (v : List Bool) (xs : List Value) → length v ≡ length xs → AreValid xs
        → map (λ b. has_truth wanted (Some (not b))) v
        ≡ map (λ x. has_truth wanted (Some (is_null x))) (zip2 or_null v xs)
    go [] [] e h = refl
    go (b ∷ v) (x ∷ xs) e h =
        ap₂ ◌∷◌ (ap (λ t. has_truth wanted (Some t)) (valid_or_null b x h.0))
        (go v xs (omega arith) h.1)
    go _ _ e h = absurd (omega arith)

-- a value that isn't NULL is valid
pub valid_is_not_null : (v : List Bool) → map (λ b. has_truth false (Some (not b))) v ≡ v
valid_is_not_null [] = refl
valid_is_not_null (true ∷ v) = ap (λ l. true ∷ l) (valid_is_not_null v)
valid_is_not_null (false ∷ v) = ap (λ l. false ∷ l) (valid_is_not_null v)

-- ---- truths

pub truth_of_and : (wanted : Bool) (s t : Truth) → has_truth wanted (truth_and s t)
    ≡ both_or_either wanted (has_truth wanted s) (has_truth wanted t)
truth_of_and wanted s t = grind arith

pub truth_of_or : (wanted : Bool) (s t : Truth) → has_truth wanted (truth_or s t)
    ≡ both_or_either (not wanted) (has_truth wanted s) (has_truth wanted t)
truth_of_or wanted s t = grind arith

pub truth_of_not : (wanted : Bool) (t : Truth)
    → has_truth wanted (truth_not t) ≡ has_truth (not wanted) t
truth_of_not true t = refl
truth_of_not false None = refl
truth_of_not false (Some true) = refl
truth_of_not false (Some false) = refl

pub truth_of_comparison : (wanted : Bool) (op : CompareOp) (a b : Value)
    → has_truth wanted (comparison op a b) ≡ compares (opposite_unless wanted op) a b
truth_of_comparison true op a b = refl
truth_of_comparison false op a b = grind arith
