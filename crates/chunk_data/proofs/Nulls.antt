-- columns that may have NULL: their types, their values and the order of these
use Rattle.chunk_data.proofs.Imports.{All, Bool, Column, ColumnType, Equal, Greater, IfSome, Less, List, None, Null, Option, Ordering, PlainColumn, PlainType, Some, Value, [], ap, arith, cond, drop, false, get_or, get_or-map, get_or-zip2, is_null, is_nullable, is_some, kept, key_cmp, length, length-append, length-drop, length-map, length-take, length-zip2, map, nullable_if, with_nulls, option_map, or_null, ordering_reverse, plain_type, plain_values, refl, suc, sym, take, true, value_at, value_cmp, values, zero, zip2, ℕ, ◌++◌, ◌<◌, ◌∙◌, ◌∷◌, ◌≡◌}
use Rattle.chunk_data.specs.declared.typed_value.ColumnType.TheVariants as type
use Rattle.chunk_data.specs.declared.typed_value.PlainType.TheVariants as plain
use Rattle.chunk_data.specs.declared.typed_value.Value.TheVariants as value
use Rattle.chunk_data.specs.declared.plain_column.PlainColumn.TheVariants as column

-- ---- types
pub plain_of_nullable_if : (b : Bool) (p : PlainType) → plain_type (nullable_if b p) ≡ p
plain_of_nullable_if true plain.Int64 = refl
plain_of_nullable_if true plain.UInt64 = refl
plain_of_nullable_if true plain.Text = refl
plain_of_nullable_if false plain.Int64 = refl
plain_of_nullable_if false plain.UInt64 = refl
plain_of_nullable_if false plain.Text = refl

pub nullable_of_nullable_if : (b : Bool) (p : PlainType) → is_nullable (nullable_if b p) ≡ b
nullable_of_nullable_if true plain.Int64 = refl
nullable_of_nullable_if true plain.UInt64 = refl
nullable_of_nullable_if true plain.Text = refl
nullable_of_nullable_if false plain.Int64 = refl
nullable_of_nullable_if false plain.UInt64 = refl
nullable_of_nullable_if false plain.Text = refl

pub nullable_if_of : (t : ColumnType) → nullable_if (is_nullable t) (plain_type t) ≡ t
nullable_if_of type.Int64 = refl
nullable_if_of type.UInt64 = refl
nullable_if_of type.Text = refl
nullable_if_of type.NullInt64 = refl
nullable_if_of type.NullUInt64 = refl
nullable_if_of type.NullText = refl

pub same_plain_types : (b c : Bool) (p q : PlainType) → nullable_if b p ≡ nullable_if c q → p ≡ q
same_plain_types b c p q e =
    sym (plain_of_nullable_if b p) ∙ ap plain_type e ∙ plain_of_nullable_if c q

pub both_nullable : (b c : Bool) (p q : PlainType) → nullable_if b p ≡ nullable_if c q → b ≡ c
both_nullable b c p q e =
    sym (nullable_of_nullable_if b p) ∙ ap is_nullable e ∙ nullable_of_nullable_if c q

-- ---- lists beside lists of one length
module _ {X Y Z : Type 0} (f : X → Y → Z) where
  pub zip2-append : (xs more : List X) (ys others : List Y) → length xs ≡ length ys
      → zip2 f (xs ++ more) (ys ++ others) ≡ zip2 f xs ys ++ zip2 f more others
  zip2-append [] more [] others e = refl
  zip2-append (x ∷ xs) more (y ∷ ys) others e =
      ap (λ l. f x y ∷ l) (zip2-append xs more ys others (omega arith))
  zip2-append _ more _ others e = absurd (omega arith)

  pub zip2-take : (n : ℕ) (xs : List X) (ys : List Y)
      → zip2 f (take n xs) (take n ys) ≡ take n (zip2 f xs ys)
  zip2-take zero xs ys = refl
  zip2-take (suc n) [] ys = refl
  zip2-take (suc n) (x ∷ xs) [] = refl
  zip2-take (suc n) (x ∷ xs) (y ∷ ys) = ap (λ l. f x y ∷ l) (zip2-take n xs ys)

  pub zip2-drop : (n : ℕ) (xs : List X) (ys : List Y) → length xs ≡ length ys
      → zip2 f (drop n xs) (drop n ys) ≡ drop n (zip2 f xs ys)
  zip2-drop zero xs ys e = refl
  zip2-drop (suc n) [] ys e = refl
  zip2-drop (suc n) (x ∷ xs) [] e = absurd (omega arith)
  zip2-drop (suc n) (x ∷ xs) (y ∷ ys) e = zip2-drop n xs ys (omega arith)

  pub zip2-kept : (mask : List Bool) (xs : List X) (ys : List Y) → length xs ≡ length ys
      → zip2 f (kept mask xs) (kept mask ys) ≡ kept mask (zip2 f xs ys)
  zip2-kept [] xs ys e = refl
  zip2-kept (m ∷ mask) [] [] e = refl
  zip2-kept (true ∷ mask) (x ∷ xs) (y ∷ ys) e =
      ap (λ l. f x y ∷ l) (zip2-kept mask xs ys (omega arith))
  zip2-kept (false ∷ mask) (x ∷ xs) (y ∷ ys) e = zip2-kept mask xs ys (omega arith)
  zip2-kept _ _ _ e = absurd (omega arith)

pub length-kept_both : {X Y : Type 0} (mask : List Bool) (xs : List X) (ys : List Y)
    → length xs ≡ length ys → length (kept mask xs) ≡ length (kept mask ys)
length-kept_both [] xs ys e = refl
length-kept_both (m ∷ mask) [] [] e = refl
length-kept_both (true ∷ mask) (x ∷ xs) (y ∷ ys) e =
    ap suc (length-kept_both mask xs ys (omega arith))
length-kept_both (false ∷ mask) (x ∷ xs) (y ∷ ys) e = length-kept_both mask xs ys (omega arith)
length-kept_both _ _ _ e = absurd (omega arith)

-- ---- values some of which are NULL
length-with_nulls : {A : Type 0} (items : A → List Bool) (validity : Option A) (vs : List Value)
    → IfSome validity (λ v. length (items v) ≡ length vs)
    → length (with_nulls (option_map items validity) vs) ≡ length vs
length-with_nulls items None vs e = refl
length-with_nulls items (Some v) vs e = length-zip2 or_null (items v) vs e ∙ e

-- a column has as many values as it keeps
pub length-values : (c : Column) → length (values c) ≡ length (plain_values c.plain)
length-values c = length-with_nulls (λ v. v.items) c.validity (plain_values c.plain) c.one_each

pub with_nulls-at : (validity : List Bool) (vs : List Value) (i : ℕ) (b : Bool)
    → length validity ≡ length vs → i < length vs
    → value_at (zip2 or_null validity vs) i ≡ or_null (get_or validity i b) (value_at vs i)
with_nulls-at validity vs i b e lt = get_or-zip2 or_null validity vs i b _ _ (omega arith) lt

pub with_nulls-places : (validity : List Bool) (vs : List Value) (places : List ℕ) (b : Bool)
    → length validity ≡ length vs → All (λ p. p < length vs) places
    → zip2 or_null (map (λ p. get_or validity p b) places) (map (value_at vs) places)
    ≡ map (value_at (zip2 or_null validity vs)) places
with_nulls-places validity vs [] b e h = refl
with_nulls-places validity vs (p ∷ places) b e h =
    let a : value_at (zip2 or_null validity vs) p ≡ or_null (get_or validity p b) (value_at vs p) =
    with_nulls-at validity vs p b e (h 0 0 (omega arith)) in
    let r : zip2 or_null (map (λ p. get_or validity p b) places) (map (value_at vs) places)
    ≡ map (value_at (zip2 or_null validity vs)) places =
    with_nulls-places validity vs places b e (λ k n lt. h (suc k) n (omega arith)) in
    cc

-- ---- a plain value is never NULL, and stands before NULL in both directions
no_null_mapped : {X : Type 0} (f : X → Value) → ((x : X) → is_null (f x) ≡ false) → (xs : List X)
    (i : ℕ) → is_null (value_at (map f xs) i) ≡ false
no_null_mapped f h [] i = refl
no_null_mapped f h (x ∷ xs) zero = h x
no_null_mapped f h (x ∷ xs) (suc i) = no_null_mapped f h xs i

pub no_null : (column : PlainColumn) (i : ℕ) → is_null (value_at (plain_values column) i) ≡ false
no_null (column.Int64 numbers) i = no_null_mapped value.Int (λ x. refl) numbers.items i
no_null (column.UInt64 numbers) i = no_null_mapped value.UInt (λ x. refl) numbers.items i
no_null (column.Text texts) i = no_null_mapped value.Text (λ x. refl) texts i

pub descending_values : (v w : Value) → is_null v ≡ false → is_null w ≡ false
    → key_cmp true v w ≡ ordering_reverse (value_cmp v w)
descending_values v w e f = rw (e, f) refl

pub before_null : (descending : Bool) (v : Value) → is_null v ≡ false
    → key_cmp descending v Null ≡ Less
before_null true (value.Int z) e = refl
before_null true (value.UInt n) e = refl
before_null true (value.Text bytes) e = refl
before_null false (value.Int z) e = refl
before_null false (value.UInt n) e = refl
before_null false (value.Text bytes) e = refl
before_null descending value.Null e = absurd cc

pub behind_value : (descending : Bool) (v : Value) → is_null v ≡ false
    → key_cmp descending Null v ≡ Greater
behind_value true (value.Int z) e = refl
behind_value true (value.UInt n) e = refl
behind_value true (value.Text bytes) e = refl
behind_value false (value.Int z) e = refl
behind_value false (value.UInt n) e = refl
behind_value false (value.Text bytes) e = refl
behind_value descending value.Null e = absurd cc

pub nulls_tie : (descending : Bool) → key_cmp descending Null Null ≡ Equal
nulls_tie true = refl
nulls_tie false = refl

pub ruleset nulls = (
  plain_of_nullable_if,
  nullable_of_nullable_if,
  nullable_if_of,
  same_plain_types,
  both_nullable,
  zip2-append,
  zip2-take,
  zip2-drop,
  zip2-kept,
  length-kept_both,
  length-values,
  length-zip2,
  with_nulls-at,
  with_nulls-places,
  no_null,
  descending_values,
  before_null,
  behind_value,
  nulls_tie,
  length-take,
  length-drop,
)
