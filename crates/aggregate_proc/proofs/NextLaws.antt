-- What the code makes of two numbers is what is folded of them.
use Rattle.aggregate_proc.proofs.Imports.{◌≡◌, ◌≢◌, ℕ, ◌+◌, ◌%◌, ◌^◌, ◌<◌, true, IfSome, List, None, Option, Some, [], ◌∷◌, refl, arith, common_steps, ℤ, pos, ◌+ℤ◌, SFits, to_z, of_z, w64, Fold, Value, can_fold, chosen, combined, folded, int_max, int_min, int_value, int_wrap, int_wrap_fits, ints, next_folded, text_value, to_z-of_z, uint_value, wrapped, wrapped_sum, wrapping_add_onto}
use Rattle.chunk_data.specs.declared.typed_value.ColumnType.TheVariants as column
use Rattle.chunk_data.specs.declared.typed_value.Value.TheVariants as value
use Rattle.aggregate_proc.specs.declared.fold.Fold.TheVariants as fold

alone : (z : ℤ) → SFits w64 z → int_wrap w64 (z +ℤ pos 0) ≡ z
alone z f = grind (arith, ints, int_wrap_fits)

pub added-int : (a b : ℤ) → SFits w64 a → SFits w64 b
    → value.Int (to_z w64 ((of_z w64 a + of_z w64 b) % 2 ^ 64))
    ≡ next_folded fold.Add (value.Int a) (value.Int b)
unfolding combined wrapped wrapped_sum
added-int a b f g = grind (arith, alone, ints, wrapping_add_onto, to_z-of_z)

pub counted-one : (a : ℕ) (v : Value)
    → value.UInt ((a + 1) % 2 ^ 64) ≡ next_folded fold.Count (value.UInt a) v
unfolding combined wrapped
counted-one a v = refl

-- the less or the greater of two numbers
pub least-int : (a b m : ℤ) → SFits w64 a → SFits w64 b → m ≡ int_min a b
    → value.Int (to_z w64 (of_z w64 m)) ≡ next_folded fold.Least (value.Int a) (value.Int b)
unfolding combined chosen
least-int a b m f g e = grind arith

pub greatest-int : (a b m : ℤ) → SFits w64 a → SFits w64 b → m ≡ int_max a b
    → value.Int (to_z w64 (of_z w64 m)) ≡ next_folded fold.Greatest (value.Int a) (value.Int b)
unfolding combined chosen
greatest-int a b m f g e = grind arith

-- the first value of a group
pub starts-int : (f : Fold) (z : ℤ) → can_fold f column.Int64 ≡ true → SFits w64 z
    → folded f (value.Int z ∷ []) ≡ value.Int z
unfolding combined chosen wrapped wrapped_sum
starts-int h z can f = grind (arith, alone)

pub starts-uint : (f : Fold) (n : ℕ) → f ≢ fold.Count → n < 2 ^ 64
    → folded f (value.UInt n ∷ []) ≡ value.UInt n
unfolding combined chosen wrapped wrapped_sum
starts-uint h n ne lt = grind arith

pub starts-text : (f : Fold) (text : List ℕ) → can_fold f column.Text ≡ true
    → folded f (value.Text text ∷ []) ≡ value.Text text
unfolding combined chosen wrapped_sum
starts-text h text can = grind arith

pub counted-first : (v : Value) → value.UInt 1 ≡ folded fold.Count (v ∷ [])
unfolding combined
counted-first v = refl

-- ---- values that may be NULL

-- NULL is passed over, but a key's column keeps its first value
pub null-next : (f : Fold) (s : Value) → f ≢ fold.Count → f ≢ fold.AddCounts
    → (folded f (s ∷ []) ≡ s) → next_folded f s value.Null ≡ s
unfolding combined chosen wrapped_sum
null-next f s one other e = grind (arith, common_steps)

-- the first value behind NULL
pub value-next : (f : Fold) (v : Value) → f ≢ fold.First → f ≢ fold.Count → f ≢ fold.AddCounts
    → folded f (v ∷ []) ≡ v → next_folded f value.Null v ≡ v
unfolding combined chosen wrapped_sum
value-next f v first one other e = grind (arith, common_steps)

pub starts-null : (f : Fold) → f ≢ fold.Count → f ≢ fold.AddCounts
    → folded f (value.Null ∷ []) ≡ value.Null
unfolding combined chosen wrapped_sum
starts-null f one other = grind arith

-- what folds numbers that may be NULL folds numbers, and counts nothing
pub folds-ints : (f : Fold) → can_fold f column.NullInt64 ≡ true
    → (can_fold f column.Int64 ≡ true) × (f ≢ fold.Count) × (f ≢ fold.AddCounts)
folds-ints f can = grind arith

pub folds-uints : (f : Fold) → can_fold f column.NullUInt64 ≡ true
    → (f ≢ fold.Count) × (f ≢ fold.AddCounts)
folds-uints f can = grind arith

pub folds-texts : (f : Fold) → can_fold f column.NullText ≡ true
    → (can_fold f column.Text ≡ true) × (f ≢ fold.Count) × (f ≢ fold.AddCounts)
folds-texts f can = grind arith

-- the first value of a group, where it may be NULL
pub starts-nullable-int : (f : Fold) (o : Option ℤ) → can_fold f column.NullInt64 ≡ true
    → IfSome o (SFits w64) → folded f (int_value o ∷ []) ≡ int_value o
starts-nullable-int f None can fits = let w = folds-ints f can in starts-null f w.1 w.2
starts-nullable-int f (Some z) can fits = starts-int f z (folds-ints f can).0 fits

pub starts-nullable-uint : (f : Fold) (o : Option ℕ) → can_fold f column.NullUInt64 ≡ true
    → IfSome o (λ n. n < 2 ^ 64) → folded f (uint_value o ∷ []) ≡ uint_value o
starts-nullable-uint f None can fits = let w = folds-uints f can in starts-null f w.0 w.1
starts-nullable-uint f (Some n) can fits = starts-uint f n (folds-uints f can).0 fits

pub starts-nullable-text : (f : Fold) (o : Option (List ℕ)) → can_fold f column.NullText ≡ true
    → folded f (text_value o ∷ []) ≡ text_value o
starts-nullable-text f None can = let w = folds-texts f can in starts-null f w.1 w.2
starts-nullable-text f (Some text) can = starts-text f text (folds-texts f can).0
