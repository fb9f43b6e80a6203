-- Comparisons on numbers and texts are those on values.
use Rattle.expr_eval.proofs.Imports.{ap, arith, Bool, CompareOp, Int, None, Some, UInt, Value, compared, compares, cond, false, flipped, int_cmp, int_cmp_total, is_null, is_text, is_true, nat_list_cmp_total, number_type, ordering_reverse, passes, plain_value, pos, refl, true, ℕ, ℤ, ◌||◌, ◌≡◌}

compared-reverse : (a b : Value) → compared b a ≡ ordering_reverse (compared a b)
compared-reverse a b = grind (arith, nat_list_cmp_total.antisymm, int_cmp_total.antisymm)

-- a comparison turned round
pub flipped_passes : (op : CompareOp) (a b : Value)
    → passes (flipped op) (compared b a) ≡ passes op (compared a b)
flipped_passes op a b = search (arith, compared-reverse)

pub flipped_compares : (op : CompareOp) (a b : Value)
    → compares (flipped op) b a ≡ compares op a b
flipped_compares op a b = go (is_null a) (is_null b)
  where
    go : (x y : Bool)
        → is_true (cond (y || x) None (Some (passes (flipped op) (compared b a))))
        ≡ is_true (cond (x || y) None (Some (passes op (compared a b))))
    go true true = refl
    go true false = refl
    go false true = refl
    go false false = flipped_passes op a b

pub plain_is_valid : (z : ℤ) → is_null (plain_value z) ≡ false
plain_is_valid z = grind arith

pub int_compared : (x z : ℤ) → compared (Int x) (plain_value z) ≡ int_cmp x z
int_compared x z = grind arith

pub uint_compared : (x : ℕ) (z : ℤ) → compared (UInt x) (plain_value z) ≡ int_cmp (pos x) z
uint_compared x z = grind arith

plains_compared : (y z : ℤ) → compared (plain_value y) (plain_value z) ≡ int_cmp y z
plains_compared y z = grind arith

pub plains_compare : (op : CompareOp) (y z : ℤ)
    → compares op (plain_value y) (plain_value z) ≡ passes op (int_cmp y z)
plains_compare op y z =
    rw (plain_is_valid y, plain_is_valid z) (ap (passes op) (plains_compared y z))

pub plain_is_number : (z : ℤ) → is_text (number_type z) ≡ false
plain_is_number z = grind arith
