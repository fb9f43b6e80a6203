-- Arithmetic modulo 2 ^ 64: a wrapped number counts in a sum as the number itself.
use Rattle.query_model.proofs.Imports.{Bool, Int, SFits-int_wrap, UInt, ap, arith, cast_signed, cast_unsigned, exact, false, int_rem_euclid, int_rem_euclid_is, int_wrap-add_left, int_wrap-add_right, int_wrap_fits, ints, is_uint, of_z-to_z, pos, refl, sym, true, unsigned_abs, w64, wrapped, ℕ, ℤ, ◌%◌, ◌+ℤ◌, ◌+◌, ◌-ℤ◌, ◌-◌, ◌<◌, ◌^◌, ◌∙◌, ◌≡◌}
use Rattle.std.specs.Int.{int_wrap}

-- equal modulo 2 ^ 64
abbrev pub Same : ℤ → ℤ → Type 0
Same a b = int_wrap w64 a ≡ int_wrap w64 b

pub Same-add : (a b c d : ℤ) → Same a b → Same c d → Same (a +ℤ c) (b +ℤ d)
Same-add a b c d h k =
    sym (int_wrap-add_left w64 a c) ∙ ap (λ z. int_wrap w64 (z +ℤ c)) h ∙ int_wrap-add_left w64 b c
    ∙ sym (int_wrap-add_right w64 b c) ∙ ap (λ z. int_wrap w64 (b +ℤ z)) k
    ∙ int_wrap-add_right w64 b d

abbrev pub residue : ℤ → ℕ
residue z = unsigned_abs (int_rem_euclid z (pos (2 ^ 64)))

pub residue-wrap : (z : ℤ) → residue z ≡ cast_unsigned w64 (int_wrap w64 z)
unfolding int_wrap
residue-wrap z = search (arith, of_z-to_z)

pub wrapped-Same : (b : Bool) (y z : ℤ) → Same y z → wrapped b y ≡ wrapped b z
unfolding wrapped
wrapped-Same true y z h = ap UInt (residue-wrap y ∙ ap (cast_unsigned w64) h ∙ sym (residue-wrap z))
wrapped-Same false y z h = ap Int h

pub exact-wrapped : (b : Bool) (z : ℤ) → Same (exact (wrapped b z)) z
unfolding wrapped int_wrap
exact-wrapped true z = search (arith)
exact-wrapped false z = int_wrap_fits w64 (int_wrap w64 z) (SFits-int_wrap w64 z)

pub is_uint-wrapped : (b : Bool) (z : ℤ) → is_uint (wrapped b z) ≡ b
unfolding wrapped
is_uint-wrapped true z = refl
is_uint-wrapped false z = refl

-- the difference of two UInt64, as an Int64
pub wrapped-difference : (a b : ℕ) → a < 2 ^ 64 → b < 2 ^ 64
    → wrapped false (pos a -ℤ pos b) ≡ Int (cast_signed w64 ((a + (2 ^ 64 - b)) % 2 ^ 64))
unfolding wrapped int_wrap
wrapped-difference a b h k = search (arith, int_rem_euclid_is, ints)
