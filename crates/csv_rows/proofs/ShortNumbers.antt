-- Numbers of few digits.
use Rattle.csv_rows.proofs.Imports.{◌≡◌, ℕ, suc, ◌+◌, ◌-◌, ◌*◌, ◌^◌, ◌<◌, ◌≤◌, ◌&&◌, Bool, true, false, cond, List, length, drop, get_or, refl, sym, ap, ◌∙◌, arith, Option, None, pow-suc, pow-le-pow_right, is_ascii_digit, nat_lt, with_digits, with_digits-step}

-- the number, if what was read of a field is good, with the digits behind it
abbrev pub read_on : Bool → ℕ → List ℕ → Option ℕ
read_on good number rest = cond good (with_digits number rest) None

-- one byte more of a short field
pub read_more : (field : List ℕ) (i number more : ℕ) (good digit : Bool) → i < length field
    → length field ≤ 18 → (good ≡ true → number < 10 ^ i)
    → digit ≡ is_ascii_digit (get_or field i 0) → (number < 10 ^ 17
    → is_ascii_digit (get_or field i 0) ≡ true → more ≡ number * 10 + (get_or field i 0 - 48))
    → (read_on (good && digit) more (drop (i + 1) field) ≡ read_on good number (drop i field))
    × ((good && digit) ≡ true → more < 10 ^ (i + 1))
read_more field i number more false digit lt short few is step = (refl, λ k. absurd cc)
read_more field i number more true false lt short few is step =
    (sym (with_digits-step field i number lt ∙ rw (sym is) refl), λ k. absurd cc)
read_more field i number more true true lt short few is step =
    let b = get_or field i 0 in
    let at_most : 10 ^ i ≤ 10 ^ 17 =
    pow-le-pow_right (omega arith) {i = i} {j = 17} (omega (arith, lt, short)) in
    let e = step (omega (arith, few refl, at_most)) (sym is) in
    let fits : nat_lt (number * 10 + (b - 48)) (2 ^ 64) ≡ true =
    grind (arith, few refl, at_most, is) in
    let one : i + 1 ≡ suc i = omega arith in
    let wider = ap (λ k. 10 ^ k) one ∙ pow-suc 10 i in (
      rw e (sym (with_digits-step field i number lt ∙ rw (sym is, fits) refl)),
      λ k. grind (arith, few refl, e, is, wider),
    )
