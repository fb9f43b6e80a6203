-- A run of bytes that fail p, seen a vector at a time through the mask of those that pass it.
use Rattle.csv_rows.proofs.Imports.{◌≡◌, ℕ, ◌+◌, ◌*◌, ◌<◌, ◌≤◌, Bool, not, cond, eqb, List, [], ◌∷◌, map, length, drop, refl, ap, ◌∙◌, arith, true, false, sym, prefix_len-append, chunk, chunk-drop, eq-eqb, leading_from_mask_l, length-chunk, length-drop, mask_l, ne_eqb, prefix_len, prefix_len-le-length, trailing_mask_l}
use lib.Count.{count_trailing_zeros}

-- a run ends within the list
pub run_bound : (q : ℕ → Bool) (d : List ℕ) (i : ℕ) → i ≤ length d
    → i + prefix_len q (drop i d) ≤ length d
run_bound q d i h = omega (arith, prefix_len-le-length q (drop i d), length-drop i d)

none_fails : (b : Bool) (n l m : ℕ) → n ≤ l → cond (not b) (1 + n) 0 ≡ 1 + l → (n ≡ l → m ≡ 0)
    → cond b 1 0 + 2 * m ≡ 0
none_fails b n l m le e ih = grind arith

all_fail : (p : ℕ → Bool) (xs : List ℕ) → prefix_len (λ x. not (p x)) xs ≡ length xs
    → mask_l (map p xs) ≡ 0
all_fail p [] e = refl
all_fail p (x ∷ xs) e = grind (arith, none_fails, prefix_len-le-length, all_fail p xs)

module _ (p : ℕ → Bool) (d : List ℕ) (i n : ℕ) (room : i + n ≤ length d) where
  split : (b : Bool)
      → eqb (prefix_len (λ x. not (p x)) (chunk i n d)) (length (chunk i n d)) ≡ b
      → prefix_len (λ x. not (p x)) (drop i d)
      ≡ cond b (length (chunk i n d) + prefix_len (λ x. not (p x)) (drop (i + n) d))
      (prefix_len (λ x. not (p x)) (chunk i n d))
  split b e = grind (arith, prefix_len-append, chunk-drop i n d)

  pub run_through : mask_l (map p (chunk i n d)) ≡ 0 → prefix_len (λ x. not (p x)) (drop i d)
      ≡ n + prefix_len (λ x. not (p x)) (drop (i + n) d)
  run_through none = split true (eq-eqb _ _ (leading_from_mask_l p (chunk i n d) none))
      ∙ ap (λ k. k + prefix_len (λ x. not (p x)) (drop (i + n) d)) (length-chunk i n d room)

  pub run_stops : (found : ℕ) → n ≤ 64 → 0 < found → found ≡ mask_l (map p (chunk i n d))
      → prefix_len (λ x. not (p x)) (drop i d) ≡ count_trailing_zeros 64 found
  run_stops found short some is =
      split false (ne_eqb _ _ (λ e. omega (arith, some, is, all_fail p (chunk i n d) e)))
      ∙ sym (trailing_mask_l p 64 (chunk i n d) (omega (arith, length-chunk i n d room))
      (omega (arith, some, is))) ∙ ap (count_trailing_zeros 64) (sym is)
