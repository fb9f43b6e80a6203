-- What one chunk more makes of the rows of all inputs or outputs, and of a span.
use Rattle.proc_api.proofs.Imports.{AreLimited, IsPermutation, IsPermutation-append_comm, IsPermutation-append_left, IsPermutation-append_right, IsPermutation-same, IsPermutation-trans, List, Lists, Row, Span, Table, [], all_rows, ap, append_assoc, arith, cases_eq, chunk_rows, common_steps, drop, drop-take, inl, inr, last_read, length, length-append, length-drop, length-take, min, no_lists, refl, suc, sym, take, take_min, zero, ℕ, ◌++◌, ◌+◌, ◌-◌, ◌<◌, ◌^◌, ◌∙◌, ◌∷◌, ◌≡◌, ◌≢◌, ◌≤◌}
use Rattle.proc_api.proofs.Keeping.{rows-append}

-- ---- the rows of all inputs or outputs

turned : (a b c : List Row) → IsPermutation ((a ++ b) ++ c) ((a ++ c) ++ b)
turned a b c =
    rw (append_assoc a b c, append_assoc a c b)
    (IsPermutation-append_right a (b ++ c) (c ++ b) (IsPermutation-append_comm b c))

same-rows : (m : ℕ) (few more : Lists) → ((j : ℕ) → j < m → more j ≡ few j)
    → all_rows m more ≡ all_rows m few
unfolding all_rows
same-rows zero few more e = refl
same-rows (suc m) few more e =
    search (arith, same-rows m few more (λ j lt. e j (omega (arith, lt))))

-- more chunks of one list are their rows more of all lists
pub more-rows : (n i : ℕ) (few more : Lists) (xs : List Table) → more i ≡ few i ++ xs
    → ((j : ℕ) → j ≢ i → more j ≡ few j) → i < n
    → IsPermutation (all_rows n more) (all_rows n few ++ chunk_rows xs)
unfolding all_rows
more-rows zero i few more xs e ne lt = absurd (omega arith)
more-rows (suc n) i few more xs e ne lt = elim (cases_eq i n) [
  | inl z ↦ grind (arith, same-rows, IsPermutation-same, rows-append, append_assoc)
  | inr z ↦ rw (ne n (λ e. z (sym e))) (IsPermutation-trans _ _ _
      (IsPermutation-append_left (chunk_rows (few n)) _ _
      (more-rows n i few more xs e ne (omega (arith, z))))
      (turned (all_rows n few) (chunk_rows xs) (chunk_rows (few n))))
]

pub no-rows : (n : ℕ) → all_rows n no_lists ≡ []
unfolding all_rows
no-rows zero = refl
no-rows (suc n) = ap (λ l. l ++ []) (no-rows n)

-- ---- the rows of a span

-- the front of a longer list, and what is behind so many
take-more : (n : ℕ) (xs ys : List Row) → take n (xs ++ ys) ≡ take n xs ++ take (n - length xs) ys
take-more zero xs ys = let e : 0 ≡ 0 - length xs = omega arith in ap (λ k. take k ys) e
take-more (suc n) [] ys = let e : suc n ≡ suc n - 0 = omega arith in ap (λ k. take k ys) e
take-more (suc n) (x ∷ xs) ys = search (arith, take-more n xs ys)

drop-more : (n : ℕ) (xs ys : List Row) → drop n (xs ++ ys) ≡ drop n xs ++ drop (n - length xs) ys
drop-more zero xs ys = let e : 0 ≡ 0 - length xs = omega arith in ap (λ k. xs ++ drop k ys) e
drop-more (suc n) [] ys = let e : suc n ≡ suc n - 0 = omega arith in ap (λ k. drop k ys) e
drop-more (suc n) (x ∷ xs) ys = search (arith, drop-more n xs ys)

-- the rows of a span in a longer list
span-more : (skip count : ℕ) (xs ys : List Row)
    → take count (drop skip (xs ++ ys)) ≡ take count (drop skip xs)
    ++ drop (skip - length xs) (take (skip + count - length xs) ys)
span-more skip count xs ys =
    let past : ℕ = skip - length xs in
    let l = length-drop skip xs in
    let e : past + (count - length (drop skip xs)) ≡ skip + count - length xs = omega (arith, l) in
    ap (take count) (drop-more skip xs ys) ∙ take-more count (drop skip xs) (drop past ys)
    ∙ ap (λ l. take count (drop skip xs) ++ l)
    (sym (drop-take past (count - length (drop skip xs)) ys) ∙ ap (λ k. drop past (take k ys)) e)

-- A place in a chunk, where so many rows came before it, of which the last number may be told.
within : (place n : ℕ) (xs : List Row) → place < 2 ^ 65
    → min (place - min n last_read) (length xs) ≡ min (place - n) (length xs)
within place n xs lt = omega (arith, lt)

-- the rows of one chunk more
pub limited-more : (span : Span) (read : ℕ) (xs made : List Row) (t u : Table)
    → span.skip < 2 ^ 64 → span.count < 2 ^ 64
    → u.rows ≡ drop (min (span.skip - read) (length t.rows))
    (take (min (span.skip + span.count - read) (length t.rows)) t.rows)
    → AreLimited span xs made read
    → AreLimited span (xs ++ t.rows) (made ++ u.rows) (min (read + length t.rows) last_read)
limited-more span read xs made t u a b rows h =
    grind (arith, length-take, within, take_min, span-more, length-append, common_steps)
