-- An index gives of each row's matches the first, and of each match the next.
use Rattle.join_proc.proofs.Imports.{All, All-from_recursion, AreLinked, HasKey, IsIndexOf, JoinIndex, KeyPair, Row, agree, cases_eq, codes_in, drop-cons, drop_all, get_or-map, get_or-set_other, get_or-set_same, key_codes, key_places, length-map, length-set, places_from, position_or_len, prefix_len-le-length, recursion_from_All, right_places, row_after, row_at, row_code, same_code, with_key, same_code_is, List, [], ap, arith, drop, eq-eqb, fold, get_or, length, map, nat_eq, not, set, subst, suc, sym, true, ℕ, ◌+◌, ◌<◌, ◌∙◌, ◌≡◌}
use Rattle.join_proc.proofs.AgreeLaws.{HasCode, code-mask, right-code}
use Rattle.join_proc.proofs.PlaceLaws.{mask-places, places-all, places-within, same-mask}

-- the first row from a row on with which it agrees
abbrev pub next_row : List KeyPair → Row → List Row → ℕ → ℕ
next_row pairs l rows r = r + position_or_len (agree pairs l) (drop r rows)

-- ---- links

pub none-linked : (places firsts nexts : List ℕ) → length nexts ≡ length places
    → All (λ n. n ≡ length places) firsts → AreLinked places (length places) firsts nexts
none-linked places firsts nexts long same = grind (arith, drop_all)

pub link-row : (places : List ℕ) (row : ℕ) (firsts nexts : List ℕ) → row < length places
    → get_or places row 0 < length firsts → AreLinked places (suc row) firsts nexts
    → AreLinked places row (set firsts (get_or places row 0) row)
    (set nexts row (get_or firsts (get_or places row 0) 0))
link-row places row firsts nexts lt within h =
    grind (arith, drop-cons, length-set, cases_eq, get_or-set_same, get_or-set_other, eq-eqb)

-- ---- places of the right side's keys

pub key-places-long : (columns : List ℕ) (rows : List Row)
    → length (key_places columns rows) ≡ length rows
key-places-long columns rows = grind (arith, places-all, same_code_is, length-map)

pub key-places-within : (columns : List ℕ) (rows : List Row) (n : ℕ)
    → n ≡ suc (length (key_codes columns rows)) → All (λ p. p < n) (key_places columns rows)
key-places-within columns rows n e =
    let es = map (row_code columns) rows in
    subst (All (λ p. p < n)) (sym (places-all same_code same_code_is es []))
    (All-from_recursion (λ p. p < n) _ (places-within same_code (key_codes columns rows) es n e))

-- ---- matches

module _ (pairs : List KeyPair) (x : JoinIndex) (is : IsIndexOf pairs x) where
  abbrev rows : List Row
  rows = x.rows.rows

  abbrev codes : List (List ℕ)
  codes = map (row_code (right_places pairs)) rows

  abbrev keys : List (List ℕ)
  keys = fold (with_key true same_code) [] codes

  abbrev places : List ℕ
  places = places_from true same_code [] codes

  abbrev place : List ℕ → ℕ
  place e = position_or_len (same_code e) keys

  after-code : (l : Row) (e : List ℕ) → HasCode x.rows.types pairs l e → (r : ℕ)
      → row_after (place e) places r ≡ next_row pairs l rows r
  after-code l e h r =
      ap (λ n. r + n) (sym (same-mask (agree pairs l) (nat_eq (place e)) rows places r
      (code-mask x.rows.types pairs l e h rows
      (recursion_from_All (HasKey x.rows.types (right_places pairs)) rows is.cells)
      ∙ mask-places same_code same_code_is e codes)))

  pub rows-linked : length x.nexts.items ≡ length rows
  rows-linked = is.linked.long ∙ key-places-long (right_places pairs) rows

  -- The first match of a row,
  pub first-row : (l : Row) (e : List ℕ) → HasCode x.rows.types pairs l e → (p : ℕ)
      → p ≡ position_or_len (same_code e) (codes_in x.seen)
      → get_or x.firsts.items p 0 ≡ next_row pairs l rows 0
  first-row l e h p is-place =
      let le = prefix_len-le-length (λ c. not (same_code e c)) (codes_in x.seen) in
      let m = is.many in
      is.linked.firsts_are p (omega (arith, le, m, is-place))
      ∙ ap (λ n. row_after n places 0)
      (is-place ∙ ap (position_or_len (same_code e)) is.codes) ∙ after-code l e h 0

  -- and of each match the next.
  pub next-match : (l : Row) (r : ℕ) → r < length rows → agree pairs l (row_at rows r) ≡ true
      → get_or x.nexts.items r 0 ≡ next_row pairs l rows (suc r)
  next-match l r lt agrees =
      let e = row_code (right_places pairs) (row_at rows r) in
      let n = length-map rows (row_code (right_places pairs)) in
      let within : r < length codes = omega (arith, lt, n) in
      let long = is.linked.long in
      let linked = rows-linked in
      is.linked.nexts_are r (omega arith) (omega (arith, long, linked, lt))
      ∙ ap (λ p. row_after p places (suc r))
      (ap (λ l. get_or l r 0) (places-all same_code same_code_is codes [])
      ∙ get_or-map place codes r [] 0 within
      ∙ ap place (get_or-map (row_code (right_places pairs)) rows r [] [] lt))
      ∙ after-code l e (right-code x.rows.types pairs l (row_at rows r) (is.cells r [] lt) agrees)
      (suc r)
