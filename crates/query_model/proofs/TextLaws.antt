-- Texts written piece by piece.
use Rattle.query_model.proofs.Imports.{List, Row, Value, [], ap, append-nil, append_assoc, arith, doubled, flat_map, get_or, join_with_byte, length, map, map-append, quoted, refl, row_front, row_text, separator, suc, sym, take, take_all, take_more, value_text, zero, ℕ, ◌++◌, ◌+◌, ◌<◌, ◌∙◌, ◌∷◌, ◌≡◌, ◌≤◌, flat_map-append}

-- one piece more of a list of pieces
pub flat_map-take : {A B : Type 0} (f : A → List B) (xs : List A) (i : ℕ) (d : A) → i < length xs
    → flat_map f (take (i + 1) xs) ≡ flat_map f (take i xs) ++ f (get_or xs i d)
flat_map-take f xs i d h =
    ap (flat_map f) (take_more xs i d h) ∙ flat_map-append f (take i xs) (get_or xs i d ∷ [])
    ∙ ap (λ l. flat_map f (take i xs) ++ l) (append-nil (f (get_or xs i d)))

-- inside of quotes
pub quoted-more : (bytes text grown : List ℕ) (i d : ℕ)
    → text ≡ 34 ∷ flat_map doubled (take i bytes) → i < length bytes → grown
    ≡ text ++ doubled (get_or bytes i d) → grown ≡ 34 ∷ flat_map doubled (take (i + 1) bytes)
quoted-more bytes text grown i d e h is = is ∙ ap (λ l. l ++ doubled (get_or bytes i d)) e
    ∙ ap (λ l. 34 ∷ l) (sym (flat_map-take doubled bytes i d h))

pub quoted-whole : (bytes text grown : List ℕ) (i : ℕ) → text ≡ 34 ∷ flat_map doubled (take i bytes)
    → length bytes ≤ i → grown ≡ text ++ 34 ∷ [] → grown ≡ quoted bytes
quoted-whole bytes text grown i e h is = search (arith, take_all)

-- Values joined by commas.

join-snoc : (x : List ℕ) (xs : List (List ℕ)) (y : List ℕ)
    → join_with_byte 44 (x ∷ (xs ++ y ∷ [])) ≡ join_with_byte 44 (x ∷ xs) ++ (44 ∷ y)
join-snoc x [] y = refl
join-snoc x (z ∷ xs) y = search (arith, append_assoc, join-snoc z xs y)

pub joined-snoc : (xs : List (List ℕ)) (y : List ℕ)
    → join_with_byte 44 (xs ++ y ∷ []) ≡ join_with_byte 44 xs ++ separator (length xs) ++ y
joined-snoc [] y = refl
joined-snoc (x ∷ xs) y = search (arith, join-snoc, append_assoc)

-- one value more of a row
pub row_front-more : (row : Row) (i : ℕ) (d : Value) → i < length row
    → row_front row (i + 1) ≡ row_front row i ++ separator i ++ value_text (get_or row i d)
row_front-more row i d h =
    ap (λ l. join_with_byte 44 (map value_text l)) (take_more row i d h)
    ∙ ap (join_with_byte 44) (map-append value_text (take i row) (get_or row i d ∷ []))
    ∙ joined-snoc (map value_text (take i row)) (value_text (get_or row i d))
    ∙ ap (λ k. row_front row i ++ separator k ++ value_text (get_or row i d)) (long row i h)
  where
    long : (row : Row) (i : ℕ) → i < length row → length (map value_text (take i row)) ≡ i
    long [] i h = absurd (omega (arith, h))
    long (v ∷ row) zero h = refl
    long (v ∷ row) (suc i) h = ap suc (long row i (omega (arith, h)))

-- with all of its values
pub row_front-whole : (row : Row) (i : ℕ) → length row ≤ i
    → row_front row i ++ 10 ∷ [] ≡ row_text row
row_front-whole row i h = search (arith, take_all)
