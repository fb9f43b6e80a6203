-- Pieces that separators part, read one by one.
use Rattle.command_line.proofs.Imports.{Bool, List, None, Option, Some, [], after_first, all_read, ap, append_assoc, arith, before_first, both_read, cases_lt, fails_before_first, inl, inr, length, not, pieces_of, position_or_len, prefix_len-le-length, refl, slice_split, slice_split_first, slice_split_none, sym, take_all, ℕ, ◌++◌, ◌<◌, ◌==◌, ◌∙◌, ◌∷◌, ◌≡◌}

module _ {X : Type 0} where
  -- what was read, and what is read of the pieces that are left
  abbrev pub followed_by : List X → Option (List X) → Option (List X)
  followed_by xs None = None
  followed_by xs (Some more) = Some (xs ++ more)

  followed_by_read : (xs : List X) (x : X) (o : Option (List X))
      → followed_by xs (both_read (Some x) o) ≡ followed_by (xs ++ x ∷ []) o
  followed_by_read xs x None = refl
  followed_by_read xs x (Some more) = ap Some (sym (append_assoc xs (x ∷ []) more))

  -- nothing was read before the first piece
  pub followed_by_all : (o : Option (List X)) → o ≡ followed_by [] o
  followed_by_all None = refl
  followed_by_all (Some more) = refl

  both_none : (o : Option X) (more : Option (List X)) → o ≡ None → both_read o more ≡ None
  both_none o more e = ap (λ x. both_read x more) e

  module _ (read : List ℕ → Option X) (separator : ℕ) where
    abbrev is_end : ℕ → Bool
    is_end b = b == separator

    split_alone : (text : List ℕ) → position_or_len is_end text ≡ length text
        → slice_split is_end text ≡ before_first is_end text ∷ []
    split_alone text e =
        slice_split_none is_end text (λ k d lt. fails_before_first is_end text k d (omega arith))
        ∙ ap (λ t. t ∷ []) (sym (take_all (position_or_len is_end text) text (omega arith)))

    first_piece : (text : List ℕ) → position_or_len is_end text < length text
        → pieces_of read separator text ≡ both_read (read (before_first is_end text))
        (pieces_of read separator (after_first is_end text))
    unfolding all_read
    first_piece text lt = ap (all_read read) (slice_split_first is_end text 0 lt)

    last_piece : (text : List ℕ) → position_or_len is_end text ≡ length text
        → pieces_of read separator text ≡ both_read (read (before_first is_end text)) (Some [])
    unfolding all_read
    last_piece text e = ap (all_read read) (split_alone text e)

    -- where a piece means nothing, neither does the whole
    pub piece_refused : (text rest piece : List ℕ) (xs : List X) (o : Option X)
        → pieces_of read separator text ≡ followed_by xs (pieces_of read separator rest)
        → o ≡ read piece → piece ≡ before_first is_end rest → o ≡ None
        → pieces_of read separator text ≡ None
    piece_refused text rest piece xs o kept is before none =
        let start : read (before_first is_end rest) ≡ None = ap read (sym before) ∙ sym is ∙ none in
        kept ∙ ap (followed_by xs)
        (elim (cases_lt (position_or_len is_end rest) (length rest)) [
          | inl lt ↦ first_piece rest lt ∙ both_none _ _ start
          | inr le ↦ last_piece rest
              (omega (arith, prefix_len-le-length (λ x. not (is_end x)) rest)) ∙ both_none _ _ start
        ])

    -- the last piece is read
    pub piece_last : (text rest piece : List ℕ) (xs whole : List X) (o : Option X) (x : X)
        → pieces_of read separator text ≡ followed_by xs (pieces_of read separator rest)
        → o ≡ read piece → piece ≡ before_first is_end rest → o ≡ Some x
        → position_or_len is_end rest ≡ length rest → whole ≡ xs ++ x ∷ []
        → pieces_of read separator text ≡ Some whole
    piece_last text rest piece xs whole o x kept is before some end grown =
        kept ∙ ap (followed_by xs) (last_piece rest end
        ∙ ap (λ p. both_read p (Some [])) (ap read (sym before) ∙ sym is ∙ some))
        ∙ ap Some (sym grown)

    -- a piece with others behind it is read
    pub piece_next : (text rest piece behind : List ℕ) (xs whole : List X) (o : Option X) (x : X)
        → pieces_of read separator text ≡ followed_by xs (pieces_of read separator rest)
        → o ≡ read piece → piece ≡ before_first is_end rest → o ≡ Some x
        → position_or_len is_end rest < length rest → whole ≡ xs ++ x ∷ []
        → behind ≡ after_first is_end rest
        → pieces_of read separator text ≡ followed_by whole (pieces_of read separator behind)
    piece_next text rest piece behind xs whole o x kept is before some lt grown after =
        let left = pieces_of read separator (after_first is_end rest) in
        kept ∙ ap (followed_by xs) (first_piece rest lt
        ∙ ap (λ p. both_read p left) (ap read (sym before) ∙ sym is ∙ some))
        ∙ followed_by_read xs x left ∙ ap (λ w. followed_by w left) (sym grown)
        ∙ ap (λ b. followed_by whole (pieces_of read separator b)) (sym after)
