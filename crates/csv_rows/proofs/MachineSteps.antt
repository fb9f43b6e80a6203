-- The machine of the `csv` crate, by fields and lines.
use Rattle.csv_rows.proofs.Imports.{◌≡◌, ℕ, suc, ◌+◌, ◌==◌, ◌&&◌, Bool, true, false, cond, not, List, [], ◌∷◌, ◌++◌, take, drop, refl, ap, ◌∙◌, arith, append_assoc, Option, Some, State, BeginsField, BeginsFields, FirstRecord, IsSome, Read, and_parts, append-nil, at_end, default_config, ends_at_end, eqb-true, first_or, is_end, is_line_end, next_record, no_mark, no_quote, not-true, or_cases, or_parts, prefix_len, records_from, starts_line, starts_with, state_code, step, is_mark}
use Rattle.csv.specs.declared.parser.State.TheVariants as st
use Rattle.csv.specs.declared.parser.Action.TheVariants as act

-- bytes that a state copies join the field, up to the first that it does not
pub copies_join_field : (s : State) (q : ℕ → Bool)
    → ((c : ℕ) → q c ≡ true → step default_config s c ≡ (s, act.Copy))
    → (fields : List (List ℕ)) (field xs : List ℕ)
    → next_record default_config s fields field xs
    ≡ next_record default_config s fields (field ++ take (prefix_len q xs) xs)
    (drop (prefix_len q xs) xs)
unfolding next_record
copies_join_field s q h fields field [] = rw (append-nil field) refl
copies_join_field s q h fields field (c ∷ xs) =
    go (q c) refl (copies_join_field s q h fields (field ++ c ∷ []) xs)
  where
    go : (b : Bool) → q c ≡ b → next_record default_config s fields (field ++ c ∷ []) xs
        ≡ next_record default_config s fields ((field ++ c ∷ []) ++ take (prefix_len q xs) xs)
        (drop (prefix_len q xs) xs)
        → next_record default_config s fields field (c ∷ xs)
        ≡ next_record default_config s fields
        (field ++ take (cond b (1 + prefix_len q xs) 0) (c ∷ xs))
        (drop (cond b (1 + prefix_len q xs) 0) (c ∷ xs))
    go true e more =
        let one : 1 + prefix_len q xs ≡ suc (prefix_len q xs) = omega arith in
        rw (one, h c e) (more
        ∙ ap (λ f. next_record default_config s fields f (drop (prefix_len q xs) xs))
        (append_assoc field (c ∷ []) (take (prefix_len q xs) xs)))
    go false e more = rw (append-nil field) refl

plain_copies : (c : ℕ) → no_mark c ≡ true
    → step default_config st.InField c ≡ (st.InField, act.Copy)
plain_copies c h = grind (arith, or_parts, not-true)

pub quoted_copies : (c : ℕ) → no_quote c ≡ true
    → step default_config st.InQuoted c ≡ (st.InQuoted, act.Copy)
quoted_copies c h = rw (not-true (c == 34) h) refl

-- behind the first bytes that fail a test stands one that passes, or nothing
pub prefix_stops : (p : ℕ → Bool) (xs : List ℕ)
    → first_or true p (drop (prefix_len (λ x. not (p x)) xs) xs) ≡ true
prefix_stops p [] = refl
prefix_stops p (x ∷ xs) = go (p x) refl (prefix_stops p xs)
  where
    go : (b : Bool) → p x ≡ b → first_or true p (drop (prefix_len (λ x. not (p x)) xs) xs) ≡ true
        → first_or true p (drop (cond (not b) (1 + prefix_len (λ x. not (p x)) xs) 0) (x ∷ xs))
        ≡ true
    go true e h = e
    go false e h = let one : 1 + prefix_len (λ x. not (p x)) xs
        ≡ suc (prefix_len (λ x. not (p x)) xs) = omega arith in rw one h

-- bytes up to a mark join the field
pub plain_run : (fields : List (List ℕ)) (field xs : List ℕ)
    → next_record default_config st.InField fields field xs
    ≡ next_record default_config st.InField fields (field ++ take (prefix_len no_mark xs) xs)
    (drop (prefix_len no_mark xs) xs)
plain_run = copies_join_field st.InField no_mark plain_copies

-- where no quote stands, the start of a field is like its inside
start_plain : (fields : List (List ℕ)) (field xs : List ℕ) → starts_with 34 xs ≡ false
    → next_record default_config st.StartField fields field xs
    ≡ next_record default_config st.InField fields field xs
unfolding next_record
start_plain fields field xs h = grind arith

-- a field without quotes
pub plain_field : (xs : List ℕ) → starts_with 34 xs ≡ false
    → BeginsField xs (take (prefix_len no_mark xs) xs) (drop (prefix_len no_mark xs) xs)
plain_field xs q = grind (arith, start_plain, plain_run, prefix_stops is_mark xs)

-- behind CR as behind LF
after_return : (fields : List (List ℕ)) (field xs : List ℕ)
    → next_record default_config st.AfterCr fields field xs
    ≡ next_record default_config st.StartRecord fields field xs
unfolding next_record
after_return fields field [] = refl
after_return fields field (c ∷ xs) = grind (arith, eqb-true)

records_from_return : (n : ℕ) (xs : List ℕ) → records_from default_config n st.AfterCr xs
    ≡ records_from default_config n st.StartRecord xs
unfolding records_from
records_from_return a xs = grind (arith, after_return)

-- the end of a line in front of a record is passed over
skip_line_end : (fields : List (List ℕ)) (field : List ℕ) (c : ℕ) (xs : List ℕ)
    → is_line_end c ≡ true
    → next_record default_config st.StartRecord fields field (c ∷ xs)
    ≡ next_record default_config st.StartRecord fields field xs
unfolding next_record
skip_line_end fields field c xs h = grind (arith, or_cases, eqb-true)

-- the end of a line in front of the first record is passed over
pub records_skip : (n c : ℕ) (xs : List ℕ) → is_line_end c ≡ true
    → records_from default_config n st.StartRecord (c ∷ xs)
    ≡ records_from default_config n st.StartRecord xs
unfolding records_from
records_skip n c xs h = grind (arith, skip_line_end)

-- no bytes, no records
pub records_nil : (n : ℕ) → records_from default_config n st.StartRecord [] ≡ []
unfolding next_record records_from
records_nil n = grind arith

-- a record starts as a field does
pub record_starts : (xs : List ℕ) → starts_line xs ≡ true → BeginsFields xs [] xs
unfolding next_record
record_starts xs h = grind (arith, or_parts, not-true)

-- a field, and a comma behind it
pub one_more : {xs mid rest : List ℕ} {fields : List (List ℕ)} {field : List ℕ}
    → BeginsFields xs fields mid → BeginsField mid field (44 ∷ rest)
    → BeginsFields xs (fields ++ field ∷ []) rest
unfolding next_record
one_more {fields = fields} {field = field} a b = record { reads = a.reads ∙ b.reads fields }

record_from : (xs rest : List ℕ) (fields : List (List ℕ)) (s : State)
    → ((n : ℕ) → records_from default_config n s rest
    ≡ records_from default_config n st.StartRecord rest)
    → next_record default_config st.StartRecord [] [] xs ≡ Some (fields, s, rest)
    → FirstRecord xs fields rest
unfolding records_from
record_from xs rest fields s same e = grind arith

-- a field, and the end of a line behind it
pub last_in_line : {xs mid rest : List ℕ} {fields : List (List ℕ)} {field : List ℕ} → (c : ℕ)
    → is_line_end c ≡ true → BeginsFields xs fields mid → BeginsField mid field (c ∷ rest)
    → FirstRecord xs (fields ++ field ∷ []) rest
unfolding next_record
last_in_line c h a b = grind (arith, or_cases, record_from, eqb-true, records_from_return)

-- a field, and the end of the text behind it
pub last_of_text : {xs mid : List ℕ} {fields : List (List ℕ)} {field : List ℕ}
    → BeginsFields xs fields mid → BeginsField mid field []
    → FirstRecord xs (fields ++ field ∷ []) []
unfolding next_record
last_of_text a b = grind (arith, record_from)

-- in these states a record has begun
abbrev busy : State → Bool
busy s = ends_at_end s && not (state_code s == 1536)

-- a record that has begun goes on, unless the action ends it
step_goes : (s : State) (c : ℕ) → busy s ≡ true → is_end (step default_config s c).1 ≡ false
    → busy (step default_config s c).0 ≡ true
step_goes s c h e = grind arith

some_in : (b : Bool) (p : Read) (o : Option Read) → (b ≡ false → IsSome o)
    → IsSome (cond b (Some p) o)
some_in b p o h = grind arith

-- a record that has begun is one
there_is : (s : State) (fields : List (List ℕ)) (field xs : List ℕ) → busy s ≡ true
    → IsSome (next_record default_config s fields field xs)
unfolding next_record
there_is s fields field [] h = rw (and_parts (ends_at_end s) _ h).0 refl
there_is s fields field (c ∷ xs) h = some_in (is_end (step default_config s c).1) _ _
    (λ e. there_is (step default_config s c).0 _ _ xs (step_goes s c h e))

-- where a line starts, a record is left
pub record_left : (n : ℕ) (xs : List ℕ) → starts_line xs ≡ true
    → at_end (records_from default_config (suc n) st.StartRecord xs) ≡ false
unfolding records_from
record_left n xs h = grind (arith, record_starts xs h, there_is st.StartField [] [] xs refl)
