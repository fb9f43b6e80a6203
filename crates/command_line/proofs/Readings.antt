-- What is read of pieces, and what they are written as.
use Rattle.command_line.proofs.Imports.{All, All-cons, All-head, All-map, All-nil, All-tail, All-weaker, AreFew, Bool, List, None, Option, Some, [], all_read, ap, ap₂, are_distinct, arith, both_read, count_by, few_named, few_of, if◌then◌else◌, join_with_byte, join_with_byte-slice_split, length, length-map, length-slice_split, map, nat_le, nat_tests, option_map, pieces_of, refl, slice_split, subst, sym, true, ℕ, ◌&&◌, ◌+◌, ◌==◌, ◌∙◌, ◌∷◌, ◌≡◌, ◌≤◌, none-some, same_Some, cond_some, and_parts}
use Rattle.command_line.proofs.Cuts.{Lacks, joined_split}

-- what a map gives, it gives of something
pub record IsMapped {X Y : Type 0} (f : X → Y) (o : Option X) (y : Y) : Type 0 where
  pub of : X
  pub some : o ≡ Some of
  pub is : f of ≡ y

pub mapped_is_some : {X Y : Type 0} (f : X → Y) (o : Option X) (y : Y) → option_map f o ≡ Some y
    → IsMapped f o y
mapped_is_some f None y e = absurd (none-some y e)
mapped_is_some f (Some x) y e = record { of = x; some = refl; is = same_Some (f x) y e }

pub at_most : (n m : ℕ) → nat_le n m ≡ true → n ≤ m
at_most n m e = grind (arith, nat_tests)

pub at_most_test : (n m : ℕ) → n ≤ m → nat_le n m ≡ true
at_most_test n m e = grind (arith, nat_tests)

module _ {X : Type 0} (read : List ℕ → Option X) (text_of : X → List ℕ) (Good : X → Type 0) where
  -- these are good, and are written as these texts
  pub record AreWritten (texts : List (List ℕ)) (xs : List X) : Type 0 where
    pub each : All Good xs
    pub written : map text_of xs ≡ texts

  module _ (reads : (t : List ℕ) (x : X) → read t ≡ Some x → Good x × (text_of x ≡ t)) where
    both_written : (t : List ℕ) (ts : List (List ℕ)) (o : Option X) (more : Option (List X))
        (xs : List X)
        → ((x : X) → o ≡ Some x → Good x × (text_of x ≡ t))
        → ((ys : List X) → more ≡ Some ys → AreWritten ts ys)
        → both_read o more ≡ Some xs → AreWritten (t ∷ ts) xs
    both_written t ts None more xs one others e = absurd (none-some xs e)
    both_written t ts (Some x) None xs one others e = absurd (none-some xs e)
    both_written t ts (Some x) (Some ys) xs one others e =
        let first = one x refl in
        let rest = others ys refl in
        subst (AreWritten (t ∷ ts)) (same_Some (x ∷ ys) xs e)
        (record {
          each = All-cons Good x ys first.0 rest.each;
          written = ap₂ (λ (p : List ℕ) (ps : List (List ℕ)). p ∷ ps) first.1 rest.written;
        })

    all_written : (ts : List (List ℕ)) (xs : List X) → all_read read ts ≡ Some xs → AreWritten ts xs
    unfolding all_read
    all_written [] xs e = subst (AreWritten []) (same_Some [] xs e)
        (record { each = All-nil Good; written = refl })
    all_written (t ∷ ts) xs e = both_written t ts (read t) (all_read read ts) xs (reads t)
        (all_written ts) e

    -- one or more are read, which are written as the text
    pub pieces_written : (s : ℕ) (text : List ℕ) (xs : List X) → pieces_of read s text ≡ Some xs
        → All Good xs × (1 ≤ length xs) × (join_with_byte s (map text_of xs) ≡ text)
    pieces_written s text xs e =
        let all = all_written (slice_split (λ b. b == s) text) xs e in
        let count : length xs ≡ count_by (λ b. b == s) text + 1 = sym (length-map xs text_of)
        ∙ ap length all.written ∙ length-slice_split (λ b. b == s) text in (
          all.each,
          omega (arith, count),
          ap (join_with_byte s) all.written
              ∙ join_with_byte-slice_split s text,
        )

    -- a few are read
    pub few_written : (name : X → List ℕ) (most s : ℕ) (text : List ℕ) (xs : List X)
        → few_of name most (pieces_of read s text) ≡ Some xs
        → AreFew Good name most xs × (join_with_byte s (map text_of xs) ≡ text)
    few_written name most s text xs e = go (pieces_of read s text) refl e
      where
        go : (o : Option (List X)) → pieces_of read s text ≡ o → few_of name most o ≡ Some xs
            → AreFew Good name most xs × (join_with_byte s (map text_of xs) ≡ text)
        go None is e = absurd (none-some xs e)
        go (Some ys) is e =
            let made = cond_some (few_named name most ys) ys xs e in
            let passes = and_parts (nat_le (length xs) most) (are_distinct (map name xs))
            (ap (few_named name most) (sym made.1) ∙ made.0) in
            let read = pieces_written s text xs (is ∙ ap Some made.1) in (
              record {
                each = read.0;
                some = read.1;
                few = at_most (length xs) most passes.0;
                distinct = passes.1;
              },
              read.2,
            )

  module _ (whole : (x : X) → Good x → read (text_of x) ≡ Some x) where
    all_whole : (xs : List X) → All Good xs → all_read read (map text_of xs) ≡ Some xs
    unfolding all_read
    all_whole [] h = refl
    all_whole (x ∷ xs) h = ap₂ both_read (whole x (All-head Good x xs h))
        (all_whole xs (All-tail Good x xs h))

    -- what is written is read
    pub pieces_whole : (s : ℕ) (xs : List X) → ((x : X) → Good x → Lacks s (text_of x))
        → All Good xs → 1 ≤ length xs
        → pieces_of read s (join_with_byte s (map text_of xs)) ≡ Some xs
    pieces_whole s xs lacks h some =
        ap (all_read read) (joined_split s (map text_of xs)
        (All-map (Lacks s) text_of xs (All-weaker Good (λ x. Lacks s (text_of x)) lacks xs h))
        (omega (arith, some, length-map xs text_of)))
        ∙ all_whole xs h

    -- a few that are written are read
    pub few_whole : (name : X → List ℕ) (most s : ℕ) (xs : List X)
        → ((x : X) → Good x → Lacks s (text_of x)) → AreFew Good name most xs
        → few_of name most (pieces_of read s (join_with_byte s (map text_of xs))) ≡ Some xs
    few_whole name most s xs lacks h =
        ap (few_of name most) (pieces_whole s xs lacks h.each h.some)
        ∙ ap (λ (b : Bool). if b then Some xs else None)
        (ap₂ (λ (a b : Bool). a && b) (at_most_test (length xs) most h.few) h.distinct)
