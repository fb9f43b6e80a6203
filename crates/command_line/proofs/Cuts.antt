-- Texts that are cut at a byte.
use Rattle.command_line.proofs.Imports.{All, All-append, All-cons, All-head, All-nil, All-tail, Bool, List, [], after_first, ap, append_assoc, arith, before_first, cases_lt, cond, drop, drop_all, drop_at, eq-eqb, eqb-true, false, inl, inr, join_with_byte, length, length-append, list_all, ne_eqb, not, passes_at_first, position_or_len, prefix_len, refl, slice_split, slice_split_at, slice_split_none, split_at_first, sym, take, take-append_seam, true, ℕ, ◌++◌, ◌+◌, ◌==◌, ◌∙◌, ◌∷◌, ◌≡◌, ◌≤◌, and_parts}

pub true_false : (b : Bool) → b ≡ true → b ≡ false → ⊥
true_false b t f = let bad : true ≡ false = sym t ∙ f in cc

-- the byte isn't in the text
abbrev pub Lacks : ℕ → List ℕ → Type 0
Lacks s text = All (λ b. (b == s) ≡ false) text

-- what bytes have and this one hasn't
pub lacks_by : (q : ℕ → Bool) (s : ℕ) (text : List ℕ) → q s ≡ false → list_all q text ≡ true
    → Lacks s text
lacks_by q s [] f e = All-nil (λ b. (b == s) ≡ false)
lacks_by q s (b ∷ bs) f e =
    All-cons (λ x. (x == s) ≡ false) b bs
    (ne_eqb b s (λ same. true_false (q s)
    (sym (ap q same) ∙ (and_parts (q b) (list_all q bs) e).0) f))
    (lacks_by q s bs f (and_parts (q b) (list_all q bs) e).1)

-- another byte in front
pub lacks_more : (s b : ℕ) (text : List ℕ) → (b == s) ≡ false → Lacks s text → Lacks s (b ∷ text)
lacks_more s b text other h = All-cons (λ x. (x == s) ≡ false) b text other h

pub lacks_both : (s : ℕ) (xs ys : List ℕ) → Lacks s xs → Lacks s ys → Lacks s (xs ++ ys)
lacks_both s xs ys h k = All-append (λ b. (b == s) ≡ false) xs ys h k

pub lacks_joined : (s c : ℕ) (texts : List (List ℕ)) → (c == s) ≡ false → All (Lacks s) texts
    → Lacks s (join_with_byte c texts)
lacks_joined s c [] other h = All-nil (λ b. (b == s) ≡ false)
lacks_joined s c (x ∷ []) other h = All-head (Lacks s) x [] h
lacks_joined s c (x ∷ y ∷ more) other h =
    lacks_both s x (c ∷ join_with_byte c (y ∷ more)) (All-head (Lacks s) x (y ∷ more) h)
    (lacks_more s c (join_with_byte c (y ∷ more)) other
    (lacks_joined s c (y ∷ more) other (All-tail (Lacks s) x (y ∷ more) h)))

first_at : (s : ℕ) (xs ys : List ℕ) → Lacks s xs → position_or_len (λ b. b == s) (xs ++ (s ∷ ys))
    ≡ length xs
first_at s [] ys h = ap (λ a. cond (not a) (1 + prefix_len (λ b. not (b == s)) ys) 0)
    (eq-eqb s s refl)
first_at s (x ∷ xs) ys h =
    let rest : prefix_len (λ b. not (b == s)) (xs ++ (s ∷ ys)) ≡ length xs =
    first_at s xs ys (All-tail (λ b. (b == s) ≡ false) x xs h) in
    ap (λ a. cond (not a) (1 + prefix_len (λ b. not (b == s)) (xs ++ (s ∷ ys))) 0)
    (All-head (λ b. (b == s) ≡ false) x xs h)
    ∙ omega (arith, rest)

-- what stands before the first such byte
pub before_at : (s : ℕ) (xs ys : List ℕ) → Lacks s xs
    → before_first (λ b. b == s) (xs ++ (s ∷ ys)) ≡ xs
before_at s xs ys h = ap (λ n. take n (xs ++ (s ∷ ys))) (first_at s xs ys h)
    ∙ take-append_seam xs (s ∷ ys)

-- and after it
pub after_at : (s : ℕ) (xs ys : List ℕ) → Lacks s xs
    → after_first (λ b. b == s) (xs ++ (s ∷ ys)) ≡ ys
after_at s xs ys h =
    ap (λ n. drop (n + 1) (xs ++ (s ∷ ys))) (first_at s xs ys h)
    ∙ ap (drop (length xs + 1)) (sym (append_assoc xs (s ∷ []) ys))
    ∙ drop_at (xs ++ (s ∷ [])) ys (length xs + 1) (length-append xs (s ∷ []))

-- where something stands after such a byte, the text is what stands before it, the byte and that
pub cut_at : (s : ℕ) (text : List ℕ) → (after_first (λ b. b == s) text ≡ [] → ⊥)
    → before_first (λ b. b == s) text ++ (s ∷ after_first (λ b. b == s) text) ≡ text
cut_at s text some =
    elim (cases_lt (position_or_len (λ b. b == s) text) (length text)) [
      | inl lt ↦ ap (λ b. before_first (λ b. b == s) text ++ (b ∷ after_first (λ b. b == s) text))
          (sym (eqb-true _ s (passes_at_first (λ b. b == s) text 0 lt)))
          ∙ sym (split_at_first (λ b. b == s) text 0 lt)
      | inr le ↦ absurd (some (drop_all (position_or_len (λ b. b == s) text + 1) text
          (omega (arith, le))))
    ]

-- texts that are joined are those that the cut gives
pub joined_split : (s : ℕ) (texts : List (List ℕ)) → All (Lacks s) texts → 1 ≤ length texts
    → slice_split (λ b. b == s) (join_with_byte s texts) ≡ texts
joined_split s [] h some = absurd (omega (arith, some))
joined_split s (x ∷ []) h some = slice_split_none (λ b. b == s) x (All-head (Lacks s) x [] h)
joined_split s (x ∷ y ∷ more) h some =
    slice_split_at (λ b. b == s) x s (join_with_byte s (y ∷ more))
    (All-head (Lacks s) x (y ∷ more) h) (eq-eqb s s refl)
    ∙ ap (λ texts. x ∷ texts) (joined_split s (y ∷ more) (All-tail (Lacks s) x (y ∷ more) h)
    (omega arith))
