-- The paths and the bad line of a list, read line by line.
use Rattle.csv_procs.proofs.Imports.{AreOf, AreTaken, Bool, IsLineTaken, List, None, Option, Some, [], ap, append-nil, append_assoc, arith, bad_line, cases_eq, common_steps, drop, drop_all, drop_more, false, filter, get_or, inl, inr, is_path, length, length-append, lines_from, list_bad_line, list_paths, ne_eqb, refl, sym, true, without_cr, ℕ, ◌++◌, ◌+◌, ◌-◌, ◌<◌, ◌==◌, ◌∙◌, ◌∷◌, ◌≡◌, ◌≢◌, ◌≤◌, ◌⊎◌}

-- ---- one CR at the end

pub cr-dropped : (front : List ℕ) → without_cr (front ++ 13 ∷ []) ≡ front
cr-dropped [] = refl
cr-dropped (b ∷ []) = refl
cr-dropped (b ∷ c ∷ bytes) = ap (λ l. b ∷ l) (cr-dropped (c ∷ bytes))

pub cr-kept : (line : List ℕ) → ((front : List ℕ) → line ≢ front ++ 13 ∷ [])
    → without_cr line ≡ line
cr-kept [] never = refl
cr-kept (b ∷ []) never = elim (cases_eq b 13) [
  | inl z ↦ absurd (never [] (ap (λ x. x ∷ []) z))
  | inr ne ↦ rw (ne_eqb b 13 ne) refl
]
cr-kept (b ∷ c ∷ bytes) never =
    ap (λ l. b ∷ l) (cr-kept (c ∷ bytes) (λ front e. never (b ∷ front) (ap (λ l. b ∷ l) e)))

-- ---- a line

pub takes-empty : (line : List ℕ) (paths : List (List ℕ)) → length line ≡ 0
    → IsLineTaken true line paths paths
unfolding bad_line
takes-empty [] paths e =
    λ bad all n lines x. record { bad_line_is = x.bad_line_is; paths_are = x.paths_are }
takes-empty (b ∷ line) paths e = absurd (omega (arith, e))

-- the first line is bad where it has bytes and is no path, or is one too many
pub bad-here : (line : List ℕ) (paths : List (List ℕ)) → (length line == 0) ≡ false
    → (is_path line ≡ false) ⊎ (32 ≤ length paths) → IsLineTaken false line paths paths
unfolding bad_line
bad-here [] paths some why = absurd (cc)
bad-here (b ∷ line) paths some (inl never) = λ bad all n lines x. rw never at x.bad_line_is
bad-here (b ∷ line) paths some (inr full) = λ bad all n lines x.
    let none : 32 - length paths ≡ 0 = omega (arith, full) in
    let here : bad_line n (32 - length paths) ((b ∷ line) ∷ lines) ≡ Some n =
    grind (arith, common_steps, none) in sym here ∙ x.bad_line_is

pub takes-path : (line : List ℕ) (paths : List (List ℕ)) → is_path line ≡ true
    → length paths < 32 → IsLineTaken true line paths (paths ++ line ∷ [])
unfolding bad_line
takes-path [] paths e few = absurd (cc)
takes-path (b ∷ line) paths e few = λ bad all n lines x.
    let some : (32 - length paths == 0) ≡ false =
    ne_eqb (32 - length paths) 0 (λ z. omega (arith, z, few)) in
    let l = length-append paths ((b ∷ line) ∷ []) in
    let room : 32 - length (paths ++ (b ∷ line) ∷ []) ≡ 32 - length paths - 1 =
    omega (arith, l, few) in
    record {
      bad_line_is = ap (λ k. bad_line (n + 1) k lines) room ∙ (rw (e, some) at x.bad_line_is);
      paths_are = append_assoc paths ((b ∷ line) ∷ []) (filter is_path lines)
          ∙ (rw e at x.paths_are);
    }

-- ---- all lines

-- the lines from place i on, of which the first begins with `line`
pub record ReadsOn (text line : List ℕ) (i number : ℕ) (paths : List (List ℕ)) : Type 0 where
  pub numbered : number ≤ i + 1
  pub few : length paths ≤ 32
  pub are : AreOf (list_bad_line text) (list_paths text) number paths
      (lines_from line (drop i text))

-- the next byte is none that ends a line, or ends one that is taken, or that is bad
pub reads-byte : (text line : List ℕ) (i number d : ℕ) (paths : List (List ℕ)) → i < length text
    → get_or text i d ≢ 10 → ReadsOn text line i number paths
    → ReadsOn text (line ++ get_or text i d ∷ []) (i + 1) number paths
unfolding lines_from
reads-byte text line i number d paths lt ne r = record {
  numbered = omega (arith, r.numbered);
  few = r.few;
  are = rw (drop_more text i d lt, ne_eqb (get_or text i d) 10 ne) at r.are;
}

-- what is known behind a line that ended before place i, by whether it was taken
abbrev pub AfterLine : Bool → (text : List ℕ) (i number : ℕ) (new : List (List ℕ)) → Type 0
AfterLine true text i number new = length new ≤ 32 → ReadsOn text [] i (number + 1) new
AfterLine false text i number new = Some number ≡ list_bad_line text

pub reads-line : (text line line' : List ℕ) (i number d : ℕ) (old new : List (List ℕ))
    (taken : Bool) → i < length text → get_or text i d ≡ 10 → line' ≡ without_cr line
    → ReadsOn text line i number old → IsLineTaken taken line' old new
    → AfterLine taken text (i + 1) number new
unfolding lines_from
reads-line text line line' i number d old new taken lt e is r t =
    go taken (t _ _ number (lines_from [] (drop (i + 1) text))
    (rw is (rw (drop_more text i d lt, e) at r.are)))
  where
    go : (b : Bool) → AreTaken b (list_bad_line text) (list_paths text) number new
        (lines_from [] (drop (i + 1) text)) → AfterLine b text (i + 1) number new
    go true x = λ few. record { numbered = omega (arith, r.numbered); few = few; are = x }
    go false x = x

-- the last line has no end, and is passed over where it is empty
last-line : (bad : Option ℕ) (all : List (List ℕ)) (line : List ℕ) (number : ℕ)
    (paths : List (List ℕ))
    → AreOf bad all number paths (lines_from line [])
    → AreOf bad all number paths (without_cr line ∷ [])
unfolding bad_line lines_from
last-line bad all [] number paths x =
    record { bad_line_is = x.bad_line_is; paths_are = x.paths_are }
last-line bad all (b ∷ line) number paths x = x

-- what is known behind the last line
abbrev pub AfterLast : Bool → (text : List ℕ) (number : ℕ) (new : List (List ℕ)) → Type 0
AfterLast true text number new = (None ≡ list_bad_line text) × (new ≡ list_paths text)
AfterLast false text number new = Some number ≡ list_bad_line text

pub reads-last : (text line line' : List ℕ) (i number : ℕ) (old new : List (List ℕ)) (taken : Bool)
    → length text ≤ i → line' ≡ without_cr line → ReadsOn text line i number old
    → IsLineTaken taken line' old new → AfterLast taken text number new
unfolding bad_line
reads-last text line line' i number old new taken le is r t =
    go taken (t _ _ number []
    (rw is (last-line _ _ line number old (rw (drop_all i text le) at r.are))))
  where
    go : (b : Bool) → AreTaken b (list_bad_line text) (list_paths text) number new []
        → AfterLast b text number new
    go true x = (x.bad_line_is, sym (append-nil new) ∙ x.paths_are)
    go false x = x
