-- a list that is compacted in place by a mask
use Rattle.chunk_data.proofs.Imports.{Bool, List, [], add-zero, ap, append-nil, arith, bool_byte, cond, drop, drop-drop, drop-set-lt, false, get_or, get_or-drop, kept, length, length-set, length-take-le, refl, set, sym, take, take-set, take_all, take_more, take_more_set, true, ℕ, ◌++◌, ◌+◌, ◌<◌, ◌∙◌, ◌∷◌, ◌≡◌, ◌≤◌}

pub bool_byte-cond : (b : Bool) → bool_byte b ≡ cond b 1 0
bool_byte-cond true = refl
bool_byte-cond false = refl

pub kept-append : {X : Type 0} (ms ns : List Bool) (xs ys : List X) → length ms ≡ length xs
    → kept (ms ++ ns) (xs ++ ys) ≡ kept ms xs ++ kept ns ys
kept-append [] ns [] ys e = refl
kept-append (true ∷ ms) ns (x ∷ xs) ys e = ap (λ l. x ∷ l) (kept-append ms ns xs ys (omega arith))
kept-append (false ∷ ms) ns (x ∷ xs) ys e = kept-append ms ns xs ys (omega arith)
kept-append _ ns _ ys e = absurd (omega arith)

pub kept_more : {X : Type 0} (ms : List Bool) (xs : List X) (i : ℕ) (d : X) → i < length ms
    → i < length xs → kept (take (i + 1) ms) (take (i + 1) xs)
    ≡ kept (take i ms) (take i xs) ++ cond (get_or ms i false) (get_or xs i d ∷ []) []
kept_more ms xs i d h k =
    let a : length (take i ms) ≡ i = length-take-le i ms (omega arith) in
    let b : length (take i xs) ≡ i = length-take-le i xs (omega arith) in
    rw (take_more ms i false h, take_more xs i d k) (kept-append (take i ms) _ (take i xs) _ (cc))

-- the first i were looked at, and those that stay are the first `count` of `now`
pub record KeepsInPlace {X : Type 0} (mask : List Bool) (old now : List X)
    (count i : ℕ) : Type 0 where
  pub front : take count now ≡ kept (take i mask) (take i old)
  pub rest : drop i now ≡ drop i old
  pub behind : count ≤ i
  pub long : length now ≡ length old

pub here_from_rest : {X : Type 0} (now old : List X) (i : ℕ) (d : X) → drop i now ≡ drop i old
    → get_or now i d ≡ get_or old i d
here_from_rest now old i d e =
    let a : get_or (drop i now) 0 d ≡ get_or now i d = get_or-drop i now 0 d ∙ rw add-zero refl in
    let b : get_or (drop i old) 0 d ≡ get_or old i d = get_or-drop i old 0 d ∙ rw add-zero refl in
    sym a ∙ ap (λ l. get_or l 0 d) e ∙ b

pub rest_more : {X : Type 0} (now old : List X) (i : ℕ) → drop i now ≡ drop i old
    → drop (i + 1) now ≡ drop (i + 1) old
rest_more now old i e = sym (drop-drop 1 i now) ∙ ap (λ l. drop 1 l) e ∙ drop-drop 1 i old

front_more : {X : Type 0} (b : Bool) (now : List X) (count : ℕ) (x : X) (more : ℕ)
    → count < length now → more ≡ count + cond b 1 0
    → take more (set now count x) ≡ take count now ++ cond b (x ∷ []) []
front_more true now count x more h e = rw e (take_more_set now count x h)
front_more false now count x more h e = search (arith, take-set, append-nil)

behind_more : (b : Bool) (count i more : ℕ) → more ≡ count + cond b 1 0 → count ≤ i → more ≤ i + 1
behind_more true count i more e h = omega arith
behind_more false count i more e h = omega arith

pub KeepsInPlace-more : {X : Type 0} {mask : List Bool} {old now : List X} {count i : ℕ}
    → (x : X) (more : ℕ) → KeepsInPlace mask old now count i → i < length now → i < length mask
    → x ≡ get_or now i x → more ≡ count + cond (get_or mask i false) 1 0
    → KeepsInPlace mask old (set now count x) more (i + 1)
KeepsInPlace-more {mask = mask} {old = old} {now = now} {count = count} {i = i} x more h lt lm e
    me =
    let here : get_or now i x ≡ get_or old i x = here_from_rest now old i x h.rest in
    let same : get_or old i x ≡ x = sym (e ∙ here) in
    let grown : kept (take (i + 1) mask) (take (i + 1) old)
    ≡ kept (take i mask) (take i old) ++ cond (get_or mask i false) (get_or old i x ∷ []) [] =
    kept_more mask old i x lm (omega (arith, h.long)) in
    let ahead : take more (set now count x) ≡ take count now ++ cond (get_or mask i false) (x ∷ [])
    [] = front_more (get_or mask i false) now count x more (omega (arith, h.behind)) me in
    record {
      front = ahead ∙ rw (h.front, grown, same) refl;
      rest = drop-set-lt (i + 1) now count x (omega (arith, h.behind)) ∙ rest_more now old i h.rest;
      behind = behind_more (get_or mask i false) count i more me h.behind;
      long = length-set now count x ∙ h.long;
    }

pub KeepsInPlace-all : {X : Type 0} {mask : List Bool} {old now : List X} {count i : ℕ}
    → KeepsInPlace mask old now count i → length old ≤ i → length mask ≤ i
    → take count now ≡ kept mask old
KeepsInPlace-all {mask = mask} {old = old} {i = i} h lo lm = search (arith, take_all)

pub KeepsInPlace-none : {X : Type 0} (mask : List Bool) (xs : List X) → KeepsInPlace mask xs xs 0 0
KeepsInPlace-none [] xs = record { front = refl; rest = refl; behind = omega arith; long = refl }
KeepsInPlace-none (m ∷ mask) xs = search (arith)

pub ruleset keeps = (KeepsInPlace-none, KeepsInPlace-more, KeepsInPlace-all)
