-- texts that are compacted in place by a mask
use Rattle.chunk_data.proofs.Imports.{AreEnds, Bool, List, [], add-one, ap, append-nil, arith, cond, copy_within, cut, drop, drop-append-drop, drop-drop, drop-set-lt, false, get_or, get_or_read, kept, length, length-append, length-drop, length-set, length-take, length-take-le, refl, set, slice_range, sym, take, take_all, take_at, take_more_set, true, ℕ, ◌++◌, ◌+◌, ◌-◌, ◌<◌, ◌∙◌, ◌∷◌, ◌≡◌, ◌≤◌}
use Rattle.chunk_data.proofs.Keeps.{kept_more, here_from_rest, rest_more}
use Rattle.chunk_data.proofs.Cuts.{get_or-cut, cut_more, AreEnds-push, length-cut, start_le_end, end_le_total, start_le_total}

-- `i` texts were looked at, the last of them ends at `start`; those that stay are the first
-- `count`, in the first `written` bytes
pub record KeepsTexts (mask : List Bool) (bytes₀ ends₀ bytes ends : List ℕ)
    (written count start i : ℕ) : Type 0 where
  pub front : cut (take written bytes) 0 (take count ends)
      ≡ kept (take i mask) (take i (cut bytes₀ 0 ends₀))
  pub are_ends : AreEnds 0 (take count ends) written
  pub bytes_rest : drop start bytes ≡ drop start bytes₀
  pub ends_rest : drop i ends ≡ drop i ends₀
  pub at : start ≡ get_or (0 ∷ ends₀) i 0
  pub behind : count ≤ i
  pub within : written ≤ start
  pub long : length ends ≡ length ends₀
  pub large : length bytes ≡ length bytes₀

rest_later : (now old : List ℕ) (i j : ℕ) → i ≤ j → drop i now ≡ drop i old
    → drop j now ≡ drop j old
rest_later now old i j h e =
    let n : i + (j - i) ≡ j = omega arith in
    let a : drop (i + (j - i)) now ≡ drop (i + (j - i)) old = sym (drop-drop (j - i) i now)
    ∙ ap (λ l. drop (j - i) l) e ∙ drop-drop (j - i) i old in
    rw n at a

next_start : (ends : List ℕ) (i : ℕ) → get_or ends i 0 ≡ get_or (0 ∷ ends) (i + 1) 0
next_start ends i = rw add-one refl

length_copied : (bytes : List ℕ) (start end at : ℕ) → at ≤ start → start ≤ end → end ≤ length bytes
    → length (copy_within bytes start end at) ≡ length bytes
length_copied bytes start end at a b c = search (arith, length-append, length-take, length-drop)

-- what stays true where text `i` goes
pub KeepsTexts-more_no : {mask : List Bool} {bytes₀ ends₀ bytes ends : List ℕ} {written count start
    i : ℕ} → (end : ℕ) → KeepsTexts mask bytes₀ ends₀ bytes ends written count start i → AreEnds 0
    ends₀ (length bytes₀) → i < length ends₀ → i < length mask → end ≡ get_or ends i end → get_or
    mask i false ≡ false → KeepsTexts mask bytes₀ ends₀ bytes ends written count end (i + 1)
KeepsTexts-more_no {mask = mask} {bytes₀ = bytes₀} {ends₀ = ends₀} {bytes = bytes} {ends = ends}
    {written = written} {count = count} {start = start} {i = i} end h are lt lm e₀ no_ =
    let e : end ≡ get_or ends i 0 = get_or_read ends i end (omega (arith, h.long)) e₀ 0 in
    let lc : i < length (cut bytes₀ 0 ends₀) = rw length-cut lt in
    let grown : kept (take (i + 1) mask) (take (i + 1) (cut bytes₀ 0 ends₀))
    ≡ kept (take i mask) (take i (cut bytes₀ 0 ends₀)) ++ cond (get_or mask i false) (get_or
    (cut bytes₀ 0 ends₀) i [] ∷ []) [] = kept_more mask (cut bytes₀ 0 ends₀) i [] lm lc in
    let here : get_or ends i 0 ≡ get_or ends₀ i 0 = here_from_rest ends ends₀ i 0 h.ends_rest in
    let le : get_or (0 ∷ ends₀) i 0 ≤ get_or ends₀ i 0 =
    start_le_end 0 ends₀ (length bytes₀) i are lt in
    let up : start ≤ end = omega (arith, h.at) in
    record {
      front = h.front ∙ sym (rw (grown, no_) (append-nil _));
      are_ends = h.are_ends;
      bytes_rest = rest_later bytes bytes₀ start end up h.bytes_rest;
      ends_rest = rest_more ends ends₀ i h.ends_rest;
      at = e ∙ here ∙ next_start ends₀ i;
      behind = omega (arith, h.behind);
      within = omega (arith, h.within);
      long = h.long;
      large = h.large;
    }

-- where text `i` stays, and was moved to `written`
pub KeepsTexts-more_yes : {mask : List Bool} {bytes₀ ends₀ bytes ends : List ℕ} {written count start
    i : ℕ} → (end more : ℕ) → KeepsTexts mask bytes₀ ends₀ bytes ends written count start i
    → AreEnds 0 ends₀ (length bytes₀) → i < length ends₀ → i < length mask → end ≡ get_or ends i end
    → get_or mask i false ≡ true → more ≡ written + (end - start) → KeepsTexts mask bytes₀ ends₀
    (copy_within bytes start end written) (set ends count more) more (count + 1) end (i + 1)
KeepsTexts-more_yes {mask = mask} {bytes₀ = bytes₀} {ends₀ = ends₀} {bytes = bytes} {ends = ends}
    {written = written} {count = count} {start = start} {i = i} end more h are lt lm e₀ yes_ em =
    let e : end ≡ get_or ends i 0 = get_or_read ends i end (omega (arith, h.long)) e₀ 0 in
    let lc : i < length (cut bytes₀ 0 ends₀) = rw length-cut lt in
    let grown : kept (take (i + 1) mask) (take (i + 1) (cut bytes₀ 0 ends₀))
    ≡ kept (take i mask) (take i (cut bytes₀ 0 ends₀)) ++ cond (get_or mask i false) (get_or
    (cut bytes₀ 0 ends₀) i [] ∷ []) [] = kept_more mask (cut bytes₀ 0 ends₀) i [] lm lc in
    let here : get_or ends i 0 ≡ get_or ends₀ i 0 = here_from_rest ends ends₀ i 0 h.ends_rest in
    let le : get_or (0 ∷ ends₀) i 0 ≤ get_or ends₀ i 0 =
    start_le_end 0 ends₀ (length bytes₀) i are lt in
    let top : get_or ends₀ i 0 ≤ length bytes₀ = end_le_total 0 ends₀ (length bytes₀) i are lt in
    let up : start ≤ end = omega (arith, h.at) in
    let fits : end ≤ length bytes = omega (arith, h.large) in
    let w : written ≤ start = h.within in
    let text : List ℕ = take (end - start) (drop start bytes) in
    let size : length text ≡ end - start =
    length-take-le (end - start) (drop start bytes) (simp length-drop (omega arith)) in
    let old_size : length (take written bytes) ≡ written =
    length-take-le written bytes (omega arith) in
    let moved : length (take written bytes ++ text) ≡ more = length-append (take written bytes) text
    ∙ omega arith in
    let kept_bytes : take more (copy_within bytes start end written) ≡ take written bytes ++ text =
    take_at (take written bytes ++ text) (drop (written + (end - start)) bytes) more moved in
    let kept_ends : take (count + 1) (set ends count more) ≡ take count ends ++ more ∷ [] =
    take_more_set ends count more (omega (arith, h.behind, h.long)) in
    let one : slice_range bytes₀ (get_or (0 ∷ ends₀) i 0) (get_or ends₀ i 0) ≡ text =
    rw (← h.at, ← here, ← e, ← h.bytes_rest) refl in
    let read : get_or (cut bytes₀ 0 ends₀) i [] ≡ text = get_or-cut bytes₀ 0 ends₀ i lt ∙ one in
    let are_now : AreEnds 0 (take count ends) (length (take written bytes)) =
    rw old_size h.are_ends in
    let added : cut (take written bytes ++ text) 0 (take count ends ++ more ∷ [])
    ≡ cut (take written bytes) 0 (take count ends) ++ text ∷ [] =
    cut_more (take written bytes) text (take count ends) more are_now (omega arith) in
    let past : drop end (copy_within bytes start end written) ≡ drop end bytes =
    drop-append-drop (written + (end - start)) bytes (take written bytes ++ text) end
    (omega arith) (moved ∙ em) in
    record {
      front = ap (λ bs. cut bs 0 (take (count + 1) (set ends count more))) kept_bytes
          ∙ ap (λ es. cut (take written bytes ++ text) 0 es) kept_ends ∙ added
          ∙ rw (h.front, grown, yes_, read) refl;
      are_ends =
          rw kept_ends (AreEnds-push 0 (take count ends) written more h.are_ends (omega arith));
      bytes_rest = past ∙ rest_later bytes bytes₀ start end up h.bytes_rest;
      ends_rest = drop-set-lt (i + 1) ends count more (omega (arith, h.behind))
          ∙ rest_more ends ends₀ i h.ends_rest;
      at = e ∙ here ∙ next_start ends₀ i;
      behind = omega (arith, h.behind);
      within = omega arith;
      long = length-set ends count more ∙ h.long;
      large = length_copied bytes start end written w up fits ∙ h.large;
    }

-- text `i` lies behind what was written, and within the bytes
pub KeepsTexts-next : {mask : List Bool} {bytes₀ ends₀ bytes ends : List ℕ} {written count start i :
    ℕ} → (end : ℕ) → KeepsTexts mask bytes₀ ends₀ bytes ends written count start i
    → AreEnds 0 ends₀ (length bytes₀) → i < length ends₀ → end ≡ get_or ends i end
    → (start ≤ end) × (end ≤ length bytes)
KeepsTexts-next {bytes₀ = bytes₀} {ends₀ = ends₀} {ends = ends} {i = i} end h are lt e₀ =
    let e : end ≡ get_or ends i 0 = get_or_read ends i end (omega (arith, h.long)) e₀ 0 in
    let here : get_or ends i 0 ≡ get_or ends₀ i 0 = here_from_rest ends ends₀ i 0 h.ends_rest in
    let le : get_or (0 ∷ ends₀) i 0 ≤ get_or ends₀ i 0 =
    start_le_end 0 ends₀ (length bytes₀) i are lt in
    let top : get_or ends₀ i 0 ≤ length bytes₀ = end_le_total 0 ends₀ (length bytes₀) i are lt in
    (omega (arith, h.at), omega (arith, h.large))

pub KeepsTexts-all : {mask : List Bool} {bytes₀ ends₀ bytes ends : List ℕ} {written count start i :
    ℕ} → KeepsTexts mask bytes₀ ends₀ bytes ends written count start i → length ends₀ ≤ i → length
    mask ≤ i → cut (take written bytes) 0 (take count ends) ≡ kept mask (cut bytes₀ 0 ends₀)
KeepsTexts-all {mask = mask} {bytes₀ = bytes₀} {ends₀ = ends₀} {i = i} h le lm =
    search (arith, length-cut, take_all)

pub KeepsTexts-ends : {mask : List Bool} {bytes₀ ends₀ bytes ends : List ℕ} {written count start i :
    ℕ} → KeepsTexts mask bytes₀ ends₀ bytes ends written count start i → AreEnds 0 ends₀
    (length bytes₀) → i ≤ length ends₀ → AreEnds 0 (take count ends) (length (take written bytes))
KeepsTexts-ends {bytes₀ = bytes₀} {ends₀ = ends₀} {bytes = bytes} {written = written}
    {i = i} h are le = search (arith, start_le_total, length-take-le)
