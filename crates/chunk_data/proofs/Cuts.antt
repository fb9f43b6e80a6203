-- texts that lie one after another
use Rattle.chunk_data.proofs.Imports.{All, AreEnds, List, [], ap, arith, cut, drop, drop-append-le, drop-drop, drop-take, drop_at, get_or, get_or-drop, get_or-map, get_or-take, length, length-append, length-drop, length-map, length-take-le, map, refl, slice_range, suc, sym, take, take-append-le, take-map, take-take, take_all, zero, ℕ, ◌++◌, ◌+◌, ◌-◌, ◌<◌, ◌∙◌, ◌∷◌, ◌≡◌, ◌≤◌}

pub length-cut : (bytes : List ℕ) (from : ℕ) (ends : List ℕ)
    → length (cut bytes from ends) ≡ length ends
length-cut bytes from [] = refl
length-cut bytes from (end ∷ ends) = ap suc (length-cut bytes end ends)

pub from_le_total : (from : ℕ) (ends : List ℕ) (total : ℕ) → AreEnds from ends total → from ≤ total
from_le_total from [] total h = omega (arith, h)
from_le_total from (end ∷ ends) total h = omega (arith, h.0, from_le_total end ends total h.1)

pub AreEnds-push : (from : ℕ) (ends : List ℕ) (total more : ℕ) → AreEnds from ends total
    → total ≤ more → AreEnds from (ends ++ more ∷ []) more
AreEnds-push from [] total more h le = (omega (arith, h, le), refl)
AreEnds-push from (end ∷ ends) total more h le = (h.0, AreEnds-push end ends total more h.1 le)

pub slice_range-append : (xs ys : List ℕ) (i j : ℕ) → i ≤ j → j ≤ length xs
    → slice_range (xs ++ ys) i j ≡ slice_range xs i j
slice_range-append xs ys i j h k = search (arith, length-drop, drop-append-le, take-append-le)

pub cut-append : (bytes more : List ℕ) (from : ℕ) (ends : List ℕ) → (total : ℕ) → AreEnds from ends
    total → total ≤ length bytes → cut (bytes ++ more) from ends ≡ cut bytes from ends
cut-append bytes more from [] total h le = refl
cut-append bytes more from (end ∷ ends) total h le =
    search (arith, from_le_total, slice_range-append, cut-append bytes more end ends total h.1 le)

pub cut_push : (bytes : List ℕ) (from : ℕ) (ends : List ℕ) (end : ℕ) (total : ℕ)
    → AreEnds from ends total
    → cut bytes from (ends ++ end ∷ []) ≡ cut bytes from ends ++ slice_range bytes total end ∷ []
cut_push bytes from [] end total h = rw h refl
cut_push bytes from (e ∷ ends) end total h = search (arith, cut_push bytes e ends end total h.1)

pub slice_range-last : (xs ys : List ℕ) (n : ℕ) → n ≡ length xs + length ys
    → slice_range (xs ++ ys) (length xs) n ≡ ys
slice_range-last xs ys n e = search (arith, drop_at, take_all)

-- what a push leaves
pub cut_more : (bytes text : List ℕ) (ends : List ℕ) (end : ℕ) → AreEnds 0 ends (length bytes)
    → end ≡ length bytes + length text
    → cut (bytes ++ text) 0 (ends ++ end ∷ []) ≡ cut bytes 0 ends ++ text ∷ []
cut_more bytes text ends end h e =
    let a : cut (bytes ++ text) 0 (ends ++ end ∷ [])
    ≡ cut (bytes ++ text) 0 ends ++ slice_range (bytes ++ text) (length bytes) end ∷ [] =
    cut_push (bytes ++ text) 0 ends end (length bytes) h in
    let b : cut (bytes ++ text) 0 ends ≡ cut bytes 0 ends =
    cut-append bytes text 0 ends (length bytes) h (omega arith) in
    let c : slice_range (bytes ++ text) (length bytes) end ≡ text =
    slice_range-last bytes text end e in
    cc

-- the text at a place
pub start_le_end : (from : ℕ) (ends : List ℕ) (total i : ℕ) → AreEnds from ends total
    → i < length ends → get_or (from ∷ ends) i 0 ≤ get_or ends i 0
start_le_end from [] total i h k = absurd (omega arith)
start_le_end from (end ∷ ends) total zero h k = h.0
start_le_end from (end ∷ ends) total (suc i) h k = start_le_end end ends total i h.1 (omega arith)

pub end_le_total : (from : ℕ) (ends : List ℕ) (total i : ℕ) → AreEnds from ends total
    → i < length ends → get_or ends i 0 ≤ total
end_le_total from [] total i h k = absurd (omega arith)
end_le_total from (end ∷ ends) total zero h k = from_le_total end ends total h.1
end_le_total from (end ∷ ends) total (suc i) h k = end_le_total end ends total i h.1 (omega arith)

pub get_or-cut : (bytes : List ℕ) (from : ℕ) (ends : List ℕ) (i : ℕ) → i < length ends → get_or
    (cut bytes from ends) i [] ≡ slice_range bytes (get_or (from ∷ ends) i 0) (get_or ends i 0)
get_or-cut bytes from [] i k = absurd (omega arith)
get_or-cut bytes from (end ∷ ends) zero k = refl
get_or-cut bytes from (end ∷ ends) (suc i) k = get_or-cut bytes end ends i (omega arith)

-- after another column's texts
slice_range-after : (xs ys : List ℕ) (i j : ℕ)
    → slice_range (xs ++ ys) (length xs + i) (length xs + j) ≡ slice_range ys i j
slice_range-after xs ys i j =
    let d : drop (length xs + i) (xs ++ ys) ≡ drop i ys = sym (drop-drop i (length xs) (xs ++ ys))
    ∙ ap (λ l. drop i l) (drop_at xs ys (length xs) refl) in
    let n : (length xs + j) - (length xs + i) ≡ j - i = omega arith in
    rw (d, n) refl

cut-after : (xs ys : List ℕ) (from : ℕ) (ends : List ℕ)
    → cut (xs ++ ys) (length xs + from) (map (λ e. length xs + e) ends) ≡ cut ys from ends
cut-after xs ys from [] = refl
cut-after xs ys from (end ∷ ends) = search (arith, slice_range-after, cut-after xs ys end ends)

cut-split : (bytes : List ℕ) (from : ℕ) (ends more : List ℕ) (total : ℕ) → AreEnds from ends total
    → cut bytes from (ends ++ more) ≡ cut bytes from ends ++ cut bytes total more
cut-split bytes from [] more total h = rw h refl
cut-split bytes from (e ∷ ends) more total h = search (arith, cut-split bytes e ends more total h.1)

AreEnds-after : (n from : ℕ) (ends : List ℕ) (total : ℕ) → AreEnds from ends total
    → AreEnds (n + from) (map (λ e. n + e) ends) (n + total)
AreEnds-after n from [] total h = ap (λ k. n + k) h
AreEnds-after n from (end ∷ ends) total h = (omega (arith, h.0), AreEnds-after n end ends total h.1)

AreEnds-split : (from : ℕ) (ends more : List ℕ) (middle total : ℕ) → AreEnds from ends middle
    → AreEnds middle more total → AreEnds from (ends ++ more) total
AreEnds-split from [] more middle total h k = rw h k
AreEnds-split from (e ∷ ends) more middle total h k =
    (h.0, AreEnds-split e ends more middle total h.1 k)

cut_joined : (xs ys : List ℕ) (ends more : List ℕ) → AreEnds 0 ends (length xs)
    → cut (xs ++ ys) 0 (ends ++ map (λ e. length xs + e) more) ≡ cut xs 0 ends ++ cut ys 0 more
cut_joined xs ys ends more h =
    let a : cut (xs ++ ys) 0 (ends ++ map (λ e. length xs + e) more)
    ≡ cut (xs ++ ys) 0 ends ++ cut (xs ++ ys) (length xs) (map (λ e. length xs + e) more) =
    cut-split (xs ++ ys) 0 ends (map (λ e. length xs + e) more) (length xs) h in
    let b : cut (xs ++ ys) 0 ends ≡ cut xs 0 ends =
    cut-append xs ys 0 ends (length xs) h (omega arith) in
    let z : length xs + 0 ≡ length xs = omega arith in
    let c : cut (xs ++ ys) (length xs + 0) (map (λ e. length xs + e) more) ≡ cut ys 0 more =
    cut-after xs ys 0 more in
    let d : cut (xs ++ ys) (length xs) (map (λ e. length xs + e) more) ≡ cut ys 0 more =
    rw z at c in
    cc

AreEnds_joined : (xs ys : List ℕ) (ends more : List ℕ) → AreEnds 0 ends (length xs) → AreEnds 0
    more (length ys) → AreEnds 0 (ends ++ map (λ e. length xs + e) more) (length (xs ++ ys))
AreEnds_joined xs ys ends more h k =
    let z : length xs + 0 ≡ length xs = omega arith in
    let a : AreEnds (length xs + 0) (map (λ e. length xs + e) more) (length xs + length ys) =
    AreEnds-after (length xs) 0 more (length ys) k in
    rw length-append (AreEnds-split 0 ends _ (length xs) _ h (rw z at a))

-- the first n texts
slice_range-take : (xs : List ℕ) (i j m : ℕ) → i ≤ j → j ≤ m
    → slice_range (take m xs) i j ≡ slice_range xs i j
slice_range-take xs i j m h k =
    let e : i + (m - i) ≡ m = omega arith in
    let d : drop i (take (i + (m - i)) xs) ≡ take (m - i) (drop i xs) = drop-take i (m - i) xs in
    let f : drop i (take m xs) ≡ take (m - i) (drop i xs) = rw e at d in
    let le : j - i ≤ m - i = omega arith in
    rw f (take-take (j - i) (m - i) (drop i xs) le)

pub AreEnds-take : (from : ℕ) (ends : List ℕ) (total n : ℕ) → AreEnds from ends total
    → n ≤ length ends → AreEnds from (take n ends) (get_or (from ∷ ends) n 0)
AreEnds-take from ends total zero h k = refl
AreEnds-take from [] total (suc n) h k = absurd (omega arith)
AreEnds-take from (end ∷ ends) total (suc n) h k =
    (h.0, AreEnds-take end ends total n h.1 (omega arith))

cut-take_within : (bytes : List ℕ) (m from : ℕ) (ends : List ℕ) → AreEnds from ends m
    → cut (take m bytes) from ends ≡ cut bytes from ends
cut-take_within bytes m from [] h = refl
cut-take_within bytes m from (end ∷ ends) h =
    search (arith, slice_range-take, from_le_total, cut-take_within bytes m end ends h.1)

cut_front : (bytes : List ℕ) (from : ℕ) (ends : List ℕ) (n : ℕ)
    → cut bytes from (take n ends) ≡ take n (cut bytes from ends)
cut_front bytes from ends zero = refl
cut_front bytes from [] (suc n) = refl
cut_front bytes from (end ∷ ends) (suc n) = search (arith, cut_front bytes end ends n)

pub cut-take : (bytes : List ℕ) (ends : List ℕ) (total n : ℕ) → AreEnds 0 ends total → n ≤ length
    ends → cut (take (get_or (0 ∷ ends) n 0) bytes) 0 (take n ends) ≡ take n (cut bytes 0 ends)
cut-take bytes ends total n h k = search (arith, cut-take_within, AreEnds-take, cut_front)

pub start_le_total : (ends : List ℕ) (total n : ℕ) → AreEnds 0 ends total → n ≤ length ends
    → get_or (0 ∷ ends) n 0 ≤ total
start_le_total ends total zero h k = omega arith
start_le_total ends total (suc n) h k = end_le_total 0 ends total n h (omega arith)

pub AreEnds_front : (bytes ends : List ℕ) (n size : ℕ) → size ≡ get_or (0 ∷ ends) n 0 → AreEnds 0
    ends (length bytes) → n ≤ length ends → AreEnds 0 (take n ends) (length (take size bytes))
AreEnds_front bytes ends n size e h k = search (arith, AreEnds-take, start_le_total, length-take-le)

pub cut_front_of : (bytes ends : List ℕ) (n size : ℕ) → size ≡ get_or (0 ∷ ends) n 0
    → AreEnds 0 ends (length bytes) → n ≤ length ends
    → cut (take size bytes) 0 (take n ends) ≡ take n (cut bytes 0 ends)
cut_front_of bytes ends n size e h k = rw e (cut-take bytes ends (length bytes) n h k)

-- what follows the first n texts
slice_range-drop : (xs : List ℕ) (s i j : ℕ) → s ≤ i → i ≤ j
    → slice_range (drop s xs) (i - s) (j - s) ≡ slice_range xs i j
slice_range-drop xs s i j h k = search (arith, drop-drop)

cut-drop_bytes : (bytes : List ℕ) (s from : ℕ) (ends : List ℕ) (total : ℕ) → s ≤ from → AreEnds from
    ends total → cut (drop s bytes) (from - s) (map (λ e. e - s) ends) ≡ cut bytes from ends
cut-drop_bytes bytes s from [] total h k = refl
cut-drop_bytes bytes s from (end ∷ ends) total h k =
    search (arith, slice_range-drop, cut-drop_bytes bytes s end ends total (omega (arith, k.0)) k.1)

cut_rest : (bytes : List ℕ) (from : ℕ) (ends : List ℕ) (n : ℕ) → n ≤ length ends
    → cut bytes (get_or (from ∷ ends) n 0) (drop n ends) ≡ drop n (cut bytes from ends)
cut_rest bytes from ends zero h = refl
cut_rest bytes from [] (suc n) h = absurd (omega arith)
cut_rest bytes from (end ∷ ends) (suc n) h = cut_rest bytes end ends n (omega arith)

AreEnds-rest : (from : ℕ) (ends : List ℕ) (total n : ℕ) → AreEnds from ends total → n ≤ length ends
    → AreEnds (get_or (from ∷ ends) n 0) (drop n ends) total
AreEnds-rest from ends total zero h k = h
AreEnds-rest from [] total (suc n) h k = absurd (omega arith)
AreEnds-rest from (end ∷ ends) total (suc n) h k = AreEnds-rest end ends total n h.1 (omega arith)

AreEnds-down : (s from : ℕ) (ends : List ℕ) (total : ℕ) → AreEnds from ends total
    → AreEnds (from - s) (map (λ e. e - s) ends) (total - s)
AreEnds-down s from [] total h = ap (λ n. n - s) h
AreEnds-down s from (end ∷ ends) total h = (omega (arith, h.0), AreEnds-down s end ends total h.1)

ends_above : (from : ℕ) (ends : List ℕ) (total k d : ℕ) → AreEnds from ends total → k < length ends
    → from ≤ get_or ends k d
ends_above from [] total k d h lt = absurd (omega arith)
ends_above from (end ∷ ends) total zero d h lt = h.0
ends_above from (end ∷ ends) total (suc k) d h lt =
    omega (arith, h.0, ends_above end ends total k d h.1 (omega arith))

pub rest_above : (ends rest : List ℕ) (total n start : ℕ) → AreEnds 0 ends total → n ≤ length ends
    → start ≡ get_or (0 ∷ ends) n 0 → rest ≡ drop n ends → All (λ end. start ≤ end) rest
rest_above ends rest total n start h k e r = λ j d lt. rw (e, r) (ends_above _ (drop n ends) total j
    d (AreEnds-rest 0 ends total n h k) (omega (arith, ap length r)))

pub AreEnds_rest : (bytes ends : List ℕ) (n start : ℕ) → AreEnds 0 ends (length bytes)
    → n ≤ length ends → start ≡ get_or (0 ∷ ends) n 0
    → AreEnds 0 (map (λ e. e - start) (drop n ends)) (length (drop start bytes))
AreEnds_rest bytes ends n start h k e =
    let a : AreEnds (get_or (0 ∷ ends) n 0) (drop n ends) (length bytes) =
    AreEnds-rest 0 ends (length bytes) n h k in
    let b : AreEnds (start - start) (map (λ e. e - start) (drop n ends)) (length bytes - start) =
    AreEnds-down start start (drop n ends) (length bytes) (rw e a) in
    let z : start - start ≡ 0 = omega arith in
    rw length-drop (rw z at b)

pub cut_rest_of : (bytes ends : List ℕ) (n start : ℕ) → AreEnds 0 ends (length bytes)
    → n ≤ length ends → start ≡ get_or (0 ∷ ends) n 0
    → cut (drop start bytes) 0 (map (λ e. e - start) (drop n ends)) ≡ drop n (cut bytes 0 ends)
cut_rest_of bytes ends n start h k e =
    let a : AreEnds (get_or (0 ∷ ends) n 0) (drop n ends) (length bytes) =
    AreEnds-rest 0 ends (length bytes) n h k in
    let b : cut (drop start bytes) (start - start) (map (λ e. e - start) (drop n ends))
    ≡ cut bytes start (drop n ends) =
    cut-drop_bytes bytes start start (drop n ends) (length bytes) (omega arith) (rw e a) in
    let z : start - start ≡ 0 = omega arith in
    (rw z at b) ∙ ap (λ s. cut bytes s (drop n ends)) e ∙ cut_rest bytes 0 ends n k

-- ---- n texts from a place on, behind those of another column
moved_twice : (ends : List ℕ) (by start : ℕ)
    → map (λ e. by + (e - start)) ends ≡ map (λ e. by + e) (map (λ e. e - start) ends)
moved_twice [] by start = refl
moved_twice (e ∷ ends) by start = ap (λ l. (by + (e - start)) ∷ l) (moved_twice ends by start)

end_of_rest : (ends : List ℕ) (from n start : ℕ) → start ≡ get_or (0 ∷ ends) from 0
    → from + n ≤ length ends → get_or (0 ∷ map (λ e. e - start) (drop from ends)) n 0
    ≡ get_or (0 ∷ ends) (from + n) 0 - start
end_of_rest ends from zero start e h = search arith
end_of_rest ends from (suc n) start e h =
    let z : from + suc n ≡ suc (from + n) = omega arith in
    let lt : n < length (drop from ends) = rw length-drop (omega arith) in
    let f : ℕ → ℕ = λ k. k - start in
    rw z (get_or-map f (drop from ends) n 0 0 lt ∙ ap f (get_or-drop from ends n 0))

-- the bytes and the ends of these texts alone
record IsRange (bytes ends part later : List ℕ) (from n : ℕ) : Type 0 where
  pub are_ends : AreEnds 0 later (length part)
  pub texts : cut part 0 later ≡ take n (drop from (cut bytes 0 ends))

range_of : (bytes ends : List ℕ) (from n start end : ℕ) → AreEnds 0 ends (length bytes)
    → from + n ≤ length ends → start ≡ get_or (0 ∷ ends) from 0
    → end ≡ get_or (0 ∷ ends) (from + n) 0 → IsRange bytes ends (slice_range bytes start end)
    (map (λ e. e - start) (slice_range ends from (from + n))) from n
range_of bytes ends from n start end h le s e =
    let rest : List ℕ = map (λ e. e - start) (drop from ends) in
    let front : from ≤ length ends = omega arith in
    let are : AreEnds 0 rest (length (drop start bytes)) =
    AreEnds_rest bytes ends from start h front s in
    let within : n ≤ length rest = rw (length-map, length-drop) (omega arith) in
    let size : end - start ≡ get_or (0 ∷ rest) n 0 = ap (λ k. k - start) e
    ∙ sym (end_of_rest ends from n start s le) in
    let many : (from + n) - from ≡ n = omega arith in
    let later : map (λ e. e - start) (take n (drop from ends)) ≡ take n rest =
    sym (take-map (λ e. e - start) n (drop from ends)) in
    rw (many, later) (
    record {
      are_ends = AreEnds_front (drop start bytes) rest n (end - start) size are within;
      texts = cut_front_of (drop start bytes) rest n (end - start) size are within
          ∙ ap (λ l. take n l) (cut_rest_of bytes ends from start h front s);
    })

pub start_le_start : (ends : List ℕ) (total from n : ℕ) → AreEnds 0 ends total
    → from + n ≤ length ends → get_or (0 ∷ ends) from 0 ≤ get_or (0 ∷ ends) (from + n) 0
start_le_start ends total from zero h le = search arith
start_le_start ends total from (suc n) h le =
    let front : from ≤ length ends = omega arith in
    let lt : n < length (drop from ends) = rw length-drop (omega arith) in
    let z : from + suc n ≡ suc (from + n) = omega arith in
    let above : get_or (0 ∷ ends) from 0 ≤ get_or (drop from ends) n 0 =
    ends_above _ (drop from ends) total n 0 (AreEnds-rest 0 ends total from h front) lt in
    let at : get_or (drop from ends) n 0 ≡ get_or (0 ∷ ends) (suc (from + n)) 0 =
    get_or-drop from ends n 0 in
    rw z (omega (arith, above, at))

pub cut_range : (xs ys ends more : List ℕ) (from n by : ℕ) → AreEnds 0 ends (length xs)
    → AreEnds 0 more (length ys) → from + n ≤ length more → by ≡ length xs
    → cut (xs ++ slice_range ys (get_or (0 ∷ more) from 0) (get_or (0 ∷ more) (from + n) 0)) 0
    (ends ++ map (λ e. by + (e - get_or (0 ∷ more) from 0)) (slice_range more from (from + n)))
    ≡ cut xs 0 ends ++ take n (drop from (cut ys 0 more))
cut_range xs ys ends more from n by h k le e =
    let start : ℕ = get_or (0 ∷ more) from 0 in
    let is = range_of ys more from n start _ k le refl refl in
    rw (e, moved_twice (slice_range more from (from + n)) (length xs) start)
    (cut_joined xs _ ends _ h ∙ ap (λ l. cut xs 0 ends ++ l) is.texts)

pub AreEnds_range : (xs ys ends more : List ℕ) (from n by : ℕ) → AreEnds 0 ends (length xs)
    → AreEnds 0 more (length ys) → from + n ≤ length more → by ≡ length xs → AreEnds 0
    (ends ++ map (λ e. by + (e - get_or (0 ∷ more) from 0)) (slice_range more from (from + n)))
    (length (xs ++ slice_range ys (get_or (0 ∷ more) from 0) (get_or (0 ∷ more) (from + n) 0)))
AreEnds_range xs ys ends more from n by h k le e =
    let start : ℕ = get_or (0 ∷ more) from 0 in
    let is = range_of ys more from n start _ k le refl refl in
    rw (e, moved_twice (slice_range more from (from + n)) (length xs) start)
    (AreEnds_joined xs _ ends _ h is.are_ends)

pub range_above : (ys more : List ℕ) (from n start : ℕ) → AreEnds 0 more (length ys)
    → from + n ≤ length more → start ≡ get_or (0 ∷ more) from 0
    → All (λ e. start ≤ e) (slice_range more from (from + n))
range_above ys more from n start k le s = λ j d lt.
    let many : (from + n) - from ≡ n = omega arith in
    let front : from ≤ length more = omega arith in
    let here : j < length (take n (drop from more)) = rw many at lt in
    let size : length (take n (drop from more)) ≡ n =
    length-take-le n (drop from more) (rw length-drop (omega arith)) in
    let all : All (λ e. start ≤ e) (drop from more) =
    rest_above more _ (length ys) from start k front s refl in
    rw (many, get_or-take n (drop from more) j d (omega arith))
    (all j d (rw length-drop (omega arith)))

pub range_fits : (ys more : List ℕ) (from n start end by j d : ℕ) → AreEnds 0 more (length ys)
    → from + n ≤ length more → start ≡ get_or (0 ∷ more) from 0
    → end ≡ get_or (0 ∷ more) (from + n) 0 → j < length (slice_range more from (from + n))
    → by + (get_or (slice_range more from (from + n)) j d - start)
    ≤ by + length (slice_range ys start end)
range_fits ys more from n start end by j d k le s e lt =
    let is = range_of ys more from n start end k le s e in
    let part : List ℕ = slice_range more from (from + n) in
    let f : ℕ → ℕ = λ k. k - start in
    let here : get_or (map f part) j 0 ≡ f (get_or part j d) = get_or-map f part j d 0 lt in
    let below : get_or (map f part) j 0 ≤ length (slice_range ys start end) =
    end_le_total 0 (map f part) _ j is.are_ends (rw length-map lt) in
    omega (arith, here, below)

pub ruleset cuts = (
  length-cut,
  get_or-cut,
  start_le_end,
  end_le_total,
  cut_more,
  AreEnds-push,
  start_le_start,
  start_le_total,
  AreEnds_front,
  cut_front_of,
)
