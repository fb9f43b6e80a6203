-- Laws of loading and unloading boxes one after another.
use Rattle.plan_run.proofs.Imports.{All, All-from_get_or, All-get_or, AreStarting, Changes, Changes-map_set, GraphForm, IsStill, KeepsBehind, Kind, LoadsFirst, Spec, box_at, cases_eq, cases_lt, drop-drop, ext_get_or, get_or-drop, get_or-map, get_or_append_left, get_or_default, kind_of, kinds_in, kinds_of, kinds_taken, length-map, no_box, no_spec, spec_at, BoxPicture, EachBox, FirstBoxes, IsBlank, List, Loads, SameBox, SameCounts, Unloads, [], ap, arith, drop, get_or, length, length-append, map, set, subst, sym, ℕ, ◌++◌, ◌+◌, ◌<◌, ◌∙◌, ◌∷◌, ◌≡◌}

pub still : (p : BoxPicture) → IsStill p p
still p = grind arith

pub same-still : (p q : BoxPicture) → SameBox p q → SameCounts p q → IsStill p q
same-still p q s c = grind arith

-- what holds at each place holds of all
pub all-at : (P : BoxPicture → Type 0) (boxes : List BoxPicture)
    → ((n : ℕ) → n < length boxes → P (box_at boxes n)) → All P boxes
unfolding box_at
all-at P boxes each = All-from_get_or P boxes no_box each

pub at-all : (P : BoxPicture → Type 0) (boxes : List BoxPicture) (n : ℕ) → n < length boxes
    → All P boxes → P (box_at boxes n)
unfolding box_at
at-all P boxes n lt all = All-get_or P boxes n no_box lt all

-- ---- one box after another

pub none-changed : (R : ℕ → BoxPicture → BoxPicture → Type 0) (boxes : List BoxPicture)
    → FirstBoxes 0 R boxes boxes
none-changed R boxes = grind arith

-- the next box was called, and is as R says at its place
pub one-changed : (k : ℕ) (R : ℕ → BoxPicture → BoxPicture → Type 0)
    (before mid after : List BoxPicture) → FirstBoxes k R before mid
    → Changes no_box k (R k) mid after → FirstBoxes (k + 1) R before after
unfolding box_at
one-changed k R before mid after f next = grind (arith, cases_eq, f.first, f.others, next.others)

-- all boxes were called
pub all-changed : (k : ℕ) (R : BoxPicture → BoxPicture → Type 0) (before after : List BoxPicture)
    → length before ≡ k → FirstBoxes k (λ n. R) before after → EachBox R before after
all-changed k R before after len f = grind arith

pub unloaded-blank : (before after : List BoxPicture) → EachBox Unloads before after
    → All IsBlank after
unloaded-blank before after e =
    all-at IsBlank after (λ n lt. (e.each n (subst (λ m. n < m) e.count lt)).blank)

-- ---- loading

pub one-loaded : (k : ℕ) (specs : List Spec) (before mid after : List BoxPicture) (s : Spec)
    → LoadsFirst k specs before mid → Changes no_box k (λ p q. Loads p s q) mid after
    → s ≡ spec_at specs k → LoadsFirst (k + 1) specs before after
one-loaded k specs before mid after s f next here =
    one-changed k (λ n p q. Loads p (spec_at specs n) q) before mid after f
    (subst (λ t. Changes no_box k (λ p q. Loads p t q) mid after) here next)

-- the next box was refused, and is as it was
pub none-more : (k : ℕ) (specs : List Spec) (before mid after : List BoxPicture)
    → LoadsFirst k specs before mid → Changes no_box k (λ p q. q ≡ p) mid after
    → LoadsFirst k specs before after
unfolding box_at
none-more k specs before mid after f next = grind (arith, cases_eq)

pub loads-still : (k : ℕ) (specs : List Spec) (before after : List BoxPicture)
    → LoadsFirst k specs before after → EachBox IsStill before after
loads-still k specs before after f = search (arith, cases_lt)

-- the next box is still as it was
pub next-blank : (k : ℕ) (specs : List Spec) (before mid : List BoxPicture)
    → LoadsFirst k specs before mid → All IsBlank before → k < length before
    → IsBlank (box_at mid k)
next-blank k specs before mid f all lt =
    rw (f.others k (omega arith)) (at-all IsBlank before k lt all)

-- the next box is of the kind of the next spec
pub next-kind : (k : ℕ) (specs : List Spec) (before mid : List BoxPicture) (s : Spec)
    → LoadsFirst k specs before mid
    → ((n : ℕ) → n < length specs → kind_of (spec_at specs n) ≡ (box_at before n).kind)
    → k < length specs → s ≡ spec_at specs k → kind_of s ≡ (box_at mid k).kind
next-kind k specs before mid s f kinds lt here = grind arith

-- the spec that is taken from the front of what is left
pub next-spec : (specs rest : List Spec) (k : ℕ) (s : Spec) → rest ≡ drop k specs
    → s ≡ get_or rest 0 s → k < length specs → s ≡ spec_at specs k
unfolding spec_at
next-spec specs rest k s e read lt = grind (arith, get_or-drop, get_or_default)

pub next-rest : (specs rest after : List Spec) (k : ℕ) → rest ≡ drop k specs → after ≡ drop 1 rest
    → after ≡ drop (k + 1) specs
next-rest specs rest after k e step = step ∙ ap (drop 1) e ∙ drop-drop 1 k specs

-- ---- loaded boxes

-- the loaded boxes start the graph, whose other nodes are kept
pub loaded-starting : (specs : List Spec) (form : GraphForm) (before after : List BoxPicture)
    → length form.ranks ≡ length before → KeepsBehind (length specs) form → All IsBlank before
    → LoadsFirst (length specs) specs before after → AreStarting form.reserves after
unfolding box_at
loaded-starting specs form before after ranks keeps blank f n lt = search (arith, cases_lt, at-all)

-- the kinds of the first boxes are those of the specs
pub first-kinds : (specs : List Spec) (kept : List Kind) (boxes : List BoxPicture)
    → kinds_in boxes ≡ kinds_taken specs kept → (n : ℕ) → n < length specs
    → kind_of (spec_at specs n) ≡ (box_at boxes n).kind
unfolding box_at spec_at
first-kinds specs kept boxes e n lt =
    let in_kinds : n < length (kinds_of specs) =
    subst (λ k. n < k) (sym (length-map specs kind_of)) lt in
    let len = ap (λ (l : List Kind). length l) e in
    let boxes_len = length-map boxes (λ (p : BoxPicture). p.kind) in
    let all = length-append (kinds_of specs) kept in
    sym (get_or-map kind_of specs n no_spec no_box.kind lt)
    ∙ sym (get_or_append_left (kinds_of specs) kept no_box.kind n in_kinds)
    ∙ ap (λ l. get_or l n no_box.kind) (sym e)
    ∙ get_or-map (λ (p : BoxPicture). p.kind) boxes n no_box no_box.kind
    (omega (arith, in_kinds, len, boxes_len, all))

pub boxes-count : (specs : List Spec) (kept : List Kind) (boxes : List BoxPicture)
    → kinds_in boxes ≡ kinds_taken specs kept → length boxes ≡ length specs + length kept
boxes-count specs kept boxes e = grind (arith, length-map, length-append)

-- boxes that keep what they are keep their kinds
pub still-kinds : (before after : List BoxPicture) → EachBox IsStill before after
    → kinds_in after ≡ kinds_in before
unfolding box_at
still-kinds before after s =
    let kind_at : BoxPicture → Kind = λ p. p.kind in
    let len : length (kinds_in after) ≡ length after = length-map after kind_at in
    ext_get_or no_box.kind (kinds_in after) (kinds_in before)
    (len ∙ s.count ∙ sym (length-map before kind_at)) (λ n lt.
    let in_after : n < length after = subst (λ k. n < k) len lt in
    let in_before : n < length before = subst (λ k. n < k) s.count in_after in
    get_or-map kind_at after n no_box no_box.kind in_after ∙ (s.each n in_before).kind
    ∙ sym (get_or-map kind_at before n no_box no_box.kind in_before))

-- ---- lists of boxes, as the code has them

pub map-len : {A : Type 0} (f : A → BoxPicture) (xs : List A) → length (map f xs) ≡ length xs
map-len f xs = length-map xs f

pub in-map : {A : Type 0} (f : A → BoxPicture) (xs : List A) (i : ℕ) → i < length xs
    → i < length (map f xs)
in-map f xs i lt = grind (arith, map-len)

pub box_read : {A : Type 0} (f : A → BoxPicture) (xs : List A) (n : ℕ) (x : A) → n < length xs
    → x ≡ get_or xs n x → box_at (map f xs) n ≡ f x
unfolding box_at
box_read f xs n x lt e = grind (arith, get_or-map)

-- one box alone was called, and is still the same
pub still-at : {A : Type 0} (f : A → BoxPicture) (xs : List A) (n : ℕ) (x y : A) → n < length xs
    → x ≡ get_or xs n x → IsStill (f x) (f y) → EachBox IsStill (map f xs) (map f (set xs n y))
unfolding box_at
still-at f xs n x y lt read s =
    let next : Changes no_box n IsStill (map f xs) (map f (set xs n y)) =
    Changes-map_set f no_box n IsStill xs x y lt read s in
    grind (arith, cases_eq, still)
