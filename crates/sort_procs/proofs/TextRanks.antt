-- What the rank of a text tells: whether it comes before another, and how many bytes they share.
use Rattle.std.proofs.Common.{◌≡◌, ℕ, zero, suc, ◌+◌, ◌*◌, ◌%◌, ◌<◌, ◌≤◌, cond, nat_lt, List, [], ◌∷◌, length, map, get_or, drop, refl, sym, ap, ap₂, subst, ◌∙◌, arith, inl, inr}
use Rattle.sort_procs.proofs.Imports.{AreBytes, Equal, Less, add-mul-mod_self_right, byte_weight, cases_lt, digit, drop-cons, drop_all, get_or-map, get_or_past, le-ltb, length-map, lt-ltb, mul-le-mul_right, mul-suc, nat_cmp, nat_cmp_total, suc-mul, text_cmp, text_rank, tied_itself}

-- a digit counts something
pub weight-some : (n : ℕ) → 0 < byte_weight n
unfolding byte_weight
weight-some zero = omega arith
weight-some (suc n) = let some = weight-some n in omega (arith, some)

-- the bound of a rank
pub rank-below : (n : ℕ) (a : List ℕ) → AreBytes n a → text_rank n a < byte_weight n * 2
unfolding text_rank byte_weight AreBytes
rank-below n [] h = let some = weight-some n in omega (arith, some)
rank-below zero (x ∷ a) h = omega arith
rank-below (suc n) (x ∷ a) h =
    let less = rank-below n a h.1 in
    let few : suc x * byte_weight n ≤ 256 * byte_weight n =
    mul-le-mul_right (byte_weight n) (omega (arith, h.0)) in
    omega (arith, less, few)

pub nat-less : (x y : ℕ) → x < y → nat_cmp x y ≡ Less
nat-less x y lt = rw (lt-ltb x y lt) refl

pub nat-same : (x : ℕ) → nat_cmp x x ≡ Equal
nat-same x = tied_itself nat_cmp_total x

-- a lower digit makes a lower rank
digit-less : (n x y : ℕ) (a b : List ℕ) → AreBytes n a → x < y
    → suc x * byte_weight n * 2 + text_rank n a < suc y * byte_weight n * 2 + text_rank n b
digit-less n x y a b h lt =
    let less = rank-below n a h in
    let most : suc (suc x) * byte_weight n ≤ suc y * byte_weight n =
    mul-le-mul_right (byte_weight n) (omega (arith, lt)) in
    omega (arith, less, most, suc-mul (suc x) (byte_weight n))

-- a lower rank is that of a text that comes before
pub texts-less : (n : ℕ) (a b : List ℕ) → AreBytes n a → AreBytes n b
    → text_rank n a < text_rank n b → text_cmp a b ≡ Less
unfolding text_rank AreBytes
texts-less n [] (y ∷ b) f g lt = refl
texts-less (suc n) (x ∷ a) (y ∷ b) f g lt =
    let rest = texts-less n a b f.1 g.1 in
    let digit = digit-less n y x b a g.1 in
    grind (arith, nat-less, nat-same, rest, digit, cases_lt x y, cases_lt y x)
texts-less n a b f g lt = grind arith

-- texts of one rank compare as what follows the bytes that it tells
pub texts-rest : (n : ℕ) (a b : List ℕ) → AreBytes n a → AreBytes n b
    → text_rank n a ≡ text_rank n b → text_cmp (drop n a) (drop n b) ≡ text_cmp a b
unfolding text_rank AreBytes
texts-rest (suc n) (x ∷ a) (y ∷ b) f g e = elim (cases_lt x y) [
  | inl lt ↦ absurd (let less = digit-less n x y a b f.1 lt in omega (arith, less, e))
  | inr le ↦ elim (cases_lt y x) [
    | inl lt ↦ absurd (let less = digit-less n y x b a g.1 lt in omega (arith, less, e))
    | inr ge ↦
        let same : x ≡ y = omega (arith, le, ge) in
        let rest : text_rank n a ≡ text_rank n b =
        omega (
          arith,
          subst (λ z. suc x * byte_weight n * 2 + text_rank n a
              ≡ suc z * byte_weight n * 2 + text_rank n b) (sym same) e,
        ) in
        subst (λ z. text_cmp (drop n a) (drop n b) ≡ text_cmp (x ∷ a) (z ∷ b)) same
        (rw (nat-same x) (texts-rest n a b f.1 g.1 rest))
  ]
]
texts-rest n a b f g e = grind (arith, weight-some, mul-suc)

-- and nothing follows where it tells that there are no more bytes
none-behind : (n : ℕ) (a : List ℕ) → text_rank n a % 2 ≡ 0 → drop n a ≡ []
unfolding text_rank
none-behind zero [] even = refl
none-behind zero (x ∷ a) even = absurd (omega (arith, even))
none-behind (suc n) [] even = refl
none-behind (suc n) (x ∷ a) even = none-behind n a
    (sym (add-mul-mod_self_right (text_rank n a) (suc x * byte_weight n) 2)
    ∙ ap (λ z. z % 2) (omega arith) ∙ even)

-- texts of one rank that tells them whole are the same
pub texts-same : (n : ℕ) (a b : List ℕ) → AreBytes n a → AreBytes n b
    → text_rank n a ≡ text_rank n b → text_rank n a % 2 ≡ 0 → text_cmp a b ≡ Equal
texts-same n a b f g e even = sym (texts-rest n a b f g e)
    ∙ ap₂ text_cmp (none-behind n a even) (none-behind n b (ap (λ r. r % 2) (sym e) ∙ even))

-- the bytes from place i on, of which the first is counted first
rank-next : (n i : ℕ) (bytes : List ℕ)
    → text_rank (suc n) (drop i bytes)
    ≡ digit bytes i * byte_weight n * 2 + text_rank n (drop (suc i) bytes)
unfolding text_rank
rank-next n i bytes = elim (cases_lt i (length bytes)) [
  | inl lt ↦ rw (drop-cons bytes i 0 lt, get_or-map suc bytes i 0 0 lt) refl
  | inr le ↦
      rw (
        drop_all i bytes le,
        drop_all (suc i) bytes (omega (arith, le)),
        get_or_past (map suc bytes) i 0 (let l = length-map bytes suc in omega (arith, l, le)),
      )
      (omega arith)
]

rank-last : (i : ℕ) (bytes : List ℕ)
    → text_rank 0 (drop i bytes) ≡ cond (nat_lt i (length bytes)) 1 0
unfolding text_rank
rank-last i bytes = elim (cases_lt i (length bytes)) [
  | inl lt ↦ rw (drop-cons bytes i 0 lt, lt-ltb i (length bytes) lt) refl
  | inr le ↦ rw (drop_all i bytes le, le-ltb i (length bytes) le) refl
]

no-bytes : (bytes : List ℕ) → AreBytes 0 bytes
unfolding AreBytes
no-bytes [] = tt
no-bytes (x ∷ bytes) = tt

bytes-next : (n i : ℕ) (bytes : List ℕ) → ((k : ℕ) → get_or bytes k 0 < 256)
    → AreBytes n (drop (suc i) bytes) → AreBytes (suc n) (drop i bytes)
unfolding AreBytes
bytes-next n i bytes h k = elim (cases_lt i (length bytes)) [
  | inl lt ↦ rw (drop-cons bytes i 0 lt) (h i, k)
  | inr le ↦ rw (drop_all i bytes le) tt
]

-- the first 7 bytes of a text
pub seven_bytes : (bytes : List ℕ) → ((k : ℕ) → get_or bytes k 0 < 256)
    → (((((digit bytes 0 * 257 + digit bytes 1) * 257 + digit bytes 2) * 16974593
    + ((digit bytes 3 * 257 + digit bytes 4) * 257 + digit bytes 5)) * 257 + digit bytes 6) * 2
    + cond (nat_lt 7 (length bytes)) 1 0 ≡ text_rank 7 bytes) × AreBytes 7 bytes
unfolding byte_weight
seven_bytes bytes h = (
  omega (
    arith,
    rank-next 6 0 bytes,
    rank-next 5 1 bytes,
    rank-next 4 2 bytes,
    rank-next 3 3 bytes,
    rank-next 2 4 bytes,
    rank-next 1 5 bytes,
    rank-next 0 6 bytes,
    rank-last 7 bytes,
  ),
  bytes-next 6 0 bytes h (bytes-next 5 1 bytes h (bytes-next 4 2 bytes h (bytes-next 3 3 bytes h
      (bytes-next 2 4 bytes h (bytes-next 1 5 bytes h (bytes-next 0 6 bytes h
      (no-bytes (drop 7 bytes)))))))),
)
