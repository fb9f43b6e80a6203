-- The bits of node words, and the ends of edges.
use Rattle.core_laws.proofs.Imports.{Bool, Option, Some, Wire, WordHolds, ap, arith, bit_at, bit_at-lt, bit_at-pow_other, bit_at-pow_same, bit_at-zero, bit_at_end, bit_at_or, bit_at_xor, bit_of, bit_or, bit_xor, both_ways, cases_Bool, cases_eq, end_of, eqb, eqb-true, false, inl, inr, is_end, is_node_bit, is_set, is_unborn, max, names, not, peer_in, refl, subst, sym, true, wire_ok, ℕ, ◌+◌, ◌<◌, ◌^◌, ◌∙◌, ◌≡◌, ◌≢◌, ◌≤◌}

-- no bit of 0 is set
pub zero-clear : (k : ℕ) → is_set 0 k ≡ false
zero-clear k = grind (arith, bit_at-zero k)

-- a power of 2 has one bit
pub pow-clear : (k i : ℕ) → i ≢ k → is_set (2 ^ k) i ≡ false
pow-clear k i ne = grind (arith, bit_at-pow_other k i ne)

-- the other bits of a word that was told stay
pub or-other : (w k i : ℕ) → i ≢ k → is_set (bit_or w (2 ^ k)) i ≡ is_set w i
or-other w k i ne = grind (arith, bit_at_or w (2 ^ k) i, bit_at-pow_other k i ne)

-- the bit that it was told is set
pub or-here : (w k : ℕ) → is_set (bit_or w (2 ^ k)) k ≡ true
or-here w k = grind (arith, bit_at_or w (2 ^ k) k, bit_at-pow_same k, bit_at-lt w k)

-- the bits that were set stay
pub or-more : (w k i : ℕ) → is_set w i ≡ true → is_set (bit_or w (2 ^ k)) i ≡ true
or-more w k i h = grind (arith, cases_eq, or-here, or-other)

-- a word with one bit, of a node that is held where this is the bit held
pub word-one : (k : ℕ) (on : Bool) → is_node_bit k ≡ true → is_set (2 ^ k) 62 ≡ on
    → WordHolds (2 ^ k) on
word-one k on named held = grind (arith, pow-clear, cases_eq)

-- the word of an idle node
pub word-idle : WordHolds 0 false
word-idle = grind (arith, zero-clear, both_ways)

-- a word that was told of a port
pub word-told : (w k : ℕ) (on : Bool) → k < 48 → WordHolds w on → WordHolds (bit_or w (2 ^ k)) on
word-told w k on small h = record {
  held = or-other w k 62 (λ z. omega arith) ∙ h.held;
  lone = λ i j a b ne z. or-other w k j (λ y. omega arith)
      ∙ h.lone i j a b ne (sym (or-other w k i (λ y. omega arith)) ∙ z);
  bits = λ i z. elim (cases_eq i k) [
    | inl e ↦ grind arith
    | inr ne ↦ h.bits i (sym (or-other w k i ne) ∙ z)
  ];
}

-- ---- birth

abbrev flipped : ℕ → ℕ
flipped w = bit_xor w (2 ^ 60 + 2 ^ 61)

both : bit_or (2 ^ 60) (2 ^ 61) ≡ 2 ^ 60 + 2 ^ 61
both = refl

-- birth leaves all bits but first and unborn
pub flip-other : (w i : ℕ) → i ≢ 60 → i ≢ 61 → is_set (flipped w) i ≡ is_set w i
flip-other w i a b = ap (λ z. eqb z 1) same
  where
    none : bit_at (2 ^ 60 + 2 ^ 61) i ≡ 0
    none = ap (λ z. bit_at z i) (sym both) ∙ (bit_at_or (2 ^ 60) (2 ^ 61) i
        ∙ (λ j. max (bit_at-pow_other 60 i a j) (bit_at-pow_other 61 i b j)))

    same : bit_at (flipped w) i ≡ bit_at w i
    same = let x = bit_at_xor w (2 ^ 60 + 2 ^ 61) i in
        let y : bit_at (2 ^ 60 + 2 ^ 61) i ≡ 0 = none in
        let z = bit_at-lt w i in omega (arith, x, y, z)

-- the word of a node that was born has the bit first, and no other one of the four
pub flip-lone : (w : ℕ) (on : Bool) → is_unborn w ≡ true → WordHolds w on
    → (is_set (flipped w) 60 ≡ true)
    × ((j : ℕ) → 60 ≤ j → j ≢ 60 → is_set (flipped w) j ≡ false)
flip-lone w on unborn h = (
  let x = h.lone 61 60 (omega arith) (omega arith) (λ z. omega arith) unborn in
      grind (arith, x, bit_at_xor w (2 ^ 60 + 2 ^ 61) 60, bit_at-lt w 60),
  λ j a b. elim (cases_eq j 61) [
    | inl e ↦ subst (λ k. is_set (flipped w) k ≡ false) (sym e)
        (grind (arith, bit_at_xor w (2 ^ 60 + 2 ^ 61) 61, bit_at-lt w 61))
    | inr ne ↦ flip-other w j b ne
        ∙ h.lone 61 j (omega arith) a (λ z. ne (sym z)) unborn
  ],
)

-- the word of a node that was born
pub word-born : (w : ℕ) (on : Bool) → is_unborn w ≡ true → WordHolds w on → WordHolds (flipped w) on
word-born w on unborn h = let x = flip-lone w on unborn h in record {
  held = flip-other w 62 (λ z. omega arith) (λ z. omega arith) ∙ h.held;
  lone = λ i j a b ne z. elim (cases_eq j 60) [
    | inl e ↦ absurd (both_ways _ (x.1 i a (λ y. ne (y ∙ sym e))) z)
    | inr y ↦ x.1 j b y
  ];
  bits = λ i z. elim (cases_eq i 60) [
    | inl e ↦ ap is_node_bit e
    | inr a ↦ elim (cases_eq i 61) [
      | inl e ↦ ap is_node_bit e
      | inr b ↦ h.bits i (sym (flip-other w i a b) ∙ z)
    ]
  ];
}

-- ---- ends of edges

-- an end's bit is a port's, the end is a node, and the other end is another one
pub end-within : (nodes : ℕ) (w : Wire) → wire_ok nodes w ≡ true → (b : Bool)
    → (bit_of b w < 48) × (end_of b w < nodes) × (end_of (not b) w ≢ end_of b w)
end-within nodes w h b = grind arith

-- what a step of the end n reads of its bit
pub at-end : (nodes : ℕ) (w : Wire) → wire_ok nodes w ≡ true → (b : Bool) (n : ℕ) → end_of b w ≡ n
    → bit_at_end n (Some w) ≡ bit_of b w
at-end nodes w h b n e = grind arith

-- and of its peer, the end b
pub peer-of : (nodes : ℕ) (w : Wire) → wire_ok nodes w ≡ true → (b : Bool) (n : ℕ)
    → end_of (not b) w ≡ n → (end_of b w ≡ peer_in n (Some w))
    × (bit_of b w ≡ bit_at_end (peer_in n (Some w)) (Some w))
peer-of nodes w h b n e = grind arith

-- the end b of an edge
pub record EndOf (b : Bool) (n : ℕ) (x : Option Wire) : Type 0 where
  pub wire : Wire
  pub is : x ≡ Some wire
  pub end : end_of b wire ≡ n

-- where a node is an end there is a wire
pub end-of : (b : Bool) (n : ℕ) (x : Option Wire) → is_end b n x ≡ true → EndOf b n x
end-of b n x h = grind (arith, both_ways, eqb-true)

-- a node that a wire names is one of its ends
pub an-end : (n : ℕ) (x : Option Wire) → names n x ≡ true → (b : Bool) × EndOf b n x
an-end n x h = grind (arith, cases_Bool, end-of)

-- the end of the end
pub not-not : (b : Bool) (w : Wire) → end_of (not (not b)) w ≡ end_of b w
not-not b w = grind arith

-- what holds of an end and of the other one
pub both-ends : (Q : Bool → Type 0) (b : Bool) → Q b → Q (not b) → (a : Bool) → Q a
both-ends Q b x y a = grind arith
