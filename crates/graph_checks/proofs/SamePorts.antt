-- Wires that take the same ports of some nodes tell the same of wires that come there.
use Rattle.graph_checks.proofs.Imports.{All-get_or, AllPass-from_list_all, Bool, List, TakeSamePorts, Wire, [], all_below, all_below-at, and_parts, ap, ap₂, both_ways, cases_Bool, edge-of, eq-eqb, false, has_gap, has_input, has_output, has_port, inl, inr, is-gapless, is_gapless, is_port_taken, list_all, list_any, list_any-append, no_wire, not, refl, subst, sym, true, wire-input, wire-output, wire_at, ℕ, ◌++◌, ◌<◌, ◌==◌, ◌||◌, ◌∙◌, ◌∷◌, ◌≡◌}

met : (a b : Bool) → a ≡ true → (not a || b) ≡ true → b ≡ true
met true b a h = h
met false b a h = absurd (cc)

module _ (node port : Wire → ℕ) (wires : List Wire) (n : ℕ) where
  abbrev follows : Wire → Bool
  follows w = not (node w == n) || all_below (has_port node port wires n) (port w)

  -- where there is no gap, each port below one in use is in use
  below-used : list_all follows wires ≡ true → (k i : ℕ) → has_port node port wires n k ≡ true
      → i < k → has_port node port wires n i ≡ true
  unfolding wire_at
  below-used all k i at lt =
      let e = edge-of node port wires n k at in
      let w : Wire = wire_at wires e.0 in
      let own : follows w ≡ true = All-get_or (λ x. follows x ≡ true) wires e.0 no_wire e.1
      (AllPass-from_list_all follows wires all) in
      all_below-at (has_port node port wires n) (port w) i
      (met _ _ (eq-eqb (node w) n e.2) own) (subst (λ z. i < z) (sym e.3) lt)

same-back : (a b : List Wire) (n : ℕ) → TakeSamePorts a b n → TakeSamePorts b a n
same-back a b n s = record { inputs = λ i. sym (s.inputs i); outputs = λ o. sym (s.outputs o) }

gapless-too : (a b : List Wire) (n : ℕ) → TakeSamePorts a b n → is_gapless a n ≡ true
    → is_gapless b n ≡ true
gapless-too a b n s h =
    let both = and_parts _ _ h in
    is-gapless b n
    (λ e i lt at less. sym (s.inputs i) ∙ below-used (λ w. w.to) (λ w. w.input) a n both.0
    (wire_at b e).input i (s.inputs (wire_at b e).input
    ∙ wire-input b e n (wire_at b e).input lt at refl) less)
    (λ e o lt at less. sym (s.outputs o) ∙ below-used (λ w. w.from) (λ w. w.out) a n both.1
    (wire_at b e).out o (s.outputs (wire_at b e).out
    ∙ wire-output b e n (wire_at b e).out lt at refl) less)

-- the node has a gap with both or with neither
pub gap-same : (a b : List Wire) (n : ℕ) → TakeSamePorts a b n → has_gap a n ≡ has_gap b n
gap-same a b n s = ap not (elim (cases_Bool (is_gapless a n)) [
  | inl all ↦ all ∙ sym (gapless-too a b n s all)
  | inr none ↦ elim (cases_Bool (is_gapless b n)) [
    | inl all ↦ absurd (both_ways _ none (gapless-too b a n (same-back a b n s) all))
    | inr other ↦ none ∙ sym other
  ]
])

-- they do with more wires
pub same-with : (a b more : List Wire) (n : ℕ) → TakeSamePorts a b n
    → TakeSamePorts (a ++ more) (b ++ more) n
same-with a b more n s = record {
  inputs = λ i. list_any-append _ a more ∙ ap (λ t. t || has_input more n i) (s.inputs i)
      ∙ sym (list_any-append _ b more);
  outputs = λ o. list_any-append _ a more ∙ ap (λ t. t || has_output more n o) (s.outputs o)
      ∙ sym (list_any-append _ b more);
}

-- each wire's ends are such nodes
abbrev pub JoinOnly : (ℕ → Type 0) → List Wire → Type 0
JoinOnly P [] = Unit {0}
JoinOnly P (w ∷ wires) = P w.to × P w.from × JoinOnly P wires

-- each of the numbers is that of such a node
abbrev pub AreAll : (ℕ → Type 0) → List ℕ → Type 0
AreAll P [] = Unit {0}
AreAll P (n ∷ nodes) = P n × AreAll P nodes

-- a port is taken with both or with neither
pub taken-same : (P : ℕ → Type 0) (a b more : List Wire)
    → ((n : ℕ) → P n → TakeSamePorts a b n) → JoinOnly P more
    → is_port_taken a more ≡ is_port_taken b more
taken-same P a b [] same ends = refl
taken-same P a b (w ∷ more) same ends = ap₂ (λ t u. t || u)
    (ap₂ (λ t u. t || u) ((same w.to ends.0).inputs w.input)
    ((same w.from ends.1).outputs w.out))
    (taken-same P (a ++ w ∷ []) (b ++ w ∷ []) more
    (λ n p. same-with a b (w ∷ []) n (same n p)) ends.2)

-- one of the nodes has a gap with both or with neither
pub gaps-same : (P : ℕ → Type 0) (a b : List Wire) (nodes : List ℕ)
    → ((n : ℕ) → P n → TakeSamePorts a b n) → AreAll P nodes
    → list_any (has_gap a) nodes ≡ list_any (has_gap b) nodes
gaps-same P a b [] same all = refl
gaps-same P a b (n ∷ nodes) same all = ap₂ (λ t u. t || u) (gap-same a b n (same n all.0))
    (gaps-same P a b nodes same all.1)
