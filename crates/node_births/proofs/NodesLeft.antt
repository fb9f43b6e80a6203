-- What each node by itself tells of all births: which of them touch it, and what its box is.
use Rattle.node_births.proofs.Imports.{AllByRecursion, AreNodesLeft, AreOnce, Birth, Blank, Bool, BoxPicture, GraphBefore, IsBorn, IsBoxLeft, IsGraph, IsHeldBy, List, NodeLeft, None, Reserve, ReserveForm, StandsFrom, WasBorn, [], all_births, all_places, ap, append-nil, arith, births_of, born_wires, both_ways, box_at, cases_Bool, count_by-append, count_by-once, eq-eqb, eqb-true, false, false_from_ne_true, filter, filter-append, get_elem?, grown_ranks, grown_wires, holds_node, inl, input_count, inr, is_place, is_some, length, list_any, list_any_at, or_parts, or_right, output_count, place-of, refl, reserve_at, reserve_before, some, subst, suc, sym, true, zero, ℕ, ⊎_elim, ◌++◌, ◌+◌, ◌<◌, ◌==◌, ◌||◌, ◌∙◌, ◌∷◌, ◌≡◌, ◌≢◌, ◌⊎◌}
use Rattle.node_births.proofs.BirthWires.{HasNone, birth-none, counts-of, held-other, no-births, no-place}
use Rattle.node_births.proofs.BlankPlaces.{is-counted, node_count}
use Rattle.node_births.proofs.GraphsLeft.{graph-left, once-left}
use Rattle.node_births.proofs.OwnSound.{all-sound, births_at, each-sound, few-wires, grows-by, none-passes, one-passes, others-none, own_births}
use Rattle.node_births.proofs.ReserveLaws.{grower-unheld, held-below, held-blank, node-once, r_at, unheld-born}
use Rattle.node_births.proofs.SoundBirths.{IsOfReserve, all-places, are-of-reserves, blanks-left, place-append, place-cons, place-own}

-- ---- births that touch a node: it grew, or is a place

abbrev pub touches : ℕ → Birth → Bool
touches n b = (b.expander == n) || list_any (λ (k : ℕ). k == n) b.places

untouched : (n : ℕ) (births : List Birth) → births_of n births ≡ [] → is_place births n ≡ false
    → filter (touches n) births ≡ []
untouched n [] h off = refl
untouched n (b ∷ births) h off = let parts = or_parts _ _ (sym (place-cons b births n) ∙ off) in
    let free : list_any (λ (k : ℕ). k == n) b.places ≡ false = parts.0 in
    elim (cases_Bool (b.expander == n)) [
      | inl on ↦ absurd (let e = rw on at h in cc)
      | inr other ↦ rw (other, free) (untouched n births (rw other at h) parts.1)
    ]

-- a node's own births touch it
births-touching : (n : ℕ) (births : List Birth)
    → births_of n (filter (touches n) births) ≡ births_of n births
births-touching n [] = refl
births-touching n (b ∷ births) = elim (cases_Bool (b.expander == n)) [
  | inl on ↦ rw (on, on) (ap (λ l. b ∷ l) (births-touching n births))
  | inr other ↦
      grind (arith, cases_Bool, births-touching n births, births-touching n births, b.places)
]

-- the node is a place of the birth that is at this place of a list
pub is-place-at : (births : List Birth) (i : ℕ) (b : Birth) (m : ℕ) → get_elem? births i ≡ some b →
    list_any (λ (k : ℕ). k == m) b.places ≡ true → is_place births m ≡ true
is-place-at [] i b m h on = absurd (cc)
is-place-at (x ∷ births) zero b m h on = grind (arith, place-cons)
is-place-at (x ∷ births) (suc i) b m h on = place-cons x births m
    ∙ or_right _ _ (is-place-at births i b m h on)

-- a place of some births is no place of later ones
pub place-once : (xs ys : List Birth) (m : ℕ) → AreOnce (all_places (xs ++ ys))
    → is_place xs m ≡ true → is_place ys m ≡ false
place-once xs ys m once on = false_from_ne_true _ (λ again.
    let p = place-of (all_places (xs ++ ys)) m (place-append xs ys m ∙ rw on refl) in
    let all = count_by-once (all_places (xs ++ ys)) m once p.place p.in_range p.is in
    grind (arith, all-places, count_by-append, is-counted))

-- ---- which reserve has a node

which : (test : Reserve → Bool) (rs : List Reserve) → ((k : ℕ) × (k < length rs) × (test (reserve_at
    rs k) ≡ true)) ⊎ ((j : ℕ) → j < length rs → test (reserve_at rs j) ≡ false)
unfolding reserve_at
which test [] = inr (λ j lt. absurd (omega (arith, lt)))
which test (r ∷ rs) = elim (cases_Bool (test r)) [
  | inl on ↦ inl (0, omega arith, on)
  | inr off ↦ elim (which test rs) [
    | inl p ↦ inl (suc p.0, (omega (arith, p.1)), p.2)
    | inr none ↦ grind (arith, off)
  ]
]

module _ {g : GraphBefore} {nodes : ℕ → NodeLeft} {after : List BoxPicture}
    (h : AreNodesLeft g nodes after) where
  abbrev pub all : List Birth
  all = all_births g nodes

  abbrev pub IsOf : Birth → Type 0
  IsOf = IsOfReserve h.before

  pub each-of : (k : ℕ) → k < length g.reserves → AllByRecursion IsOf (own_births h k)
  each-of k lt = are-of-reserves h.before [] _ (each-sound h k lt)

  pub all-of : AllByRecursion IsOf all
  all-of = are-of-reserves h.before [] all (all-sound h)

  -- the node grows, a reserve holds it, or neither
  pub data Standing (n : ℕ) : Type 0 where
    growing : (k : ℕ) → k < length g.reserves → (r_at h.before k).node ≡ n → Standing n
    held : (k : ℕ) → k < length g.reserves → holds_node n (r_at h.before k) ≡ true → Standing n
    alone : ((k : ℕ) → k < length g.reserves → ((r_at h.before k).node ≢ n)
        × (holds_node n (r_at h.before k) ≡ false)) → Standing n

  -- each node grows, is held or is alone
  pub standing : (n : ℕ) → Standing n
  standing n = elim (which (λ (r : Reserve). r.node == n) g.reserves) [
    | inl p ↦ growing p.0 p.1 (eqb-true _ _ p.2)
    | inr other ↦ elim (which (holds_node n) g.reserves) [
      | inl p ↦ held p.0 p.1 p.2
      | inr out ↦ alone (λ k lt. ((λ e. both_ways _ (other k lt) (eq-eqb _ _ e)), out k lt))
    ]
  ]

  -- the node of a reserve is in none
  pub grower-out : (n k : ℕ) → k < length g.reserves → (r_at h.before k).node ≡ n → (j : ℕ)
      → j < length g.reserves → holds_node n (r_at h.before j) ≡ false
  grower-out n k lt is j lj = grind (arith, r_at, is, grower-unheld)

  -- ---- a node that a reserve holds

  module _ (m k : ℕ) (lt : k < length g.reserves)
      (here : holds_node m (r_at h.before k) ≡ true) where
    abbrev grower : ℕ
    grower = (r_at h.before k).node

    abbrev own : List Birth
    own = own_births h k

    below : m < length g.boxes
    below = held-below h.before m k lt here

    -- what a node knows that a reserve holds
    pub held-by : IsHeldBy g nodes m (r_at h.before k)
    held-by = (h.each m below).held k lt here

    leaves : IsBoxLeft (nodes m).stopped (nodes m).births m (box_at g.boxes m) (nodes m).box
    leaves = (h.each m below).leaves

    blank : (box_at g.boxes m).spec ≡ None
    blank = held-blank h.before m k lt here

    -- an unborn one is no place
    unborn-free : (nodes m).box.spec ≡ None → is_place own m ≡ false
    unborn-free none = false_from_ne_true _ (λ on. let x = grows-by h k lt in
        let one = is-counted (λ (b : Blank). b.node == m) (nodes grower).reserve.left.blanks
        (held-by.unborn none) in
        let left = ap (λ (r : ReserveForm). node_count r.left.blanks m) x.stands.reserve_is in
        let off = (blanks-left (births_of grower own) (reserve_before g grower).left.blanks m).1 (rw
        x.own on) in absurd (omega (arith, one, left, off)))

    place-born : WasBorn (nodes m).births m (box_at g.boxes m) (nodes m).box
        → is_place (nodes m).births m ≡ true
    place-born w = is-place-at (nodes m).births w.number w.birth m w.among (list_any_at (λ (j : ℕ).
        j == m) w.birth.places w.place 0 w.in_range (eq-eqb _ _ w.at_place))

    pub own-split : own ≡ (nodes m).births ++ held-by.first.later
    own-split = held-by.first.all

    place-split : is_place own m ≡ (is_place (nodes m).births m || is_place held-by.first.later m)
    place-split = ap (λ l. is_place l m) own-split
        ∙ place-append (nodes m).births held-by.first.later m

    -- it was born where a birth took it, and is as it was elsewhere
    pub was-born : is_place own m ≡ true
        → WasBorn (nodes m).births m (box_at g.boxes m) (nodes m).box
    was-born on = ⊎_elim (λ same. absurd (both_ways _ (unborn-free (ap (λ (p : BoxPicture). p.spec)
        same ∙ blank)) on)) (λ w. w) (leaves.unborn blank)

    -- one that no birth took is as it was
    pub as-before : is_place own m ≡ false → (nodes m).box ≡ box_at g.boxes m
    as-before off = ⊎_elim (λ same. same)
        (λ w. absurd (both_ways _ off (place-split ∙ rw (place-born w) refl))) (leaves.unborn blank)

    -- it is born exactly where a birth took it
    pub born-is : is_some (nodes m).box.spec ≡ is_place own m
    born-is = grind (arith, cases_Bool, was-born, as-before, blank)

    pub kind-is : (nodes m).box.kind ≡ (box_at g.boxes m).kind
    kind-is = elim (cases_Bool (is_place own m)) [
      | inl on ↦ let w = was-born on in w.stays.same.kind ∙ w.loads.kind
      | inr off ↦ ap (λ (p : BoxPicture). p.kind) (as-before off)
    ]

    pub own-once : AreOnce (all_places own)
    own-once = once-left h.before [] own tt (each-sound h k lt)
        (λ i j li lj e. absurd (omega (arith, li)))

    -- no birth that it doesn't know of took it
    later-free : is_place held-by.first.later m ≡ false
    later-free = elim (cases_Bool (is_place own m)) [
      | inl on ↦ place-once (nodes m).births held-by.first.later m
          (rw own-split at own-once) (place-born (was-born on))
      | inr off ↦ (or_parts _ _ (sym place-split ∙ off)).1
    ]

    -- no birth of another reserve did
    others-free : (j : ℕ) → j < length g.reserves → j ≢ k → is_place (own_births h j) m ≡ false
    others-free j lj ne = sym (place-own h.before k lt m here (own_births h j) (each-of j lj)) ∙ ap
        (λ l. is_place l m) (others-none h j lj grower (λ e. ne (node-once h.before j k lj lt e)))

    -- the births that touch it are among those that it knows of
    held-touching : filter (touches m) all ≡ filter (touches m) (nodes m).births
    held-touching = let later = held-by.first.later in
        one-passes (births_at h) (touches m) g.reserves k lt (λ j lj ne. untouched m (own_births h
        j) (no-births h.before m (held-other h.before m k lt here) (own_births h j) (each-of j lj))
        (others-free j lj ne)) ∙ ap (filter (touches m)) own-split ∙ filter-append (touches m)
        (nodes m).births later ∙ ap (λ l. filter (touches m) (nodes m).births ++ l) (untouched m
        later (no-births h.before m (held-other h.before m k lt here) later (all-behind IsOf (nodes
        m).births later (subst (AllByRecursion IsOf) own-split (each-of k lt)))) later-free) ∙
        append-nil (filter (touches m) (nodes m).births)
      where
        all-behind : {A : Type 0} (P : A → Type 0) (xs ys : List A) → AllByRecursion P (xs ++ ys)
            → AllByRecursion P ys
        all-behind P [] ys k = k
        all-behind P (x ∷ xs) ys k = all-behind P xs ys k.1

  -- ---- all nodes

  pub births-own : (k : ℕ) → k < length g.reserves
      → births_of (r_at h.before k).node all ≡ own_births h k
  births-own k lt = let n : ℕ = (r_at h.before k).node in
      one-passes (births_at h) (λ (b : Birth). b.expander == n) g.reserves k lt (λ j lj ne.
      others-none h j lj n (λ e. ne (node-once h.before j k lj lt e))) ∙ (grows-by h k lt).own

  pub place-is : (m k : ℕ) → k < length g.reserves → holds_node m (r_at h.before k) ≡ true
      → is_place all m ≡ is_place (own_births h k) m
  place-is m k lt here = sym (place-own h.before k lt m here all all-of)
      ∙ ap (λ l. is_place l m) (births-own k lt)

  -- all births that touch a node it knows of
  touching : (n : ℕ) → n < length g.boxes
      → filter (touches n) all ≡ filter (touches n) (nodes n).births
  touching n lb = elim (standing n) [
    | growing k lt is ↦ one-passes (births_at h) (touches n) g.reserves k lt (λ j lj ne. untouched n
        (own_births h j) (others-none h j lj n (λ e. ne (node-once h.before j k lj lt (e ∙ sym
        is)))) (no-place h.before n (grower-out n k lt is) (own_births h j) (each-of j lj))) ∙ ap (λ
        m. filter (touches n) (nodes m).births) is
    | held k lt here ↦ held-touching n k lt here
    | alone out ↦ none-passes (births_at h) (touches n) g.reserves (λ j lj. untouched n (own_births
        h j) (others-none h j lj n (out j lj).0) (no-place h.before n (λ i li. (out i li).1)
        (own_births h j) (each-of j lj))) ∙ ap (filter (touches n)) (sym ((h.each n lb).alone
        out).none)
  ]

  -- each node knows of its own births
  pub births-known : (n : ℕ) → n < length g.boxes → births_of n all ≡ births_of n (nodes n).births
  births-known n lb = sym (births-touching n all) ∙ ap (births_of n) (touching n lb)
      ∙ births-touching n (nodes n).births

  -- the births that a node knows of are births of reserves
  pub known-of : (n : ℕ) → n < length g.boxes → AllByRecursion IsOf (nodes n).births
  known-of n lb = elim (standing n) [
    | growing k lt is ↦ rw is at (each-of k lt)
    | held k lt here ↦ all-first IsOf (nodes n).births (held-by n k lt here).first.later
        (subst (AllByRecursion IsOf) (held-by n k lt here).first.all (each-of k lt))
    | alone out ↦ rw ((h.each n lb).alone out).none tt
  ]
    where
      all-first : {A : Type 0} (P : A → Type 0) (xs ys : List A) → AllByRecursion P (xs ++ ys)
          → AllByRecursion P xs
      all-first P [] ys k = tt
      all-first P (x ∷ xs) ys k = (k.0, all-first P xs ys k.1)

  -- so many wires of all births end or begin at a node as of those that it knows of
  pub wires-known : (n : ℕ) → n < length g.boxes → (input_count (grown_wires g.wires all) n ≡
      input_count (grown_wires g.wires (nodes n).births) n) × (output_count (grown_wires g.wires
      all) n ≡ output_count (grown_wires g.wires (nodes n).births) n)
  wires-known n lb = let a = counts-of h.before n (touches n) all (tested all all-of) in
      let b = counts-of h.before n (touches n) (nodes n).births (tested (nodes n).births (known-of n
      lb)) in let same = touching n lb in
      grind (arith, count_by-append, g.wires, a.0, b.0, a.1, b.1)
    where
      tested : (xs : List Birth) → AllByRecursion IsOf xs → AllByRecursion
          (λ (b : Birth). touches n b ≡ false → HasNone (born_wires b) n) xs
      tested [] k = tt
      tested (b ∷ xs) k = (
        λ off. birth-none h.before n b k.0 (λ e. both_ways _ (or_parts _ _ off).0 (eq-eqb b.expander
            n e)) (or_parts _ _ off).1,
        tested xs k.1,
      )

  -- ---- the grown graph

  pub graph-is : IsGraph (grown_ranks g.ranks all) (grown_wires g.wires all) []
  graph-is = graph-left h.before [] all tt (all-sound h) (rw append-nil record {
    so_far = record {
      few_nodes = h.before.graph.so_far.few_nodes;
      few_edges = let few = h.before.graph.so_far.few_edges in omega (arith, few);
      edges = h.before.graph.so_far.edges;
      inputs_once = h.before.graph.so_far.inputs_once;
      outputs_once = h.before.graph.so_far.outputs_once;
    };
    gapless = h.before.graph.gapless;
  }) (few-wires h)

  -- a node that no reserve holds is born
  pub born-still : (n : ℕ) → n < length g.boxes → ((k : ℕ) → k < length g.reserves
      → holds_node n (r_at h.before k) ≡ false) → IsBorn (nodes n).box
  born-still n lb out = grind (arith, unheld-born h.before n lb out, h.before, h.each)

  -- a node stands among the wires of the births that it knows of
  pub stands-from : (n : ℕ) → n < length g.boxes → (first : ℕ) × StandsFrom g nodes n first
  stands-from n lb = elim (standing n) [
    | growing k lt is ↦ ((r_at h.before k).first_edge, ((h.each n lb).grows k lt is).stands)
    | held k lt here ↦ ((r_at h.before k).first_edge, (held-by n k lt here).stands)
    | alone out ↦ (0, ((h.each n lb).alone out).stands)
  ]

  -- the reserve of a node that grows, if it has one
  pub grower-or-not : (n : ℕ) → ((k : ℕ) × (k < length g.reserves) × ((r_at h.before k).node ≡ n)) ⊎
      ((k : ℕ) → k < length g.reserves → (r_at h.before k).node ≢ n)
  grower-or-not n = elim (standing n) [
    | growing k lt is ↦ inl (k, lt, is)
    | held k lt here ↦ inr (held-other h.before n k lt here)
    | alone out ↦ inr (λ k lt. (out k lt).0)
  ]
