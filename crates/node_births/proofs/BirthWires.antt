-- The wires of births join the nodes that grew and the places of their new nodes alone.
use Rattle.node_births.proofs.Imports.{AllByRecursion, AreAll, ArePeers, Birth, Bool, GraphBefore, GrowthForm, Input, IsGraph, IsGraphBefore, Left, List, Me, New, NewEdge, Output, Who, Wire, [], and_parts, arith, births_of, born_wires, both_ways, cases_Bool, count_by-append, edge-of, end_node, eq-eqb, false, false_from_ne_true, filter, flat_map, flaw-over-own, flaw_over, form_kind, get_or, grown_ranks, grown_wires, has_input, has_output, has_wrong_end, holds_node, input_count, is_named, is_place, length, list_any, list_any_at, ltb-true, map, ne_eqb, new_wire, new_wires, no_wire, not-false, or_parts, output_count, own-take-same, own-take-same-of-none, own_wires, places_for, rank_at, refl, set_ranks, set_ranks-length, set_ranks-other, suc, sym, true, wire_at, ℕ, ◌++◌, ◌<◌, ◌==◌, ◌∙◌, ◌∷◌, ◌≡◌, ◌≢◌}
use Rattle.node_births.proofs.BlankPlaces.{count-no, is-counted}
use Rattle.node_births.proofs.ReserveLaws.{grower-unheld, none-at, r_at}
use Rattle.node_births.proofs.SoundBirths.{IsOfReserve, place-cons}

-- ---- places and ranks

pub avoids : (places : List ℕ) (m : ℕ) → list_any (λ (k : ℕ). k == m) places ≡ false
    → (k : ℕ) → k < length places → get_or places k 0 ≢ m
avoids places m off k lt e = grind (arith, both_ways, list_any_at, eq-eqb)

-- each place is found
pub is-at : (places : List ℕ) (k : ℕ) → k < length places
    → list_any (λ (j : ℕ). j == get_or places k 0) places ≡ true
is-at places k lt = list_any_at (λ (j : ℕ). j == get_or places k 0) places k 0 lt (eq-eqb _ _ refl)

-- a node that was no place has its rank
pub ranks-kept : (ranks : List ℕ) (births : List Birth) (n : ℕ) → is_place births n ≡ false
    → rank_at (grown_ranks ranks births) n ≡ rank_at ranks n
ranks-kept ranks [] n off = refl
ranks-kept ranks (b ∷ births) n off =
    let parts = or_parts _ _ (sym (place-cons b births n) ∙ off) in
    ranks-kept (set_ranks ranks b.places b.growth.ranks) births n parts.1
    ∙ set_ranks-other ranks b.places b.growth.ranks n (avoids b.places n parts.0)

pub ranks-length : (ranks : List ℕ) (births : List Birth)
    → length (grown_ranks ranks births) ≡ length ranks
ranks-length ranks [] = refl
ranks-length ranks (b ∷ births) = ranks-length (set_ranks ranks b.places b.growth.ranks) births
    ∙ set_ranks-length ranks b.places b.growth.ranks

-- ---- wires at a node

abbrev pub HasNone : List Wire → ℕ → Type 0
HasNone wires m = (input_count wires m ≡ 0) × (output_count wires m ≡ 0)

pub none-both : (a b : List Wire) (m : ℕ) → HasNone a m → HasNone b m → HasNone (a ++ b) m
none-both a b m h k = grind (arith, count_by-append)

-- none of the wires ends or begins there
pub none-ends : (wires : List Wire) (m : ℕ) → HasNone wires m → (e : ℕ) → e < length wires
    → ((wire_at wires e).from ≢ m) × ((wire_at wires e).to ≢ m)
unfolding wire_at
none-ends wires m h e lt = grind (arith, is-counted, list_any_at, no_wire, eq-eqb)

none-taken : (wires : List Wire) (m : ℕ) → HasNone wires m → (k : ℕ)
    → (has_input wires m k ≡ false) × (has_output wires m k ≡ false)
none-taken wires m h k = (
  false_from_ne_true _ (λ on. let e = edge-of (λ w. w.to) (λ w. w.input) wires m k on in
      (none-ends wires m h e.0 e.1).1 e.2),
  false_from_ne_true _ (λ on. let e = edge-of (λ w. w.from) (λ w. w.out) wires m k on in
      (none-ends wires m h e.0 e.1).0 e.2),
)

module _ (n : ℕ) (places : List ℕ) (m : ℕ) (ne : n ≢ m)
    (off : list_any (λ (k : ℕ). k == m) places ≡ false) where
  end-other : (w : Who) → is_named (length places) w ≡ true → (end_node n places w == m) ≡ false
  end-other Me h = ne_eqb n m ne
  end-other (New k) h = ne_eqb _ m (avoids places m off k (ltb-true k (length places) h))

  -- a growth of another node has no wire at a node that it didn't take
  pub new-none : (edges : List NewEdge) → list_any (has_wrong_end (length places)) edges ≡ false
      → HasNone (new_wires n places edges) m
  new-none [] h = (refl, refl)
  new-none (e ∷ edges) h =
      let named = and_parts _ _ (not-false _ (or_parts _ _ (or_parts _ _ h).0).0) in
      let rest = new-none edges (or_parts _ _ h).1 in (
        grind (arith, count-no, end-other, e.to.who, named.1, rest.0),
        count-no (λ (w : Wire). w.from == m) (new_wire n places e) (new_wires n places edges)
            (end-other e.from.who named.0) ∙ rest.1,
      )

module _ {g : GraphBefore} (before : IsGraphBefore g) where
  -- no birth takes a node that no reserve holds
  pub no-place : (m : ℕ) → ((k : ℕ) → k < length g.reserves
      → holds_node m (r_at before k) ≡ false) → (births : List Birth)
      → AllByRecursion (IsOfReserve before) births → is_place births m ≡ false
  no-place m h [] all = refl
  no-place m h (b ∷ births) all = place-cons b births m ∙ rw (
    false_from_ne_true (list_any (λ (k : ℕ). k == m) b.places) (λ on.
        both_ways _ (h all.0.number all.0.in_range) (all.0.held m on)),
    no-place m h births all.1,
  ) refl

  -- a node that has no reserve has no births
  pub no-births : (m : ℕ) → ((k : ℕ) → k < length g.reserves → (r_at before k).node ≢ m) → (births :
      List Birth) → AllByRecursion (IsOfReserve before) births → births_of m births ≡ []
  no-births m other [] all = refl
  no-births m other (b ∷ births) all = rw (ne_eqb b.expander m (λ e.
      other all.0.number all.0.in_range (sym all.0.expander ∙ e))) (no-births m other births all.1)

  -- nor has one that a reserve holds
  pub held-other : (m k : ℕ) → k < length g.reserves → holds_node m (r_at before k) ≡ true
      → (j : ℕ) → j < length g.reserves → (r_at before j).node ≢ m
  held-other m k lt here j lj e = grind (arith, both_ways, grower-unheld, r_at)

  -- where births that fail a test have no wire at a node, the others have all
  pub counts-of : (m : ℕ) (test : Birth → Bool) (births : List Birth)
      → AllByRecursion (λ (b : Birth). test b ≡ false → HasNone (born_wires b) m) births
      → let some = flat_map born_wires (filter test births) in
      (input_count (flat_map born_wires births) m ≡ input_count some m)
      × (output_count (flat_map born_wires births) m ≡ output_count some m)
  counts-of m test [] h = (refl, refl)
  counts-of m test (b ∷ births) h = let rest = counts-of m test births h.1 in
      let ins = count_by-append (λ (w : Wire). w.to == m) (born_wires b) in
      let outs = count_by-append (λ (w : Wire). w.from == m) (born_wires b) in
      let all = flat_map born_wires births in
      grind (arith, cases_Bool (test b), rest.0, rest.1, h.0)

  -- a birth of another node has no wire at a node that it did not take
  pub birth-none : (m : ℕ) (b : Birth) → IsOfReserve before b → b.expander ≢ m
      → list_any (λ (k : ℕ). k == m) b.places ≡ false → HasNone (born_wires b) m
  birth-none m b of ne off = grind (arith, new-none)

  -- at a node that they didn't take births have the wires of its own ones
  counts-own : (m : ℕ) (births : List Birth) → AllByRecursion (IsOfReserve before) births
      → is_place births m ≡ false → let own = flat_map born_wires (births_of m births) in
      (input_count (flat_map born_wires births) m ≡ input_count own m)
      × (output_count (flat_map born_wires births) m ≡ output_count own m)
  counts-own m births all off =
      counts-of m (λ (b : Birth). b.expander == m) births (each births all off)
    where
      each : (xs : List Birth) → AllByRecursion (IsOfReserve before) xs → is_place xs m ≡ false
          → AllByRecursion (λ (b : Birth). (b.expander == m) ≡ false → HasNone (born_wires b) m) xs
      each [] all off = tt
      each (b ∷ xs) all off = let parts = or_parts _ _ (sym (place-cons b xs m) ∙ off) in (
        λ other. birth-none m b all.0 (λ e. both_ways _ other (eq-eqb b.expander m e)) parts.0,
        each xs all.1 parts.1,
      )

  -- at a node that no birth took are the wires of its own ones
  pub grown-own : (wires : List Wire) (m : ℕ) (births : List Birth) → AllByRecursion (IsOfReserve
      before) births → is_place births m ≡ false → (input_count (grown_wires wires births) m ≡
      input_count (grown_wires wires (births_of m births)) m) × (output_count (grown_wires wires
      births) m ≡ output_count (grown_wires wires (births_of m births)) m)
  grown-own wires m births all off = grind (arith, counts-own, all, count_by-append)

  -- where the graph has no wire, and no birth comes, there is none
  pub none-grown : (m : ℕ) → HasNone g.wires m → (births : List Birth)
      → AllByRecursion (IsOfReserve before) births → births_of m births ≡ []
      → is_place births m ≡ false → HasNone (grown_wires g.wires births) m
  none-grown m none births all own off = none-both g.wires (flat_map born_wires births) m none (rw
      own at (counts-own m births all off))

  -- a blank that they didn't take has none
  pub blank-none : (m k : ℕ) → k < length g.reserves → holds_node m (r_at before k) ≡ true
      → (births : List Birth) → AllByRecursion (IsOfReserve before) births
      → is_place births m ≡ false → HasNone (grown_wires g.wires births) m
  blank-none m k lt here births all off = none-grown m (none-at before m k lt here) births all
      (no-births m (held-other m k lt here) births all) off

-- ---- the flaw of a growth by the peers of its node

are-all : (P : ℕ → Type 0) (xs : List ℕ) → ((k : ℕ) → k < length xs → P (get_or xs k 0))
    → AreAll P xs
are-all P [] h = tt
are-all P (x ∷ xs) h = (h 0 (omega arith), are-all P xs (λ k lt. h (suc k) (omega (arith, lt))))

-- node m isn't n, and has no wire, neither of some nor of all
pub record IsUnwired (some all : List Wire) (n m : ℕ) : Type 0 where
  pub other : n ≢ m
  pub some_none : HasNone some m
  pub all_none : HasNone all m

module _ (ranks : List ℕ) (wires : List Wire) (graph : IsGraph ranks wires []) (some : List Wire) (n
    : ℕ) (sources targets : List ℕ) (peers : ArePeers some n sources targets) (ins : input_count
    wires n ≡ input_count some n) (outs : output_count wires n ≡ output_count some n) where
  others : AreAll (λ m. m ≢ n) sources × AreAll (λ m. m ≢ n) targets
  others = (
    are-all _ sources (λ k lt. (peers.each (Input k) lt).apart),
    are-all _ targets (λ k lt. (peers.each (Output k) lt).apart),
  )

  none-of : (m : ℕ) → HasNone some m → AreAll (λ x. x ≢ m) sources × AreAll (λ x. x ≢ m) targets
  none-of m none = (
    are-all _ sources (λ k lt e. let p = peers.each (Input k) lt in
        (none-ends some m none p.edge p.at_port.in_range).0 (sym p.is ∙ e)),
    are-all _ targets (λ k lt e. let p = peers.each (Output k) lt in
        (none-ends some m none p.edge p.at_port.in_range).1 (sym p.is ∙ e)),
  )

  -- Over all wires the growth has the flaw that it has by the peers, where its new nodes have no
  -- wires yet.
  pub flaw-by-peers : (rank past : ℕ) (left : Left) (growth : GrowthForm) → (let places : List ℕ =
      places_for (map form_kind growth.specs) left.blanks past in
      (k : ℕ) → k < length places → IsUnwired some wires n (get_or places k 0))
      → flaw_over rank past (own_wires n sources targets) left n growth
      ≡ flaw_over rank past wires left n growth
  flaw-by-peers rank past left growth unwired = flaw-over-own _ _ _ _ _ _ _ (own-take-same n sources
      targets ranks wires [] graph (peers.inputs ∙ sym ins) (peers.outputs ∙ sym outs) others.0
      others.1) (λ k lt. let u = unwired k lt in
      let m = get_or (places_for (map form_kind growth.specs) left.blanks past) k 0 in
      let none = none-of m u.some_none in
      own-take-same-of-none n sources targets wires m u.other none.0 none.1 (none-taken wires m
      u.all_none))
