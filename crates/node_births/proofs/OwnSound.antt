-- The births of all reserves are births without a flaw, in order.
use Rattle.node_births.proofs.Imports.{AreNodesLeft, AreSoundBirths, Birth, Bool, BoxPicture, GraphBefore, GrowsBy, List, NodeLeft, Reserve, ReserveForm, Wire, [], all_births, ap, append-nil, append_assoc, arith, births_of, born_edges, born_wires, cases_eq, eq-eqb, filter, filter-append, flat_map, flat_map-append, get_or-append_seam, get_or_append_left, grown_wires, length, length-append, length-map, ne_eqb, new_wire, no_reserve, refl, reserve_at, reserve_before, reserved_edges, suc, sum_by-append, sum_by-cons, sym, zero, ℕ, ◌++◌, ◌<◌, ◌==◌, ◌∙◌, ◌∷◌, ◌≡◌, ◌≢◌, ◌≤◌}
use Rattle.node_births.proofs.ReserveLaws.{r_at, reserve-of}
use Rattle.node_births.proofs.SoundBirths.{AreSoundAfter, no-flaw, sound-both, sound-own}

-- ---- one piece of many

module _ {A : Type 0} (f : Reserve → List A) (test : A → Bool) where
  -- of the pieces none passes
  pub none-passes : (rs : List Reserve) → ((j : ℕ) → j < length rs
      → filter test (f (reserve_at rs j)) ≡ []) → filter test (flat_map f rs) ≡ []
  unfolding reserve_at
  none-passes [] h = refl
  none-passes (r ∷ rs) h = filter-append test (f r) (flat_map f rs)
      ∙ rw (h 0 (omega arith), none-passes rs (λ j lt. h (suc j) (omega (arith, lt)))) refl

  -- those of one piece alone may pass
  pub one-passes : (rs : List Reserve) (k : ℕ) → k < length rs → ((j : ℕ) → j < length rs → j ≢ k
      → filter test (f (reserve_at rs j)) ≡ [])
      → filter test (flat_map f rs) ≡ filter test (f (reserve_at rs k))
  unfolding reserve_at
  one-passes [] k lt h = absurd (omega (arith, lt))
  one-passes (r ∷ rs) zero lt h = filter-append test (f r) (flat_map f rs)
      ∙ ap (λ l. filter test (f r) ++ l) (none-passes rs (λ j lj. h (suc j) (omega (arith, lj))
      (λ e. absurd (omega (arith, e))))) ∙ append-nil _
  one-passes (r ∷ rs) (suc k) lt h = filter-append test (f r) (flat_map f rs) ∙ rw (h 0 (omega
      arith) (λ e. absurd (omega (arith, e)))) (one-passes rs k (omega (arith, lt)) (λ j lj ne. h
      (suc j) (omega (arith, lj)) (λ e. ne (omega (arith, e)))))

pub births-apart : (m n : ℕ) → m ≢ n → (births : List Birth) → births_of n (births_of m births) ≡ []
births-apart m n ne [] = refl
births-apart m n ne (b ∷ births) =
    grind (arith, cases_eq, eq-eqb, ne_eqb, births-apart m n ne births)

pub wires-count : (births : List Birth) → length (flat_map born_wires births) ≡ born_edges births
wires-count [] = refl
wires-count (b ∷ births) = let all = length-append (born_wires b) (flat_map born_wires births) in
    let own = length-map b.growth.edges (new_wire b.expander b.places) in
    let rest = wires-count births in
    let sum = sum_by-cons (λ (x : Birth). length x.growth.edges) b births in
    omega (arith, all, own, rest, sum)

-- births of one node have as many edges at most as are left
pub edges-within : (wires : List Wire) (n : ℕ) (r : ReserveForm) (own births : List Birth)
    → AreSoundBirths wires n r own births → born_edges own ≤ r.left.edges
    → born_edges (own ++ births) ≤ r.left.edges
edges-within wires n r own [] h few = rw append-nil few
edges-within wires n r own (b ∷ births) h few =
    let one = (no-flaw _ _ _ _ n b.growth h.0.none).few_edges in
    let sum = sum_by-append (λ (x : Birth). length x.growth.edges) own (b ∷ []) in
    let last = sum_by-cons (λ (x : Birth). length x.growth.edges) b [] in
    rw (sym (append_assoc own (b ∷ []) births)) (edges-within wires n r (own ++ b ∷ []) births h.1
    (omega (arith, few, one, sum, last)))

module _ {g : GraphBefore} {nodes : ℕ → NodeLeft} {after : List BoxPicture}
    (h : AreNodesLeft g nodes after) where
  abbrev pub births_at : Reserve → List Birth
  births_at r = (nodes r.node).births

  abbrev pub own_births : ℕ → List Birth
  own_births k = births_at (r_at h.before k)

  pub grower-below : (k : ℕ) → k < length g.reserves → (r_at h.before k).node < length g.boxes
  grower-below k lt = rw h.before.one_each (h.before.fit.growing k lt).in_range

  -- what the node of a reserve knows
  pub grows-by : (k : ℕ) → k < length g.reserves
      → GrowsBy g nodes (r_at h.before k).node (r_at h.before k)
  grows-by k lt = (h.each _ (grower-below k lt)).grows k lt refl

  own-sound : (k : ℕ) → k < length g.reserves → let n : ℕ = (r_at h.before k).node in
      AreSoundBirths g.wires n (reserve_before g n) [] (own_births k)
  own-sound k lt = let x = grows-by k lt in rw x.own at x.stands.sound

  -- another node has none of them
  pub others-none : (j : ℕ) → j < length g.reserves → (n : ℕ) → (r_at h.before j).node ≢ n
      → births_of n (own_births j) ≡ []
  others-none j lt n ne = grind (arith, grows-by, births-apart, r_at, own_births)

  own-few : (k : ℕ) → k < length g.reserves
      → length (flat_map born_wires (own_births k)) ≤ (r_at h.before k).edges
  own-few k lt = grind (arith, r_at, edges-within, own_births, own-sound, reserve-of, wires-count)

  all-few : (rs : List Reserve) → ((k : ℕ) → k < length rs
      → length (flat_map born_wires (births_at (reserve_at rs k))) ≤ (reserve_at rs k).edges)
      → length (flat_map born_wires (flat_map births_at rs)) ≤ reserved_edges rs
  unfolding reserve_at
  all-few [] k = omega arith
  all-few (r ∷ rs) k = let rest = all-few rs (λ j lt. k (suc j) (omega (arith, lt))) in
      let one = k 0 (omega arith) in
      let split = flat_map-append born_wires (births_at r) (flat_map births_at rs) in
      let len = length-append (flat_map born_wires (births_at r)) (flat_map born_wires (flat_map
      births_at rs)) in let sum = sum_by-cons (λ (x : Reserve). x.edges) r rs in
      omega (arith, rest, one, ap length split, len, sum)

  -- no more edges are wired than the reserves have
  pub few-wires : length (grown_wires g.wires (all_births g nodes)) ≤ 1024
  few-wires = let few = all-few g.reserves own-few in let room = h.before.graph.so_far.few_edges in
      grind (arith, length-append g.wires (flat_map born_wires (all_births g nodes)), g.wires)

  sound-from : (rs : List Reserve) (pre : List Reserve) → g.reserves ≡ pre ++ rs
      → AreSoundAfter h.before (flat_map births_at pre) (flat_map births_at rs)
  unfolding reserve_at
  sound-from [] pre split = tt
  sound-from (r ∷ rs) pre split = let k : ℕ = length pre in
      let lt : k < length g.reserves = (omega (arith, length-append pre (r ∷ rs), ap length split))
      in let here : r_at h.before k ≡ r = rw split (get_or-append_seam pre r rs no_reserve) in
      let earlier : births_of r.node (flat_map births_at pre) ≡ [] = none-passes births_at (λ (b :
      Birth). b.expander == r.node) pre (λ j lj.
      let less : j < length g.reserves = omega (arith, lj, lt) in
      let same : r_at h.before j ≡ reserve_at pre j = rw split (get_or_append_left pre (r ∷ rs)
      no_reserve j lj) in
      rw same at (others-none j less r.node (λ e. (h.before.fit.apart j k lj lt).growing (e ∙ ap (λ
      (q : Reserve). q.node) (sym here))))) in
      sound-both h.before (flat_map births_at pre) (births_at r) (flat_map births_at rs) (rw here at
      (sound-own h.before k lt [] (own_births k) (flat_map births_at pre) (rw here earlier)
      (own-sound k lt))) (rw (flat_map-append births_at pre (r ∷ []), append-nil) at (sound-from rs
      (pre ++ r ∷ []) (split ∙ sym (append_assoc pre (r ∷ []) rs))))

  -- the births of all reserves, one after another
  pub all-sound : AreSoundAfter h.before [] (all_births g nodes)
  all-sound = sound-from g.reserves [] refl

  -- those of one reserve are so by themselves
  pub each-sound : (k : ℕ) → k < length g.reserves → AreSoundAfter h.before [] (own_births k)
  each-sound k lt = sound-own h.before k lt [] (own_births k) [] refl (own-sound k lt)
