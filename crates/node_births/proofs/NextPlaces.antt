-- The places of the next birth: nodes of the reserve that no earlier birth took, each once.
use Rattle.node_births.proofs.Imports.{AreOnce, Birth, Blank, IsNextBirth, List, Reserve, ReserveForm, Sizes, arith, both_ways, false, get_or, holds_node, is_place, length, reserve_at, subst, true, ℕ, ◌<◌, ◌==◌, ◌≡◌, ◌≢◌}
use Rattle.node_births.proofs.BirthWires.{is-at}
use Rattle.node_births.proofs.BlankPlaces.{counted, counted-once}
use Rattle.node_births.proofs.ReserveLaws.{not-held}
use Rattle.node_births.proofs.SoundBirths.{blanks-left, free-place, place-left, places-left}

module _ {z : Sizes} {k n : ℕ} {named : ReserveForm} {births : List Birth} {b : Birth}
    (h : IsNextBirth z k n named births b) where
  abbrev pub r : Reserve
  r = reserve_at z.reserves k

  abbrev place : ℕ → ℕ
  place j = get_or b.places j 0

  -- no two places are one
  pub places-once : AreOnce b.places
  places-once = counted-once b.places (λ m. let x = places-left h.next m in
      let y = (blanks-left births named.left.blanks m).0 in
      let o = h.reserve.once m in omega (arith, x, y, o))

  -- the reserve holds each
  pub place-held : (j : ℕ) → j < length b.places → holds_node (place j) r ≡ true
  place-held j lt = h.reserve.held (place j) (counted (λ (x : Blank). x.node == place j)
      named.left.blanks (let one = place-left h.next (place j) (is-at b.places j lt) in
      let y = (blanks-left births named.left.blanks (place j)).0 in omega (arith, one, y)))

  -- no earlier birth took it
  pub place-free : (j : ℕ) → j < length b.places → is_place births (place j) ≡ false
  place-free j lt = free-place h.next (place j) (is-at b.places j lt)

  -- the reserve doesn't hold its own node, which so is no place
  pub node-unheld : holds_node n r ≡ false
  node-unheld = rw h.node at (not-held z.reserves r.node k h.in_range (h.fit.growing k
      h.in_range).unreserved)

  pub place-other : (j : ℕ) → j < length b.places → place j ≢ n
  place-other j lt is = both_ways _ node-unheld
      (subst (λ m. holds_node m r ≡ true) is (place-held j lt))

  pub node-below : n < z.nodes
  node-below = subst (λ m. m < z.nodes) h.node (h.fit.growing k h.in_range).in_range
