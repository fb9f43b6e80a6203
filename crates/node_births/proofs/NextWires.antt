-- The wires of a node's next birth: the table's next edges of the reserve may get them.
use Rattle.node_births.proofs.Imports.{AreReservedWires, Birth, IsNextBirth, List, ReserveForm, Sizes, [], arith, born_wires, false, holds_node, length, refl, reserve_after, reserved_edges, subst, sym, ℕ, ◌+◌, ◌<◌, ◌∙◌, ◌≡◌, ◌≤◌}
use Rattle.node_births.proofs.NextPlaces.{node-below, node-unheld, place-held, places-once, r}
use Rattle.node_births.proofs.OwnSound.{edges-within}
use Rattle.node_births.proofs.ReservedWires.{reserved-wires}
use Rattle.node_births.proofs.SoundBirths.{ends-right, flawless}

module _ {z : Sizes} {k n : ℕ} {named : ReserveForm} {births : List Birth} {b : Birth}
    (h : IsNextBirth z k n named births b) where
  abbrev next : ℕ
  next = (reserve_after named births).next_edge

  -- the reserve has edges enough from the next one on
  pub edges-enough : ((r h).first_edge ≤ next)
      × (next + length b.growth.edges ≤ (r h).first_edge + (r h).edges)
  edges-enough = let few = (flawless h.next).few_edges in
      let before = edges-within z.wires n named [] births h.earlier (omega arith) in
      grind (arith, h.reserve.next_edge)

  -- as many as the birth has are left, and all that are left have numbers in the table
  pub edges-left : let left : ℕ = (reserve_after named births).left.edges in
      (length b.growth.edges ≤ left)
      × (next + left ≤ length z.wires + reserved_edges z.reserves)
  edges-left = let before = edges-within z.wires n named [] births h.earlier (omega arith) in
      let first = h.reserve.next_edge in grind (arith, h.fit.edges_within, h.in_range, h.next)

  -- they may get the wires
  pub next-wires : AreReservedWires z next (born_wires b)
  next-wires = rw (h.node ∙ sym h.next.expander) at (reserved-wires (r h) z.nodes (length b.places)
      named.rank b.growth.ranks b.places record {
        grows = subst (λ m. m < z.nodes) (sym h.node) (node-below h);
        outside = subst (λ m. holds_node m (r h) ≡ false) (sym h.node) (node-unheld h);
        within = h.fit.nodes_within k h.in_range;
        held = place-held h;
        once = places-once h;
      } z k refl h.in_range refl next b.growth.edges record {
        ends = ends-right h.next;
        ranked = (flawless h.next).ranked;
        small = (flawless h.next).small;
      } edges-enough.0 edges-enough.1)
