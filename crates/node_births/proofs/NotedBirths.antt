-- The births of a node by its growths as they were noted, and the one by the growth that it notes
-- next.
use Rattle.node_births.proofs.Imports.{AreReserves, Birth, BoxPicture, GrowNode, IsBorn, IsNamedReserve, IsNextBirth, List, NodeCell, None, NotedGrowth, PortsHold, ReserveForm, Sizes, StandsAmong, [], ap, birth_of, births_by, births_of, cell_ports, eq-eqb, flaw_over, grown_kinds, growth_form, kinds-are, left_in, length, length-map, map-append, own_flaw, own_wires, places_for, refl, reserve_at, reserve_form, spec_form, subst, sym, ℕ, ◌++◌, ◌<◌, ◌∙◌, ◌∷◌, ◌≡◌}
use Rattle.node_births.proofs.NextStands.{birth_by, next-birth}

-- they are its own
pub noted-own : (n : ℕ) (growths : List NotedGrowth)
    → births_of n (births_by n growths) ≡ births_by n growths
noted-own n [] = refl
noted-own n (x ∷ growths) = rw (eq-eqb n n refl) (ap (λ l. birth_of n x ∷ l) (noted-own n growths))

-- one more is noted
pub noted-more : (n : ℕ) (growths : List NotedGrowth) (x : NotedGrowth)
    → births_by n (growths ++ x ∷ []) ≡ births_by n growths ++ birth_of n x ∷ []
noted-more n growths x = map-append (birth_of n) growths (x ∷ [])

module _ {P : Type 0} (z : Sizes) (k n first : ℕ) (named : ReserveForm) (births : List Birth)
    (c : NodeCell P) (box : BoxPicture) (x : NotedGrowth) (lt : k < length z.reserves)
    (node : (reserve_at z.reserves k).node ≡ n)
    (fit : AreReserves z.nodes (length z.wires) z.wires z.reserves)
    (of : IsNamedReserve z (reserve_at z.reserves k) named) (own : births_of n births ≡ births)
    (number : c.seat.node ≡ n) (stands : StandsAmong z.wires first births n named (cell_ports c)
    (reserve_form c.reserve) box) (ports : PortsHold (cell_ports c)) (born : IsBorn box)
    (none : own_flaw c (growth_form x.growth) ≡ None) (places : x.places.items
    ≡ places_for (grown_kinds x.growth.nodes) c.reserve.blanks.items c.reserve.nodes) where
  is-birth : birth_by n (reserve_form c.reserve) (growth_form x.growth) ≡ birth_of n x
  is-birth = ap (λ l. let b : Birth = record {
    expander = n;
    growth = growth_form x.growth;
    places = l;
  } in b) (ap (λ ks. places_for ks c.reserve.blanks.items c.reserve.nodes)
      (kinds-are x.growth.nodes) ∙ sym places)

  -- the growth has no flaw by what its node knows, and is noted next
  pub noted-next : IsNextBirth z k n named births (birth_of n x)
  noted-next = subst (IsNextBirth z k n named births) is-birth (next-birth _ _ _ _ _ _ _ _ box _ lt
      node fit of own stands ports born (length-map x.growth.nodes (λ (y : GrowNode). y.rank) ∙ sym
      (length-map x.growth.nodes (λ (y : GrowNode). spec_form y.spec))) (subst (λ m. flaw_over
      c.reserve.rank c.reserve.nodes (own_wires m c.ports.sources.items c.ports.targets.items)
      (left_in c.reserve) m (growth_form x.growth) ≡ None) number none))
