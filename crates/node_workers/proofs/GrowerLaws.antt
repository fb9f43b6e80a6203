-- The cell of a node that grows: what it tells after each step of that.
use Rattle.node_workers.proofs.Imports.{AreNamedReserves, AreReservedWires, BoxPicture, CellFits, CellKnows, CellNote, EndsNote, FlawlessGrowth, GetsPorts, GrowthNote, HasWires, Identity, IsAsked, IsBoxLeft, IsFlawless, IsNextStep, IsNoteFor, IsSeatOf, List, LosesGrowth, Memory, Names, NodeCell, NodeMark, NodeReserve, None, NotedGrowth, NotedStep, Own, Sizes, Some, StandsAmong, Wire, [], ap, arith, as-many, asked-to-grow, birth_in, births_by, births_in, births_now, born_wires, cell_ports, drop, drop-append_seam, false, first_edge_in, growth_form, left-both, left-grown, length, length-append, length-map, loses-birth, new_edge, new_wire, new_wires, next-wires, none-some, not-blank, noted, noted-more, noted-next, noted-own, own_flaw, own_wires_in, refl, reserve_after, reserve_at, reserve_form, reserve_in, stands-grown, step_after, subst, sym, true, view, wires_known, ℕ, ◌-◌, ◌∙◌, ◌∷◌, ◌≡◌, ◌≤◌}
use Rattle.node_workers.proofs.NewNodeLaws.{lost-box}

-- ---- the growth

module _ {x : Names} {g : NotedStep} {wires : List Wire} {first : ℕ}
    (h : HasWires x g wires first) where
  -- the edges of the growth may get its wires
  pub wires-in : {t : Identity} → t ≡ x.identity → AreReservedWires t.sizes first wires
  wires-in same = rw (same, h.first_is, h.wires_are) (next-wires h.next)

  -- each new node has a place
  pub as-many-places : length g.noted.places.items ≡ length g.noted.growth.nodes
  as-many-places = as-many h.next.next ∙ length-map g.noted.growth.nodes _

module _ {P : Type 0} {seen : P → BoxPicture} {t : Identity} {c a : NodeCell P}
    {r : FlawlessGrowth} (h : IsFlawless seen t c a r) where
  abbrev more : List Wire
  more = new_wires a.seat.node r.noted.places.items r.noted.growth.edges

  count : length more ≡ length r.noted.growth.edges
  count = length-map r.noted.growth.edges (new_wire a.seat.node r.noted.places.items)

  pub enough-wires : length r.noted.growth.edges ≤ length r.wires
  enough-wires = omega (arith, ap length h.wires ∙ length-append (wires_known a) more, count)

  pub own-wires-are : own_wires_in r ≡ more
  own-wires-are = let past : length r.wires - length r.noted.growth.edges ≡ length (wires_known a) =
      omega (arith, ap length h.wires ∙ length-append (wires_known a) more, count) in
      ap (λ k. drop k r.wires) past ∙ ap (λ l. drop (length (wires_known a)) l) h.wires
      ∙ drop-append_seam (wires_known a) more

-- ---- memory was wanting before the growth was noted

pub lost-asked : {P : Type 0} {seen : P → BoxPicture} {x : Names} {n : ℕ} {r : FlawlessGrowth}
    {a : NodeCell P} {own : CellNote} → IsAsked x seen n r a own
    → CellFits x seen n a (Some Memory) own
lost-asked {P} {seen} {x} {n} {r} {a} {own} h = record {
  seat = h.flawless.growing.seat;
  number = ap (λ (d : NodeCell P). d.seat.node) h.flawless.same ∙ h.fits.number;
  note = h.fits.note;
  stands = λ ne. absurd (ne refl);
  box = left-both (Some Memory) _ n (x.node n).box (seen h.stored.processor) (seen a.processor)
      h.flawless.stays tt (λ none. absurd (not-blank (seen h.stored.processor).spec
      h.at_work.holds.cell.node.box.running.loaded none)) h.fits.box;
  lies = h.flawless.growing.seat;
}

-- ---- after the node was asked

module _ {P : Type 0} {seen : P → BoxPicture} {x : Names} {n : ℕ} {r : FlawlessGrowth}
    {a : NodeCell P} {y : GrowthNote NotedGrowth} (h : IsAsked x seen n r a (Own y))
    (reserves : AreNamedReserves x.identity.sizes x.node) where
  abbrev z : Sizes
  z = x.identity.sizes

  abbrev c : NodeCell P
  c = h.stored

  abbrev m : ℕ
  m = (reserve_at z.reserves y.reserve).node

  abbrev step : NotedStep
  step = step_after y r.noted

  is-own : m ≡ n
  is-own = h.fits.note.2

  mine : CellFits x seen m c None (Own y)
  mine = rw is-own h.fits

  stood : StandsAmong z.wires (reserve_in z step).first_edge (births_by m (noted y)) m
      (x.node m).reserve (cell_ports c) (reserve_form c.reserve) (seen c.processor)
  stood = mine.stands (none-some Memory)

  pub same-reserve : reserve_form a.reserve
      ≡ reserve_after (x.node m).reserve (births_by m (noted y))
  same-reserve = ap (λ (d : NodeCell P). reserve_form d.reserve) h.flawless.same
      ∙ stood.reserve_is ∙ ap (reserve_after (x.node m).reserve) (noted-own m (noted y))

  -- its growth is the next one
  is-next : IsNextStep x step
  is-next = noted-next z y.reserve m (reserve_at z.reserves y.reserve).first_edge (x.node m).reserve
      (births_by m (noted y)) c (seen c.processor) r.noted h.fits.note.1 refl reserves.fit
      (reserves.each y.reserve h.fits.note.1) (noted-own m (noted y)) mine.number stood
      h.at_work.holds.cell.node.ports h.at_work.holds.cell.node.box.running.loaded (subst (λ (d :
      NodeCell P). own_flaw d (growth_form r.noted.growth) ≡ None) h.flawless.same h.flawless.none)
      (rw h.flawless.same at h.flawless.places)

  at-node : a.seat.node ≡ m
  at-node = ap (λ (d : NodeCell P). d.seat.node) h.flawless.same ∙ mine.number

  pub asked-wires : {wires : List Wire} → wires ≡ own_wires_in r
      → HasWires x step wires a.reserve.next_edge
  asked-wires is = grind (arith, is-next, own-wires-are h.flawless, at-node, same-reserve)

  -- ---- after the growth was noted

  module _ {w : GrowthNote NotedGrowth} (of : w.seat.table_id ≡ x.notes)
      (ends : EndsNote step w) where
    abbrev own : CellNote
    own = Own w

    births : births_in z.reserves own ≡ births_now z step
    births = (λ j. births_by (reserve_at z.reserves (ends.reserve_is j)).node (ends.noted_is j))
        ∙ noted-more m (noted y) r.noted

    first : first_edge_in z.reserves own ≡ (reserve_in z step).first_edge
    first = ap (λ i. (reserve_at z.reserves i).first_edge) ends.reserve_is

    note-for : IsNoteFor x.notes z.reserves m own
    note-for = (of, rw ends.reserve_is mine.note.1, rw ends.reserve_is refl)

    box : IsBoxLeft None (births_now z step) m (x.node m).box (seen a.processor)
    box = left-grown is-next (x.node m).box (seen c.processor) (seen a.processor)
        (reserves.born y.reserve h.fits.note.1) mine.box
        (asked-to-grow seen x.identity c h.at_work) h.flawless.growing.grew h.flawless.stays

    -- memory was wanting for its ports
    pub lost-own : (d : NodeCell P) → IsSeatOf x.identity d.seat
        → (view d.seat).number ≡ (view a.seat).number → d.processor ≡ a.processor
        → CellFits x seen n d (Some Memory) own
    lost-own d seat number same = subst (λ i. CellFits x seen i d (Some Memory) own) is-own record {
      seat = seat;
      number = seat.number ∙ (number ∙ (sym h.flawless.growing.seat.number ∙ at-node));
      note = note-for;
      stands = λ ne. absurd (ne refl);
      box = lost-box (rw (← births, ← same) at box);
      lies = seat;
    }

    -- it got its outputs, and then its inputs, and its reserve is what is left of that
    module _ {b d : NodeCell P}
        (out : GetsPorts seen x.identity false (new_edge x step) (born_wires (birth_in z step)) a b)
        (into : GetsPorts seen x.identity true (new_edge x step) (born_wires (birth_in z step)) b d)
        (processor : d.processor ≡ a.processor) (reserve : d.reserve ≡ a.reserve)
        (left : NodeReserve)
        (loses : LosesGrowth r.noted.places.items (length r.noted.growth.edges) d.reserve left)
        (k : NodeMark) where
      left-of-reserve : reserve_form left ≡ reserve_after (reserve_form c.reserve)
          (birth_in z step ∷ [])
      left-of-reserve =
          grind (arith, loses-birth (birth_in z step) d.reserve left loses, h.flawless.same)

      stands : StandsAmong z.wires (reserve_in z step).first_edge (births_now z step) m
          (x.node m).reserve (cell_ports d) (reserve_form left) (seen d.processor)
      stands = subst (λ s. StandsAmong z.wires (reserve_in z step).first_edge (births_now z step) m
          (x.node m).reserve (cell_ports d) s (seen d.processor)) (sym left-of-reserve)
          (stands-grown is-next (cell_ports c) (cell_ports b) (cell_ports d) (reserve_form
          c.reserve) (seen c.processor) (seen d.processor) stood
          h.at_work.holds.cell.node.box.running.loaded (rw h.flawless.same at out.gains) into.gains)

      pub knows-own : CellKnows x seen n (record d { mark = k; reserve = left }) own
      knows-own = let growing = into.grows _ c (out.grows _ c h.flawless.growing) in
          subst (λ i. CellKnows x seen i (record d { mark = k; reserve = left }) own) is-own
          record {
            seat = growing.seat;
            number = growing.seat.number ∙ stands.number;
            note = note-for;
            stands = rw (first, births) stands;
            box = rw (births, processor) box;
          }
