-- A new node's cell, from the shelf until the node is born.
use Rattle.node_workers.proofs.Imports.{AwaitsBirth, Bare, Birth, BoxPicture, CellFits, CellNote, Copied, GetsPorts, HasForm, HasNewOutputs, HasWires, Identity, IsBoxLeft, IsNewNode, IsNewborn, IsSeatOf, KnowsGrowth, LiesAs, List, Loads, MayGain, Memory, NamedCell, Names, NodeCell, NodeMark, NodeStatus, None, NoteCopy, NotedGrowth, NotedStep, Option, Picture, Sizes, Some, Spec, StandsAmong, StopCause, StoredAs, Unborn, Wire, [], ap, birth_in, births_by, births_now, born_wires, cell_ports, false, form_at, get_or, left-newborn, left-unborn, new_edge, none-some, noted-more, noted_in, place-held, refl, reserve_at, reserve_form, reserve_in, stands-still, stands-whole, subst, sym, true, view, ℕ, ◌++◌, ◌∙◌, ◌∷◌, ◌≡◌}

-- a node that waits for its birth may get ports
pub may-gain : {P : Type 0} {seen : P → BoxPicture} {t : Identity} {c : NodeCell P}
    → AwaitsBirth seen t c → MayGain (cell_ports c)
may-gain h = record { holds = h.ports; quiet = ap (λ (v : Picture). v.actions) h.new_view }

pub awaits : {P : Type 0} (seen : P → BoxPicture) (t : Identity) (c : NodeCell P)
    → c.mark.state ≡ Unborn → LiesAs seen t None c → AwaitsBirth seen t c
awaits seen t c unborn h = subst (λ (s : NodeStatus). StoredAs seen t s c) unborn h

-- one that has its outputs waits on
pub with-outputs : {P J : Type 0} {seen : P → BoxPicture} {x : Names} {g : NotedStep} {m : ℕ}
    {d : NamedCell P J} → HasNewOutputs x seen g m d → AwaitsBirth seen x.identity d.cell
with-outputs {P} {J} {seen} {x} h =
    h.got.awaits (awaits seen x.identity h.taken h.unborn h.fits.lies)

-- a box is left so also where memory was wanting
pub lost-box : {o : Option StopCause} {births : List Birth} {n : ℕ} {p q : BoxPicture}
    → IsBoxLeft o births n p q → IsBoxLeft (Some Memory) births n p q
lost-box h = record { born = h.born; unborn = h.unborn; growth = tt; may_grow = h.may_grow }

module _ {x : Names} {g : NotedStep} {wires : List Wire} {first : ℕ}
    (wired : HasWires x g wires first) {k m : ℕ} (new : IsNewNode g k m) where
  abbrev z : Sizes
  z = x.identity.sizes

  abbrev p : ℕ
  p = get_or g.noted.places.items k 0

  -- a copy of the note with this growth is one for the node
  pub copy-knows : (y : NoteCopy NotedGrowth) → y.seat.table_id ≡ x.notes → y.reserve ≡ g.reserve
      → noted_in y ≡ g.earlier ++ g.noted ∷ [] → KnowsGrowth x g m (Copied y)
  copy-knows y of by all = record {
    note_is = rw by (
      of,
      wired.next.in_range,
      rw new.is at (place-held wired.next k new.within),
    );
    births = (λ j. births_by (reserve_at z.reserves (by j)).node (all j))
        ∙ noted-more (reserve_in z g).node g.earlier g.noted;
    first = ap (λ r. (reserve_at z.reserves r).first_edge) by;
  }

  module _ {P : Type 0} {seen : P → BoxPicture} {c : NodeCell P}
      (unborn : c.mark.state ≡ Unborn) (fits : CellFits x seen m c None Bare)
      {own : CellNote} (knows : KnowsGrowth x g m own) where
    at-place : CellFits x seen p c None Bare
    at-place = rw new.is fits

    waits : AwaitsBirth seen x.identity c
    waits = awaits seen x.identity c unborn fits.lies

    -- memory was wanting for its ports
    pub lost-new : (d : NodeCell P) → IsSeatOf x.identity d.seat
        → (view d.seat).number ≡ (view c.seat).number → seen d.processor ≡ seen c.processor
        → CellFits x seen m d (Some Memory) own
    lost-new d seat number same = record {
      seat = seat;
      number = seat.number ∙ (number ∙ (sym fits.seat.number ∙ fits.number));
      note = knows.note_is;
      stands = λ ne. absurd (ne refl);
      box = lost-box (rw (← knows.births, new.is, ← same) at (left-unborn wired.next k new.within []
          (x.node p).box (seen c.processor) at-place.box waits.blank));
      lies = seat;
    }

    -- it has its outputs, then its inputs, and is born
    module _ {d e f : NodeCell P}
        (out : GetsPorts seen x.identity false (new_edge x g) (born_wires (birth_in z g)) c d)
        (into : GetsPorts seen x.identity true (new_edge x g) (born_wires (birth_in z g)) d e)
        (processor : seen e.processor ≡ seen c.processor) (reserve : e.reserve ≡ c.reserve)
        {s : Spec} (newborn : IsNewborn seen x.identity s e f)
        (form : HasForm (Some s) (form_at (birth_in z g).growth.specs k)) where
      stands : StandsAmong z.wires (reserve_in z g).first_edge (births_now z g) p
          (x.node p).reserve (cell_ports f) (reserve_form f.reserve) (seen f.processor)
      stands = stands-still _ _ _ _ _ _ _ _ _ (seen f.processor) (seen f.processor) newborn.same (ap
          reserve_form (newborn.reserve ∙ reserve)) (λ b. b) (stands-whole wired.next k new.within 0
          (x.node p).reserve (reserve_form c.reserve) (cell_ports c) (cell_ports d) (cell_ports e)
          (seen c.processor) (seen f.processor) (at-place.stands (none-some Memory)) waits.blank
          out.gains into.gains)

      pub fits-born : CellFits x seen m f None own
      fits-born = record {
        seat = newborn.begins.cell.seat;
        number = newborn.begins.cell.seat.number ∙ (stands.number ∙ new.is);
        note = knows.note_is;
        stands = λ _. rw (knows.first, knows.births, ← new.is) stands;
        box = rw (knows.births, ← new.is) (left-newborn wired.next k new.within [] (x.node p).box
            (seen c.processor) (seen f.processor) s at-place.box (subst (λ q. Loads q s (seen
            f.processor)) processor newborn.loads) form);
        lies = subst (λ (t : NodeStatus). StoredAs seen x.identity t f)
            (sym (ap (λ (w : NodeMark). w.state) newborn.mark)) newborn.begins;
      }
