-- The boxes stay.
use Rattle.node_ends.proofs.Imports.{BoxPicture, BoxStays, BoxesStay, GivenBack, List, NodeCell, None, ap, arith, box_at, boxes_in, get_or, get_or-map, get_or-set_other, get_or-set_same, inl, inr, is_some, length, length-map, length-set, map, map-set, refl, set, ℕ, ◌<◌, ◌∙◌, ◌≡◌}
use Rattle.exec_laws.proofs.Acting.{stays-both, stays-itself}
use Rattle.exec_laws.proofs.BirthLaws.{none-of}
use Rattle.exec_laws.proofs.Nodes.{at-node}
use Rattle.node_cells.proofs.StayLaws.{growth-both}
use Rattle.node_ends.specs.RunEnds.{GrowthsStay, StopsAt}
use Rattle.node_ends.specs.declared.node_ends.EndCause.{EndCause}
use Rattle.proc_api.specs.Names.{no_box}
use Rattle.std.proofs.lemmas.Bool.{cases_Bool}

-- ---- one box

pub box-itself : (p : BoxPicture) → BoxStays p p
box-itself p = record { born = λ _. stays-itself p; blank = λ _. refl }

pub lawful-stays : (p q : BoxPicture) → BoxStays p q → q.lawful ≡ p.lawful
lawful-stays p q h = elim (cases_Bool (is_some p.spec)) [
  | inl some ↦ (h.born some).same.lawful
  | inr none ↦ ap (λ (b : BoxPicture). b.lawful) (h.blank (none-of p.spec none))
]

pub box-both : (p q r : BoxPicture) → BoxStays p q → BoxStays q r → BoxStays p r
box-both p q r h k = record {
  born = λ born. stays-both p q r (h.born born) (k.born (rw (h.born born).same.spec born));
  blank = λ none. k.blank (rw (h.blank none) none) ∙ h.blank none;
}

-- ---- all boxes

-- boxes stayed, and those stayed
pub stayed-both : (a b c : List BoxPicture) → BoxesStay a b → BoxesStay b c → BoxesStay a c
stayed-both a b c h k = record {
  count = k.count ∙ h.count;
  each = λ n lt. box-both _ _ _ (h.each n lt) (k.each n (omega (arith, lt, h.count)));
}

-- boxes that stay are given back
pub stayed-given : (a b : List BoxPicture) → BoxesStay a b → GivenBack a b
stayed-given a b h = record {
  count = h.count;
  each = λ n lt. record {
    born = (h.each n lt).born;
    unborn = λ none. inl ((h.each n lt).blank none);
  };
}

-- what holds of a box that changed, and of each that didn't, holds at each place
pub at-changed : {P : Type 0} (seen : P → BoxPicture) (cells : List (NodeCell P)) (n : ℕ)
    (x y : NodeCell P) → n < length cells → x ≡ get_or cells n x
    → (R : BoxPicture → BoxPicture → Type 0) → ((p : BoxPicture) → R p p)
    → R (seen x.processor) (seen y.processor) → (k : ℕ)
    → R (box_at (boxes_in seen cells) k) (box_at (boxes_in seen (set cells n y)) k)
unfolding box_at
at-changed {P} seen cells n x y lt read R same h k = rw map-set (at-node (λ k. R
    (get_or (map f cells) k no_box) (get_or (set (map f cells) n (f y)) k no_box)) n k
    (rw (
      get_or-set_same (map f cells) n (f y) no_box (rw length-map lt),
      get_or-map f cells n x no_box lt,
      ← read,
    ) h)
    (λ ne. rw (get_or-set_other (map f cells) n k (f y) no_box ne) (same _)))
  where
    f : NodeCell P → BoxPicture
    f c = seen c.processor

-- a cell was read and changed
pub stayed-changed : {P : Type 0} (seen : P → BoxPicture) (cells : List (NodeCell P)) (n : ℕ)
    (x y : NodeCell P) → n < length cells → x ≡ get_or cells n x
    → BoxStays (seen x.processor) (seen y.processor)
    → BoxesStay (boxes_in seen cells) (boxes_in seen (set cells n y))
stayed-changed seen cells n x y lt read h = record {
  count = rw (length-map, length-map) (length-set cells n y);
  each = λ k less. at-changed seen cells n x y lt read BoxStays box-itself h k;
}

-- ---- the growths that boxes keep

module _ (a b c : List BoxPicture) (h : BoxesStay a b) (k : BoxesStay b c) (stay : GrowthsStay a b)
  where
    -- where they stayed and stay they have stayed
    pub growths-both : GrowthsStay b c → GrowthsStay a c
    growths-both g n lt = growth-both None (box_at a n) (box_at b n) (box_at c n)
        (lawful-stays _ _ (k.each n (rw h.count lt))) (stay n lt) (g n (rw h.count lt))

    -- what ends the run later ends it
    pub stops-both : (n : ℕ) (s : EndCause) → StopsAt n s b c → StopsAt n s a c
    stops-both n s g = record {
      in_range = g.in_range;
      stop = g.stop;
      growth = growths-both g.growth;
    }
