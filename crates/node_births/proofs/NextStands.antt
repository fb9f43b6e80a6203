-- What the node that grows and its new nodes know of their ports after its next birth.
use Rattle.node_births.proofs.Imports.{AreFirst, AreReserves, AreSoundBirths, Birth, Blank, Bool, BoxPicture, EdgeRange, GainsPorts, GrowthForm, HasEdge, HasWiresOf, Input, IsBorn, IsNamedReserve, IsNextBirth, IsSoundBirth, List, LosesGrowth, NodeReserve, None, Output, Port, PortsHold, PortsPicture, ReserveForm, Sizes, StandsAmong, Wire, [], ap, append-nil, append_assoc, arith, births_of, births_range, born_edges, born_wires, cases_Bool, cases_lt, count_by-append, end_count, eq-eqb, false, filter, flat_map, flat_map-append, flaw_over, form_kind, get_or, graph_range, grown_wires, inl, input_count, inr, is_own_port, is_place, length, longer_range, map, not, not-blank, or_parts, output_count, own_wires, places_for, refl, reserve_after, reserve_at, reserve_form, subst, sum_by-append, sum_by-cons, sym, true, ℕ, ◌++◌, ◌+◌, ◌-◌, ◌<◌, ◌==◌, ◌∙◌, ◌∷◌, ◌≡◌, ◌≢◌}
use Rattle.node_births.proofs.BirthWires.{HasNone, new-none, none-both, none-ends}
use Rattle.node_births.proofs.FlawsLeft.{are-peers}
use Rattle.node_births.proofs.NextPlaces.{place-free, place-held, place-other, r}
use Rattle.node_births.proofs.OwnSound.{births-apart, wires-count}
use Rattle.node_births.proofs.ReserveLaws.{no-wires}
use Rattle.node_births.proofs.SoundBirths.{births-append, ends-right, place-append, place-cons}
use Rattle.node_births.proofs.TableLaws.{gained-wires, longer-wires}

-- ---- births in order, with one more

sound-more : (wires : List Wire) (n : ℕ) (r : ReserveForm) (e xs : List Birth) (b : Birth)
    → AreSoundBirths wires n r e xs → IsSoundBirth wires n r (e ++ xs) b
    → AreSoundBirths wires n r e (xs ++ b ∷ [])
sound-more wires n r e [] b h k = (rw append-nil at k, tt)
sound-more wires n r e (x ∷ xs) b h k = (
  h.0,
  sound-more wires n r (e ++ x ∷ []) xs b h.1 (rw ((append_assoc e (x ∷ []) xs)) k),
)

grown-more : (wires : List Wire) (xs ys : List Birth)
    → grown_wires wires xs ++ flat_map born_wires ys ≡ grown_wires wires (xs ++ ys)
grown-more wires xs ys = append_assoc wires (flat_map born_wires xs) (flat_map born_wires ys)
    ∙ ap (λ l. wires ++ l) (sym (flat_map-append born_wires xs ys))

-- births without a flaw have no wire at another node that they didn't take
sound-none : (wires : List Wire) (n : ℕ) (r : ReserveForm) (e births : List Birth) (m : ℕ) → n ≢ m
    → is_place births m ≡ false → AreSoundBirths wires n r e births
    → HasNone (flat_map born_wires births) m
sound-none wires n r e [] m ne off h = (refl, refl)
sound-none wires n r e (b ∷ births) m ne off h =
    let parts = or_parts _ _ (sym (place-cons b births m) ∙ off) in
    none-both (born_wires b) (flat_map born_wires births) m (new-none b.expander b.places m
    (λ x. ne (sym h.0.expander ∙ x)) parts.0 b.growth.edges (ends-right h.0))
    (sound-none wires n r (e ++ b ∷ []) births m ne parts.1 h.1)

-- ---- what is left of the reserve

filter-both : (xs ys : List Birth) (blanks : List Blank)
    → filter (λ (x : Blank). not (is_place ys x.node))
    (filter (λ (x : Blank). not (is_place xs x.node)) blanks)
    ≡ filter (λ (x : Blank). not (is_place (xs ++ ys) x.node)) blanks
filter-both xs ys [] = refl
filter-both xs ys (x ∷ blanks) = let rest = filter-both xs ys blanks in
    let all = place-append xs ys x.node in
    grind (arith, cases_Bool (is_place xs x.node), cases_Bool (is_place ys x.node), x.node)

-- births leave of a reserve what later ones leave of what earlier ones left
pub reserve-both : (r : ReserveForm) (xs ys : List Birth)
    → reserve_after (reserve_after r xs) ys ≡ reserve_after r (xs ++ ys)
reserve-both r xs ys = let sum = sum_by-append (λ (x : Birth). length x.growth.edges) xs ys in
    let edges : r.left.edges - born_edges xs - born_edges ys ≡ r.left.edges - born_edges (xs ++ ys)
    = omega (arith, sum) in
    let next : r.next_edge + born_edges xs + born_edges ys ≡ r.next_edge + born_edges (xs ++ ys) =
    omega (arith, sum) in λ j. record {
      rank = r.rank;
      nodes = r.nodes;
      left = record { blanks = filter-both xs ys r.left.blanks j; edges = edges j };
      next_edge = next j;
    }

-- a reserve that loses a growth is what its birth leaves
pub loses-birth : (b : Birth) (old new : NodeReserve)
    → LosesGrowth b.places (length b.growth.edges) old new
    → reserve_form new ≡ reserve_after (reserve_form old) (b ∷ [])
loses-birth b old new h = let one = sum_by-cons (λ (x : Birth). length x.growth.edges) b [] in
    let edges : new.edges ≡ old.edges - born_edges (b ∷ []) = omega (arith, h.left, one) in
    let first : new.next_edge ≡ old.next_edge + born_edges (b ∷ []) =
    omega (arith, h.next_edge, one) in grind (arith, append-nil b.places, b.places, h.rank, h.nodes)

-- ---- a growth without a flaw is the next birth

-- the birth of a growth of node n, of which this reserve is left
abbrev pub birth_by : ℕ → ReserveForm → GrowthForm → Birth
birth_by n r g = record {
  expander = n;
  growth = g;
  places = places_for (map form_kind g.specs) r.left.blanks r.nodes;
}

pub next-birth : (z : Sizes) (k n first : ℕ) (named : ReserveForm) (births : List Birth)
    (c : PortsPicture) (reserve : ReserveForm) (box : BoxPicture) (g : GrowthForm)
    → k < length z.reserves → (reserve_at z.reserves k).node ≡ n
    → AreReserves z.nodes (length z.wires) z.wires z.reserves
    → IsNamedReserve z (reserve_at z.reserves k) named → births_of n births ≡ births
    → StandsAmong z.wires first births n named c reserve box → PortsHold c → IsBorn box
    → length g.ranks ≡ length g.specs
    → flaw_over reserve.rank reserve.nodes (own_wires n c.sources c.targets) reserve.left n g ≡ None
    → IsNextBirth z k n named births (birth_by n reserve g)
next-birth z k n first named births c reserve box g lt node fit of own s holds born ranked none =
    let is : reserve ≡ reserve_after named births =
    s.reserve_is ∙ ap (reserve_after named) own in record {
      in_range = lt;
      node = node;
      fit = fit;
      reserve = of;
      own = own;
      earlier = rw own at s.sound;
      next = record {
        expander = refl;
        ranked = ranked;
        sources = c.sources;
        targets = c.targets;
        peers = are-peers z.wires first n births named reserve c box s holds born;
        none = subst (λ (x : ReserveForm). flaw_over x.rank x.nodes
            (own_wires n c.sources c.targets) x.left n g ≡ None) is none;
        places = ap (λ (x : ReserveForm). places_for (map form_kind g.specs) x.left.blanks
            x.nodes) is;
      };
    }

-- ---- the ports of a node after it

-- a node that knows of no births stands so from any edge on
pub stands-anywhere : (wires : List Wire) (f first n : ℕ) (named s : ReserveForm)
    (c : PortsPicture) (x : BoxPicture) → StandsAmong wires f [] n named c s x
    → StandsAmong wires first [] n named c s x
stands-anywhere wires f first n named s c x h = record {
  number = h.number;
  wired = grind (arith, h.wired.each);
  ins = h.ins;
  outs = h.outs;
  reserve_is = h.reserve_is;
  sound = h.sound;
}

module _ {z : Sizes} {k n : ℕ} {named : ReserveForm} {births : List Birth} {b : Birth}
    (h : IsNextBirth z k n named births b) where
  abbrev first : ℕ
  first = (r h).first_edge

  abbrev next : ℕ
  next = (reserve_after named births).next_edge

  abbrev all : List Birth
  all = births ++ b ∷ []

  abbrev WiredBy : List Birth → PortsPicture → Type 0
  WiredBy xs c = HasWiresOf (graph_range z.wires) (births_range first xs) c

  range-both : (xs ys : List Birth) → births_range first (xs ++ ys)
      ≡ longer_range (births_range first xs) (flat_map born_wires ys)
  range-both xs ys = λ j. record { first = first; wires = sym (grown-more [] xs ys) j }

  -- a node that knows of the first births knows its wires among those of more
  pub wired-more : (xs ys : List Birth) (c : PortsPicture) → WiredBy xs c → WiredBy (xs ++ ys) c
  wired-more xs ys c w = subst (λ (x : EdgeRange). HasWiresOf (graph_range z.wires) x c) (sym
      (range-both xs ys)) (longer-wires _ _ _ _ w)

  -- and the ports that it gets have wires of the last one
  wired-gets : (consumer : Bool) (count : ℕ) (c d : PortsPicture) → WiredBy all c
      → GainsPorts consumer next (born_wires b) count c d → WiredBy all d
  wired-gets consumer count c d w g = let start : next ≡ first + length (flat_map born_wires births)
      = omega (arith, wires-count births, h.reserve.next_edge) in
      let same : births_range first all ≡ longer_range (births_range first births) (born_wires b) =
      range-both births (b ∷ []) ∙ ap (longer_range (births_range first births)) (append-nil
      (born_wires b)) in
      subst (λ (x : EdgeRange). HasWiresOf (graph_range z.wires) x d) (sym same) (gained-wires _ _ _
      _ _ _ _ (subst (λ (x : EdgeRange). HasWiresOf (graph_range z.wires) x c) same w) (subst (λ f.
      GainsPorts consumer f (born_wires b) count c d) start g))

  -- the wires at a node are those before and those of the birth
  counts-all : (m : ℕ) → (input_count (grown_wires z.wires all) m
      ≡ input_count (grown_wires z.wires births) m + input_count (born_wires b) m)
      × (output_count (grown_wires z.wires all) m
      ≡ output_count (grown_wires z.wires births) m + output_count (born_wires b) m)
  counts-all m = let same : grown_wires z.wires births ++ born_wires b ≡ grown_wires z.wires all =
      grind (arith, append-nil (born_wires b), grown-more z.wires births (b ∷ []), z.wires) in
      grind (arith, count_by-append, z.wires)

  pub own-all : births_of n all ≡ all
  own-all = births-append n births (b ∷ []) ∙ rw (h.own, eq-eqb b.expander n h.next.expander) refl

  pub sound-all : AreSoundBirths z.wires n named [] all
  sound-all = sound-more z.wires n named [] births b h.earlier h.next

  -- the node that grows, with its outputs of the birth, and then its inputs
  pub stands-grown : (c d e : PortsPicture) (reserve : ReserveForm) (p q : BoxPicture)
      → StandsAmong z.wires first births n named c reserve p → IsBorn p
      → GainsPorts false next (born_wires b) (end_count false (born_wires b) c.node.number) c d
      → GainsPorts true next (born_wires b) (end_count true (born_wires b) d.node.number) d e
      → StandsAmong z.wires first all n named e (reserve_after reserve (b ∷ [])) q
  stands-grown c d e reserve p q s born outs ins = let counts = counts-all n in
      let at : d.node.number ≡ n = outs.gains.number ∙ s.number in let out_more = outs.more in
      let in_more = ins.more in let in_same = ap length outs.others in
      let out_same = ap length ins.others in let before = s.ins born in let was = s.outs born in
      let more_out = ap (output_count (born_wires b)) s.number in
      let more_in = ap (input_count (born_wires b)) at in record {
        number = ins.gains.number ∙ at;
        wired = wired-gets true _ d e (wired-gets false _ c d
            (wired-more births (b ∷ []) c s.wired) outs) ins;
        ins = λ _. omega (arith, in_more, in_same, before, more_in, counts.0);
        outs = λ _. omega (arith, out_more, out_same, was, more_out, counts.1);
        reserve_is = ap (λ x. reserve_after x (b ∷ [])) (s.reserve_is ∙ ap (reserve_after named)
            h.own) ∙ reserve-both named births (b ∷ []) ∙ ap (reserve_after named) (sym own-all);
        sound = rw own-all sound-all;
      }

  -- ---- a new node

  module _ (i : ℕ) (lt : i < length b.places) where
    abbrev p : ℕ
    p = get_or b.places i 0

    none-before : HasNone (grown_wires z.wires births) p
    none-before = none-both z.wires (flat_map born_wires births) p (no-wires h.fit p k h.in_range
        (place-held h i lt)) (sound-none z.wires n named [] births p (λ e. place-other h i lt (sym
        e)) (place-free h i lt) h.earlier)

    -- no birth is its own
    pub place-births : births_of p all ≡ []
    place-births = subst (λ l. births_of p l ≡ []) own-all
        (births-apart n p (λ e. place-other h i lt (sym e)) all)

    first-births : (xs : List Birth) → AreFirst xs all → births_of p xs ≡ []
    first-births xs x = none-first (births_of p xs) (births_of p x.later)
        (sym (births-append p xs x.later) ∙ ap (births_of p) (sym x.all) ∙ place-births)
      where
        none-first : (ys zs : List Birth) → ys ++ zs ≡ [] → ys ≡ []
        none-first [] zs e = refl
        none-first (y ∷ ys) zs e = absurd (cc)

    -- It knew of the first births, and gets its outputs or its inputs. Once it is born it has all.
    pub stands-place : (consumer : Bool) (xs : List Birth) (own s : ReserveForm) (count : ℕ)
        (c d : PortsPicture) (x y : BoxPicture) → AreFirst xs all
        → StandsAmong z.wires first xs p own c s x
        → GainsPorts consumer next (born_wires b) count c d
        → (IsBorn y → (length d.inputs ≡ input_count (born_wires b) p)
        × (length d.outputs ≡ output_count (born_wires b) p))
        → StandsAmong z.wires first all p own d s y
    stands-place consumer xs own s count c d x y known st gains has = record {
      number = gains.gains.number ∙ st.number;
      wired = wired-gets consumer count c d (subst (λ l. WiredBy l c) (sym known.all)
          (wired-more xs known.later c st.wired)) gains;
      ins = λ born. omega (arith, (has born).0, (counts-all p).0, none-before.0);
      outs = λ born. omega (arith, (has born).1, (counts-all p).1, none-before.1);
      reserve_is = st.reserve_is ∙ ap (reserve_after own) (first-births xs known
          ∙ sym place-births);
      sound = rw place-births tt;
    }

    -- it isn't born, and gets its outputs
    pub stands-unborn : (xs : List Birth) (own s : ReserveForm) (count : ℕ) (c d : PortsPicture)
        (x y : BoxPicture) → AreFirst xs all → StandsAmong z.wires first xs p own c s x
        → GainsPorts false next (born_wires b) count c d → y.spec ≡ None
        → StandsAmong z.wires first all p own d s y
    stands-unborn xs own s count c d x y known st gains none = stands-place false xs own s count c d
        x y known st gains (λ born. absurd (not-blank y.spec born none))

    -- it has its outputs and no inputs, and gets its inputs, with which it is born
    pub stands-newborn : (xs : List Birth) (own s : ReserveForm) (c d : PortsPicture)
        (x y : BoxPicture) → AreFirst xs all → StandsAmong z.wires first xs p own c s x
        → length c.inputs ≡ 0 → length c.outputs ≡ output_count (born_wires b) p
        → GainsPorts true next (born_wires b) (end_count true (born_wires b) c.node.number) c d
        → StandsAmong z.wires first all p own d s y
    stands-newborn xs own s c d x y known st no_ins has_outs gains =
        stands-place true xs own s _ c d x y known st gains (λ _. (
          grind (arith, st.number),
          ap length gains.others ∙ has_outs,
        ))

    -- it had no ports where it knew of no births
    pub place-bare : (own s : ReserveForm) (c : PortsPicture) (x : BoxPicture)
        → StandsAmong z.wires first [] p own c s x
        → (length c.inputs ≡ 0) × (length c.outputs ≡ 0)
    place-bare own s c x st = (
      elim (cases_lt 0 (length c.inputs)) [
        | inl some ↦ absurd (no-port (Input 0) some)
        | inr le ↦ omega (arith, le)
      ],
      elim (cases_lt 0 (length c.outputs)) [
        | inl some ↦ absurd (no-port (Output 0) some)
        | inr le ↦ omega (arith, le)
      ],
    )
      where
        graph-none : HasNone z.wires p
        graph-none = no-wires h.fit p k h.in_range (place-held h i lt)

        no-end : (q : Port) (e : ℕ) → HasEdge z.wires p q e → ⊥
        no-end (Input j) e x = (none-ends z.wires p graph-none e x.in_range).1 x.at_port.0
        no-end (Output j) e x = (none-ends z.wires p graph-none e x.in_range).0 x.at_port.0

        no-port : (q : Port) → is_own_port c q → ⊥
        no-port q own = grind (arith, no-end, st.wired.each, z.wires, st.number)

    -- so with all its ports, before which it knew of no births
    pub stands-whole : (f : ℕ) (own s : ReserveForm) (c d e : PortsPicture) (x y : BoxPicture)
        → StandsAmong z.wires f [] p own c s x → x.spec ≡ None
        → GainsPorts false next (born_wires b) (end_count false (born_wires b) c.node.number) c d
        → GainsPorts true next (born_wires b) (end_count true (born_wires b) d.node.number) d e
        → StandsAmong z.wires first all p own e s y
    stands-whole f own s c d e x y st none outs ins =
        let from = stands-anywhere z.wires f first p own s c x st in
        let bare = place-bare own s c x from in
        let more = outs.more in let at = ap (output_count (born_wires b)) st.number in
        stands-newborn all own s d e x y record { later = []; all = sym (append-nil all) }
        (stands-unborn [] own s _ c d x x record { later = all; all = refl } from outs none)
        (ap length outs.others ∙ bare.0) (omega (arith, more, at, bare.1)) ins
