-- The cell of a node that grows, from the time when it has its outputs of the growth.
use Rattle.node_workers.proofs.Imports.{AreNamedReserves, Bool, BoxPicture, CellFits, CellKnows, Due, FlawlessGrowth, GetsPorts, GrowthNote, HasOwnOutputs, HasWidened, IsDue, IsNextStep, IsSeatOf, List, LosesGrowth, Memory, Names, NodeCell, NodeMark, NodeReserve, NotedGrowth, NotedStep, Own, Reserve, Sizes, Some, Wire, [], ap, arith, as-many, birth_in, born_wires, edge_count, edges-left, false, flawless, gets-widened, growth_form, length, length-map, new_edge, new_wire, place-other, refl, reserve_at, reserved_edge_count, reserved_edges, step_after, sum_by-cons, sym, true, view, widened-due, ℕ, ◌+◌, ◌∙◌, ◌∷◌, ◌≡◌, ◌≤◌}
use Rattle.node_workers.proofs.GrowerLaws.{knows-own, lost-own, same-reserve}

edges-same : (rs : List Reserve) → reserved_edges rs ≡ reserved_edge_count rs
edges-same [] = refl
edges-same (r ∷ rs) = sum_by-cons (λ (q : Reserve). q.edges) r rs
    ∙ ap (λ n. r.edges + n) (edges-same rs)

module _ {P : Type 0} {seen : P → BoxPicture} {x : Names} {n : ℕ} {y : GrowthNote NotedGrowth}
    {r : FlawlessGrowth} {wires : List Wire} {first : ℕ} {b : NodeCell P}
    {w : GrowthNote NotedGrowth} (o : HasOwnOutputs x seen n y r wires first b w)
    (reserves : AreNamedReserves x.identity.sizes x.node) where
  abbrev z : Sizes
  z = x.identity.sizes

  abbrev m : ℕ
  m = (reserve_at z.reserves y.reserve).node

  abbrev step : NotedStep
  step = step_after y r.noted

  abbrev c : NodeCell P
  c = o.is_asked.stored

  abbrev a : NodeCell P
  a = o.asked

  abbrev GetsOwn : Bool → NodeCell P → NodeCell P → Type 0
  GetsOwn side = GetsPorts seen x.identity side (new_edge x step) (born_wires (birth_in z step))

  own-gets : (side : Bool) (p q : NodeCell P) → GetsPorts seen x.identity side first wires p q
      → GetsOwn side p q
  own-gets side p q h = rw (o.wired.first_is, o.wired.wires_are) at h

  is-next : IsNextStep x step
  is-next = o.wired.next

  -- memory was wanting for its inputs, or before
  pub lost-inputs : (d : NodeCell P) → IsSeatOf x.identity d.seat
      → (view d.seat).number ≡ (view b.seat).number → d.processor ≡ b.processor
      → CellFits x seen n d (Some Memory) (Own w)
  lost-inputs d seat number same = lost-own o.is_asked reserves o.note_of o.ends d seat
      (number ∙ o.got.gains.gains.number) (same ∙ o.processor)

  pub lost-outputs : CellFits x seen n b (Some Memory) (Own w)
  lost-outputs = lost-inputs b (o.got.grows (growth_form r.noted.growth) c
      o.is_asked.flawless.growing).seat refl refl

  edges-many : length wires ≡ length r.noted.growth.edges
  edges-many = ap length o.wired.wires_are
      ∙ length-map r.noted.growth.edges (new_wire m r.noted.places.items)

  -- its reserve has these edges, all of which have numbers in the table
  pub edges-kept : (length wires ≤ b.reserve.edges)
      × (b.reserve.next_edge + b.reserve.edges ≤ edge_count z)
  edges-kept = let e = edges-left is-next in
      grind (arith, same-reserve o.is_asked reserves, edges-same z.reserves, edges-many)

  -- It got its inputs, and its reserve is what is left of that.
  module _ {d : NodeCell P} (got : GetsPorts seen x.identity true first wires b d)
      (processor : d.processor ≡ b.processor) (reserve : d.reserve ≡ b.reserve)
      (left : NodeReserve)
      (loses : LosesGrowth r.noted.places.items (length wires) d.reserve left)
      (k : NodeMark) (due : k.state ≡ Due) where
    abbrev grown : NodeCell P
    grown = record d { mark = k; reserve = left }

    number : (view c.seat).number ≡ m
    number = sym o.is_asked.fits.seat.number ∙ (o.is_asked.fits.number ∙ sym o.is_asked.fits.note.2)

    widened : HasWidened seen x.identity (growth_form r.noted.growth) c d
    widened = gets-widened seen x.identity (growth_form r.noted.growth) c a b d (new_edge x step)
        r.noted.places.items (ap (λ (q : NodeCell P). q.ports) o.is_asked.flawless.same) (ap (λ (q :
        NodeCell P). q.seat) o.is_asked.flawless.same) o.is_asked.flawless.growing (λ i lt e.
        place-other is-next i (rw (as-many is-next.next) lt) (e ∙ number)) (flawless
        is-next.next).ends (rw number (own-gets false a b o.got)) (rw number (own-gets true b d
        got))

    -- it is due
    pub grown-is-due : IsDue seen x.identity grown
    grown-is-due =
        let w = widened-due seen x.identity (growth_form r.noted.growth) c d widened k due in
        record {
          holds = grind (arith, w.holds.cell.seat, w.holds.cell.node, w.holds.turn, w.holds.stage);
          quiet = w.quiet;
          due = w.due;
        }

    -- and it knows of the growth
    pub grown-knows : CellKnows x seen n grown (Own w)
    grown-knows = knows-own o.is_asked reserves o.note_of o.ends (own-gets false a b o.got)
        (own-gets true b d got) (processor ∙ o.processor) (reserve ∙ o.reserve) left
        (rw edges-many at loses) k
