-- The visit of a node by which the graph is to grow.
use Rattle.node_workers.proofs.Imports.{AtWork, BoxPicture, CellFits, CellNote, Expand, FlawlessGrowth, GrowthNote, HasGrown, HasOwnOutputs, HoldsMore, Identity, IsAtWork, IsGrowthOf, IsSameSeat, IsStopped, KeepsPlaces, LiesAs, List, NamedCell, Names, NodeCell, NodeStatus, None, NotedGrowth, Option, RunEnd, RunEndHolds, ShelfSeat, Some, Stays, StopCause, StoredAs, Wire, ap, arith, held, map, not-blank, noted, number_of, refl, step_after, subst, times, ℕ, ◌∙◌, ◌≡◌, ◌≤◌}
use Rattle.node_workers.proofs.VisitLaws.{fits-knows, turns-fit}

-- ---- the seat of the shelf

module _ {P J : Type 0} (cells last : List (NamedCell P J))
    (same : map number_of last ≡ map number_of cells) (old mid : ShelfSeat (NamedCell P J))
    (more : HoldsMore cells old mid) where
  -- it holds the places of cells that it took
  pub holds-taken : (q : ℕ) → times q (map number_of last) ≤ times q (held mid)
  holds-taken q = let h = more q in let e = ap (times q) same in omega (arith, h, e)

  -- and no more once they were put back
  pub keeps-taken : (new : ShelfSeat (NamedCell P J)) → IsSameSeat old mid
      → HoldsMore last new mid → IsSameSeat mid new → KeepsPlaces old new
  keeps-taken new s less t = grind arith

pub keeps-itself : {P J : Type 0} (s : ShelfSeat (NamedCell P J)) → KeepsPlaces s s
keeps-itself s = record { same = (refl, refl); kept = λ q. refl }

-- ---- the cell of the node that grows

-- its outputs stay what they are while its note is copied
pub outputs-on : {P : Type 0} {x : Names} {seen : P → BoxPicture} {n : ℕ}
    {before : GrowthNote NotedGrowth} {r : FlawlessGrowth} {wires : List Wire} {first : ℕ}
    {c : NodeCell P} {y z : GrowthNote NotedGrowth}
    → HasOwnOutputs x seen n before r wires first c y
    → z.seat.table_id ≡ x.notes → z.reserve ≡ y.reserve → noted z ≡ noted y
    → HasOwnOutputs x seen n before r wires first c z
outputs-on h of by all = record {
  asked = h.asked;
  is_asked = h.is_asked;
  note_of = of;
  ends = record { reserve_is = by ∙ h.ends.reserve_is; noted_is = all ∙ h.ends.noted_is };
  wired = h.wired;
  got = h.got;
  processor = h.processor;
  reserve = h.reserve;
}

-- its growth has these wires and places, by which they may be set
pub growth-of : {P : Type 0} {x : Names} {seen : P → BoxPicture} {n : ℕ}
    {before : GrowthNote NotedGrowth} {r : FlawlessGrowth} {wires : List Wire} {first : ℕ}
    {c : NodeCell P} {y : GrowthNote NotedGrowth}
    → HasOwnOutputs x seen n before r wires first c y
    → IsGrowthOf x (step_after before r.noted) wires first r.noted.places.items
growth-of h = record { wired = h.wired; places_are = refl }

module _ {P : Type 0} (seen : P → BoxPicture) (t : Identity) where
  -- a stored cell at work so is due to grow
  pub stored-expand : (c : NodeCell P) → c.mark.state ≡ AtWork Expand
      → LiesAs seen t None c → IsAtWork seen t Expand c
  stored-expand c is h = (subst (λ (s : NodeStatus). StoredAs seen t s c) is h).1

  -- a node's run leaves its cell so that it may be stored
  pub run-lies : (e : RunEnd) (c : NodeCell P) → RunEndHolds seen t e c → LiesAs seen t None c
  run-lies e c h = grind arith

  pub stopped-lies : (s : StopCause) (c : NodeCell P) → IsStopped seen t s c
      → LiesAs seen t (Some s) c
  stopped-lies s c h = grind arith

module _ {P : Type 0} (seen : P → BoxPicture) (x : Names) (n : ℕ) (a b : NodeCell P)
    (own : CellNote) where
  -- a node that is stopped when its processor is asked fits its place
  pub asked-fits : (s : StopCause) → CellFits x seen n a None own
      → IsAtWork seen x.identity Expand a → Stays seen (Some s) a b
      → IsStopped seen x.identity s b → CellFits x seen n b (Some s) own
  asked-fits s h at stays stop = turns-fit seen x n a b (Some s) own (fits-knows seen x n a own h)
      stays (λ none. absurd (not-blank (seen a.processor).spec
      at.holds.cell.node.box.running.loaded none)) (stopped-lies seen x.identity s b stop)

  -- so does one that grew, after turns
  pub grown-fits : (o : Option StopCause) → HasGrown x seen n a own → Stays seen o a b
      → LiesAs seen x.identity o b → CellFits x seen n b o own
  grown-fits o h stays lies = turns-fit seen x n a b o own h.knows stays (λ none. absurd (not-blank
      (seen a.processor).spec h.due.holds.cell.node.box.running.loaded none)) lies
