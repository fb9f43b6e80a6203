-- What a growth leaves of a node that names nothing by it, or whose growth has a flaw.
use Rattle.node_workers.proofs.Imports.{BoxPicture, CellNote, Due, Edge, Files, FlawlessGrowth, Grew, GrowthForm, GrowthStays, HasGrown, Identity, IsAsked, IsDue, IsGrowing, IsTrue, List, MayGrow, Names, NodeCell, NodeMark, None, Option, PartSpec, Some, Spec, Stays, StaysBox, StopCause, [], ap, arith, cell_ports, count_by-le-length, grew-list, is_me, length, list_growth, not-blank, paths_in, same-ports, sym, widened-due, ℕ, ◌<◌, ◌∙◌, ◌∷◌, ◌≡◌}
use Rattle.node_workers.proofs.VisitLaws.{fits-knows, turns-know}

-- a lawful box gives none
names-something : (s : Option Spec) (files : Option Files) (g : GrowthForm)
    → MayGrow s files (Some g) → length g.specs ≡ 0 → ⊥
names-something s files g h none =
    let grew = grew-list s files g h in
    go grew.list (paths_in (Some grew.growth.text)) grew.growth.names_path grew.growth.is
  where
    go : (list : PartSpec) (paths : List (List ℕ)) → 0 < length paths → g ≡ list_growth list paths
        → ⊥
    go list [] lt is = omega (arith, lt)
    go list (p ∷ ps) lt is = let some : 0 < length g.specs = rw is (omega arith) in
        omega (arith, some, none)

pub unlawful-grew : (g : GrowthForm) (p q : BoxPicture) → Grew g p q → length g.specs ≡ 0
    → IsTrue q.lawful → ⊥
unlawful-grew g p q a none l =
    names-something p.spec p.files g (a.grows (sym a.same.lawful ∙ l)) none

module _ {P : Type 0} (seen : P → BoxPicture) (t : Identity) (g : GrowthForm) (c d : NodeCell P)
    (h : IsGrowing seen t g c d) where
  -- the node is to be prepared again, with the ports that it had
  pub grown-due : d ≡ record c { processor = d.processor } → length g.edges ≡ 0
      → (k : NodeMark) → k.state ≡ Due → IsDue seen t (record d { mark = k })
  grown-due same edges k due = widened-due seen t g c d record {
    growing = h;
    inputs = let n = count_by-le-length (λ (e : Edge). is_me e.to.who) g.edges in
        omega (arith, n, ap (λ (x : NodeCell P). length x.ports.inputs.items) same, edges);
    outputs = let n = count_by-le-length (λ (e : Edge). is_me e.from.who) g.edges in
        omega (arith, n, ap (λ (x : NodeCell P). length x.ports.outputs.items) same, edges);
  } k due

  -- what the call leaves of the cell, whatever its mark is then
  pub grown-stays : d ≡ record c { processor = d.processor }
      → StaysBox (seen c.processor) (seen d.processor) → (o : Option StopCause) (k : NodeMark)
      → GrowthStays o (seen c.processor) (seen d.processor)
      → Stays seen o c (record d { mark = k })
  grown-stays same box o k growth = grind (arith, same-ports (cell_ports c))

-- one that grew by nothing has grown
pub nothing-grown : {P : Type 0} {seen : P → BoxPicture} {x : Names} {n : ℕ} {r : FlawlessGrowth}
    {a d : NodeCell P} {own : CellNote} (h : IsAsked x seen n r a own) → IsDue seen x.identity d
    → Stays seen None h.stored d → d.processor ≡ a.processor → HasGrown x seen n d own
nothing-grown {P} {seen} {x} {n} {r} {a} {d} {own} h due stays same =
    grind (arith, turns-know, fits-knows, not-blank)
