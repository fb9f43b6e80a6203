-- One cell that was read and changed, and the copies of notes that were gathered so far.
use Rattle.pipeline_exec.proofs.Imports.{List, None, Option, Reserve, Some, ap, arith, at_index, at_map, at_set, get_or, length, map, map-map, map-set, set, set_again, set_else, subst, sym, there, ⊎_elim, ℕ, ◌+◌, ◌<◌, ◌∙◌, ◌≡◌, ◌≢◌}
use Rattle.atomic_table.specs.Seated.{TableId}
use Rattle.growth_notes.specs.Notes.{noted_in}
use Rattle.growth_notes.specs.Rules.{AreFirst}
use Rattle.growth_notes.specs.declared.notes.NoteCopy.{NoteCopy}
use Rattle.node_births.specs.declared.noted_growth.NotedGrowth.{NotedGrowth}
use Rattle.node_workers.specs.declared.named_cell.EndedCell.{EndedCell}
use Rattle.pipeline_exec.proofs.Lists.{one-more}
use Rattle.pipeline_exec.specs.Gathering.{AreGatheredTo, AreOfNotes, CopiedGrowths, HasFirstGrowths, IsCopyIn, IsOfNotes, copied_growths, copied_in, copies_in, own_growths, owns_in, without_copy}
use Rattle.pipeline_exec.specs.WorkerRuns.{AreUnstopped, AreWhole, IsStopFor, IsStoppedAt, cell_of}
use Rattle.node_cells.specs.declared.stop_cause.StopCause.{StopCause}
use Rattle.node_cells.specs.declared.stop_cause.StopCause.TheVariants as cause
use Rattle.std.proofs.Common.{IfNone, IfSome}
use lib.ListN.{get_elem?}
use mathlib.Core.Option.{some, some-injective}
unfoldable use Rattle.proc_api.specs.Reserves.{reserve_at}

-- ---- lists of which one element was read, and changed

module _ {A : Type 0} (xs : List A) (n : ℕ) (x : A) (lt : n < length xs) (read : x ≡ get_or xs n x)
  where
    -- what holds of the element that was read holds of that at its place
    pub read-at : (Q : A → Type 0) → Q x → (y : A) → get_elem? xs n ≡ some y → Q y
    read-at Q h y at = subst Q (some-injective x y (sym (at_index xs n x lt read) ∙ at)) h

    pub map-again : {B : Type 0} (f : A → B) (y : A) → f y ≡ f x → map f (set xs n y) ≡ map f xs
    map-again f y same = rw map-set (set_again (map f xs) n (f y)
        (at_map f xs n x (at_index xs n x lt read) ∙ ap some (sym same)))

pub map-else : {A B : Type 0} (f : A → B) (xs : List A) (n : ℕ) (y : A) (m : ℕ) → m ≢ n
    → get_elem? (map f (set xs n y)) m ≡ get_elem? (map f xs) m
map-else f xs n y m ne = rw map-set (set_else (map f xs) n m (f y) ne)

module _ {P : Type 0} where
  pub notes-set : (id : TableId) (cells : List (EndedCell P)) (n : ℕ) (y : EndedCell P)
      → AreOfNotes id cells → IsOfNotes id y.note → AreOfNotes id (set cells n y)
  notes-set id cells n y all own m d at =
      ⊎_elim (λ t. subst (λ (d : EndedCell P). IsOfNotes id d.note) t.1 own) (λ t. all m d t.1)
      (at_set cells n m y d at)

  module _ (cells : List (EndedCell P)) (n : ℕ) (x : EndedCell P) (lt : n < length cells)
      (read : x ≡ get_or cells n x) where
    pub found-at : (r : Option (NoteCopy NotedGrowth)) → IfSome r (IsCopyIn x.note)
        → IfSome r (λ c. (d : EndedCell P) → get_elem? cells n ≡ some d → IsCopyIn d.note c)
    found-at None h = tt
    found-at (Some c) h = read-at cells n x lt read (λ d. IsCopyIn d.note c) h

    pub missing-at : (r : Option (NoteCopy NotedGrowth)) → IfNone r (copied_growths x.note ≡ None)
        → IfNone r (get_elem? (copies_in cells) n ≡ some None)
    missing-at None h = at_map (λ (d : EndedCell P). copied_growths d.note) cells n x
        (at_index cells n x lt read) ∙ ap some h
    missing-at (Some c) h = tt

    pub own-at : (own : List NotedGrowth) → get_elem? (owns_in cells) n ≡ some (Some own)
        → own_growths x.note ≡ Some own
    own-at own e = some-injective _ _ (sym (at_map (λ (d : EndedCell P). own_growths d.note) cells n
        x (at_index cells n x lt read)) ∙ e)

    -- the run was stopped at a cell that was read
    pub stopped-at : (s : StopCause) → x.stopped ≡ Some s → IsStoppedAt cells n s
    stopped-at s is = record {
      in_range = lt;
      stopped = read-at cells n x lt read (λ d. d.stopped ≡ Some s) is;
    }

  pub cells-same : (xs ys : List (EndedCell P)) → map without_copy xs ≡ map without_copy ys
      → map cell_of xs ≡ map cell_of ys
  cells-same xs ys e = sym (map-map (λ z. z.0) without_copy xs)
      ∙ (ap (map (λ z. z.0)) e ∙ map-map (λ z. z.0) without_copy ys)

  -- the first stop of cells that are whole is why their run was stopped
  pub stop-for : (reserves : List Reserve) (cells : List (EndedCell P))
      (stop : Option (ℕ × StopCause)) → AreWhole reserves cells
      → IfSome stop (λ at. IsStoppedAt cells at.0 at.1)
      → IfNone stop (AreUnstopped (length cells) cells) → IsStopFor reserves cells stop
  stop-for reserves cells None whole found missing = (whole, missing)
  stop-for reserves cells (Some (n, cause.Fault f)) whole found missing = (whole, found)
  stop-for reserves cells (Some (n, cause.Flaw f)) whole found missing = (whole, found)
  stop-for reserves cells (Some (n, cause.Memory)) whole found missing =
      let d = there cells n found.in_range in
      absurd (whole.had_memory n d.0 found.in_range d.1 (found.stopped d.0 d.1))

  owns-same : (xs ys : List (EndedCell P)) → map without_copy xs ≡ map without_copy ys
      → owns_in xs ≡ owns_in ys
  owns-same xs ys e = sym (map-map (λ z. z.2) without_copy xs)
      ∙ (ap (map (λ z. z.2)) e ∙ map-map (λ z. z.2) without_copy ys)

  -- ---- the copy of one node was taken, and gathered

  module _ (cells taken new : List (EndedCell P)) (n : ℕ) (lt : n < length cells)
      (copy : NoteCopy NotedGrowth)
      (found : (d : EndedCell P) → get_elem? cells n ≡ some d → IsCopyIn d.note copy) where
    pub copy-of : (id : TableId) → AreOfNotes id cells → copy.seat.table_id ≡ id
    copy-of id all = let d = there cells n lt in
        subst (IsOfNotes id) (found d.0 d.1) (all n d.0 d.1)

    copy-at : get_elem? (copies_in cells) n ≡ some (Some (copied_in copy))
    copy-at = let d = there cells n lt in
        at_map (λ (d : EndedCell P). copied_growths d.note) cells n d.0 d.1
        ∙ ap (λ x. some (copied_growths x)) (found d.0 d.1)

    pub gathered-one : (rs : List Reserve) (first : List (EndedCell P))
        → map without_copy taken ≡ map without_copy cells
        → ((m : ℕ) → m ≢ n → get_elem? (copies_in taken) m ≡ get_elem? (copies_in cells) m)
        → map without_copy new ≡ map without_copy taken → copies_in new ≡ copies_in taken
        → ((own : List NotedGrowth) → get_elem? (owns_in taken) (reserve_at rs copy.reserve).node
        ≡ some (Some own) → AreFirst (noted_in copy) own)
        → AreGatheredTo rs n first cells → AreGatheredTo rs (n + 1) first new
    gathered-one rs first same others again copied is_first h = record {
      same = again ∙ (same ∙ h.same);
      later = λ m le. ap (λ l. get_elem? l m) copied
          ∙ (others m (λ e. omega (arith, le, e)) ∙ h.later m (omega (arith, le)));
      gathered = one-more (λ m. HasFirstGrowths rs first m) n h.gathered (λ c own here at_own.
          let is : copied_in copy ≡ c = same-some (some-injective _ _
          (sym copy-at ∙ (h.later n (omega arith) ∙ here))) in
          subst (λ (z : CopiedGrowths). AreFirst z.growths own) is (is_first own
          (ap (λ l. get_elem? l (reserve_at rs copy.reserve).node)
          (owns-same taken first (same ∙ h.same))
          ∙ subst (λ (z : CopiedGrowths). get_elem? (owns_in first) (reserve_at rs z.reserve).node
          ≡ some (Some own)) (sym is) at_own)));
    }
      where
        same-some : {a b : CopiedGrowths} → Some a ≡ Some b → a ≡ b
        same-some e = cc
