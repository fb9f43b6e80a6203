-- All cells, before the run and after it.
use Rattle.node_workers.proofs.Imports.{AllFit, AreNamed, AreStored, Bare, Birth, BoxPicture, CellFits, CellNote, Copied, EndedCell, HaveFirstNotes, Identity, IsBoxLeft, IsFirstNote, IsNoteFor, List, NamedCell, NamedNode, Names, NodeCell, None, Own, Reserve, StandsAmong, TableId, [], ap, as_ended, as_named, at_map, births_by, births_in, cell_ports, first_edge_in, get_elem?, left-itself, length, map, named_by, named_node, no_node, node_cell, refl, reserve_at, reserve_form, seat-as, slice_index_or, some, some-injective, some-ne-none, stands-new, subst, suc, sym, zero, ℕ, ◌∙◌, ◌∷◌, ◌≡◌}

fit-map : {A B : Type 0} (f : A → B) (Q : B → ℕ → Type 0) (xs : List A)
    → ((n : ℕ) (a : A) → get_elem? xs n ≡ some a → Q (f a) n) → AllFit Q (map f xs)
fit-map f Q [] h n b at = absurd (some-ne-none b (sym at))
fit-map f Q (x ∷ xs) h zero b at = subst (λ z. Q z 0) (some-injective (f x) b at) (h 0 x refl)
fit-map f Q (x ∷ xs) h (suc n) b at =
    fit-map f (λ y k. Q y (suc k)) xs (λ k a e. h (suc k) a e) n b at

index-map : {A : Type 0} (f : A → NamedNode) (xs : List A) (n : ℕ) (a : A)
    → get_elem? xs n ≡ some a → slice_index_or (map f xs) n no_node ≡ f a
index-map f [] n a at = absurd (some-ne-none a (sym at))
index-map f (x ∷ xs) zero a at = subst (λ z. f x ≡ f z) (some-injective x a at) refl
index-map f (x ∷ xs) (suc n) a at = index-map f xs n a at

-- cells that were moved into ones that can lie on the shelf, and back, are as they were
pub node_cells-named : {P : Type 0} (J : Type 0) (cells : List (NodeCell P))
    → map node_cell (map (as_named {P = P} {J = J}) cells) ≡ cells
node_cells-named J [] = refl
node_cells-named J (c ∷ cs) = ap (λ l. c ∷ l) (node_cells-named J cs)

-- ---- the notes before the run

module _ (notes : TableId) (reserves : List Reserve) (n : ℕ) where
  note-for : (x : CellNote) → IsFirstNote notes reserves (length reserves) n x
      → IsNoteFor notes reserves n x
  note-for Bare h = h
  note-for (Own x) h = (h.0, h.1, h.2)
  note-for (Copied x) h = absurd h

  no-births : (x : CellNote) → IsFirstNote notes reserves (length reserves) n x
      → births_in reserves x ≡ []
  unfolding reserve_at
  no-births Bare h = refl
  no-births (Own x) h = ap (births_by (reserve_at reserves x.reserve).node) h.3
  no-births (Copied x) h = absurd h

module _ {P : Type 0} (seen : P → BoxPicture) where
  -- each cell is what it is named
  pub named-themselves : (cells : List (NodeCell P))
      → AreNamed seen (named_by seen cells) cells
  named-themselves cells = index-map (named_node seen) cells

  -- stored cells fit their places
  pub stored-fit : {J : Type 0} (x : Names) (cells : List (NodeCell P))
      (named : List (NamedCell P J)) → AreStored seen x.identity cells
      → AreNamed seen x.node cells
      → HaveFirstNotes x.notes x.identity.sizes.reserves (length x.identity.sizes.reserves) cells
      named
      → AllFit (λ (d : NamedCell P J) n. CellFits x seen n d.cell d.stopped d.note) named
  stored-fit {J} x cells named h same first n d at =
      let z = x.identity.sizes in let c = d.cell in let own = first.each n d at in
      let here : get_elem? cells n ≡ some c =
      subst (λ l. get_elem? l n ≡ some c) first.same (at_map node_cell named n d at) in
      let none = sym (no-births x.notes z.reserves n d.note own.note_is) in
      let seat = seat-as seen x.identity c.mark.state c (h.stored n c here) in record {
        seat = seat;
        number = h.numbers n c here;
        note = note-for x.notes z.reserves n d.note own.note_is;
        stands = λ _. rw ((same n c here)) (subst (λ (b : List Birth). StandsAmong z.wires
            (first_edge_in z.reserves d.note) b n (reserve_form c.reserve) (cell_ports c)
            (reserve_form c.reserve) (seen c.processor)) none (stands-new z.wires _ n (reserve_form
            c.reserve) (cell_ports c) (seen c.processor) (sym seat.number ∙ h.numbers n c here)
            (h.places n c here)));
        box = subst (λ o. IsBoxLeft o (births_in z.reserves d.note) n (x.node n).box (seen
            c.processor)) (sym own.going) (rw ((same n c here)) (subst (λ (b : List Birth).
            IsBoxLeft None b n (seen c.processor) (seen c.processor)) none (left-itself n (seen
            c.processor))));
        lies = rw own.going (h.stored n c here);
      }

  -- so do the cells that a run is to begin with
  pub named-fit : {J : Type 0} (x : Names) (t : Identity) (notes : TableId)
      (reserves : List Reserve) (cells : List (NodeCell P)) (named : List (NamedCell P J))
      → t ≡ x.identity → notes ≡ x.notes → reserves ≡ x.identity.sizes.reserves
      → AreStored seen t cells
      → AreNamed seen x.node cells
      → HaveFirstNotes notes reserves (length reserves) cells named
      → AllFit (λ (d : NamedCell P J) n. CellFits x seen n d.cell d.stopped d.note) named
  named-fit {J} x t notes reserves cells named same noted of stored are first =
      stored-fit x cells named (subst (λ t. AreStored seen t cells) same stored) are
      (rw of at (subst (λ i. HaveFirstNotes i reserves (length reserves) cells named) noted first))

  -- what lay on the shelf is as it is to end
  pub cleared-each : {J : Type 0} (x : Names) (cells : List (NamedCell P J))
      (ended : List (EndedCell P)) → ended ≡ map as_ended cells
      → AllFit (λ d n. CellFits x seen n d.cell d.stopped d.note) cells
      → (n : ℕ) (d : EndedCell P) → get_elem? ended n ≡ some d
      → CellFits x seen n d.cell d.stopped d.note
  cleared-each x cells ended is fit n d at = fit-map as_ended (λ d n. CellFits x seen n d.cell
      d.stopped d.note) cells fit n d (subst (λ l. get_elem? l n ≡ some d) is at)
