-- The notes that the nodes of reserves get before a run.
use Rattle.node_workers.proofs.Imports.{Bare, CellNote, Copied, HaveFirstNotes, IsFirstNamed, IsFirstNote, List, NamedCell, NodeCell, Own, Reserve, TableId, [], ap, arith, as_named, cases_lt, get_elem?, length, map, node_cell, refl, reserve_at, set, some, some-injective, some-ne-none, subst, suc, sym, zero, ℕ, ◌+◌, ◌<◌, ◌∙◌, ◌∷◌, ◌≡◌, ◌≢◌, ◌≤◌}
use Rattle.node_workers.proofs.EndLaws.{node_cells-named}

-- an element stands below the length
pub within : {V : Type 0} (xs : List V) (n : ℕ) (v : V) → get_elem? xs n ≡ some v → n < length xs
within [] n v at = absurd (some-ne-none v (sym at))
within (x ∷ xs) zero v at = omega arith
within (x ∷ xs) (suc n) v at = let lt = within xs n v at in omega (arith, lt)

-- what holds of each element but that at k, and of the new one there
pub set-each : {V : Type 0} (Q : ℕ → V → Type 0) (xs : List V) (k : ℕ) (y : V)
    → ((n : ℕ) (v : V) → get_elem? xs n ≡ some v → n ≢ k → Q n v) → Q k y → (n : ℕ) (v : V)
    → get_elem? (set xs k y) n ≡ some v → Q n v
set-each Q [] k y h q n v at = absurd (some-ne-none v (sym at))
set-each Q (x ∷ xs) zero y h q zero v at = subst (Q 0) (some-injective y v at) q
set-each Q (x ∷ xs) zero y h q (suc n) v at = h (suc n) v at (λ e. omega (arith, e))
set-each Q (x ∷ xs) (suc k) y h q zero v at = h 0 v at (λ e. omega (arith, e))
set-each Q (x ∷ xs) (suc k) y h q (suc n) v at = set-each (λ m. Q (suc m)) xs k y (λ m w e ne. h
    (suc m) w e (λ s. ne (omega (arith, s)))) q n v at

set-same : {V W : Type 0} (f : V → W) (xs : List V) (k : ℕ) (y : V)
    → ((v : V) → get_elem? xs k ≡ some v → f y ≡ f v) → map f (set xs k y) ≡ map f xs
set-same f [] k y h = refl
set-same f (x ∷ xs) zero y h = ap (λ z. z ∷ map f xs) (h x refl)
set-same f (x ∷ xs) (suc k) y h = ap (λ l. f x ∷ l) (set-same f xs k y h)

module _ (notes : TableId) (reserves : List Reserve) where
  -- a reserve more, which isn't the node's
  more-reserves : (k n : ℕ) (x : CellNote) → (reserve_at reserves k).node ≢ n
      → IsFirstNote notes reserves k n x → IsFirstNote notes reserves (k + 1) n x
  more-reserves k n x ne h = grind (arith, cases_lt)

  module _ {P J : Type 0} (cells : List (NodeCell P)) where
    -- no reserve has got its note
    pub first-none : HaveFirstNotes {J = J} notes reserves 0 cells (map as_named cells)
    first-none = record { same = node_cells-named J cells; each = bare cells }
      where
        bare : (xs : List (NodeCell P)) (n : ℕ) (d : NamedCell P J)
            → get_elem? (map as_named xs) n ≡ some d → IsFirstNamed notes reserves 0 n d
        bare [] n d at = absurd (some-ne-none d (sym at))
        bare (x ∷ xs) zero d at = subst (IsFirstNamed notes reserves 0 0) (some-injective (as_named
            x) d at) record { note_is = λ j lt. absurd (omega (arith, lt)); going = refl }
        bare (x ∷ xs) (suc n) d at = let b = bare xs n d at in
            record { note_is = any d.note b.note_is; going = b.going }
          where
            any : (x : CellNote) → IsFirstNote notes reserves 0 n x
                → IsFirstNote notes reserves 0 (suc n) x
            any Bare h = λ j lt. absurd (omega (arith, lt))
            any (Own x) h = let lt = h.1 in absurd (omega (arith, lt))
            any (Copied x) h = h

    -- the node of a reserve has no cell
    pub first-past : (k : ℕ) (named : List (NamedCell P J))
        → length named ≤ (reserve_at reserves k).node
        → HaveFirstNotes notes reserves k cells named
        → HaveFirstNotes notes reserves (k + 1) cells named
    first-past k named past h = record {
      same = h.same;
      each = λ n d at. record {
        note_is = more-reserves k n d.note (λ e. let lt = within named n d at in
            omega (arith, past, e, lt)) (h.each n d at).note_is;
        going = (h.each n d at).going;
      };
    }

    -- it has one, which gets the note
    pub first-more : (k : ℕ) (named : List (NamedCell P J)) (d : NamedCell P J) (x : CellNote)
        → get_elem? named (reserve_at reserves k).node ≡ some d
        → IsFirstNote notes reserves (k + 1) (reserve_at reserves k).node x
        → HaveFirstNotes notes reserves k cells named
        → HaveFirstNotes notes reserves (k + 1) cells
        (set named (reserve_at reserves k).node record d { note = x })
    first-more k named d x at own h = let n : ℕ = (reserve_at reserves k).node in record {
      same = set-same node_cell named n record d { note = x } (λ v e.
          ap (λ (c : NamedCell P J). c.cell) (some-injective d v (sym at ∙ e))) ∙ h.same;
      each = set-each (IsFirstNamed notes reserves (k + 1)) named n record d { note = x }
          (λ m v e ne. record {
            note_is = more-reserves k m v.note (λ s. ne (sym s)) (h.each m v e).note_is;
            going = (h.each m v e).going;
          }) record { note_is = own; going = (h.each n d at).going };
    }
