-- Cells that stay in their places, and values in a row of two.
use Rattle.std.proofs.Common.{◌≡◌, ℕ, ◌+◌, List, [], ◌∷◌, ◌++◌, length, length-append, refl, ap, sym, subst, ◌∙◌, arith}
use mathlib.Core.Option.{some-ne-none}
use lib.ListN.{get_elem?}
use Rattle.atomic_table.specs.Seated.{TableId}
use Rattle.atomic_table.proofs.Lists.{at_last, at_longer}
use Rattle.std.proofs.lemmas.List.Elements.{All-nil, All-push}
use Rattle.task_queue.specs.declared.seat.ShelfSeat.{ShelfSeat}
use Rattle.task_queue.specs.declared.shelf.Shelf.{Shelf}
use Rattle.task_queue.specs.Rules.{all_shares}
use Rattle.task_queue.specs.Shelves.{parts, IsIdleSeatOf, AreAllIdle}
use Rattle.task_queue.specs.Values.{AllFit}
use Rattle.task_queue.proofs.SlotValues.{AllFit-push}
use Rattle.exec_tests.specs.NamedCells.{NamedBox, IsAsNamed, NamedCellFits}

-- a box is as it is named
pub as_named-same : (p : NamedBox) → IsAsNamed p p
as_named-same p = record {
  kind = refl;
  files = refl;
  lawful = refl;
  spec = λ s is. is;
  faults = omega arith;
  pendings = omega arith;
  pulled = omega arith;
}

as_named-later : (p q r : NamedBox) → IsAsNamed p q → IsAsNamed q r → IsAsNamed p r
as_named-later p q r first second = record {
  kind = second.kind ∙ first.kind;
  files = second.files ∙ first.files;
  lawful = second.lawful ∙ first.lawful;
  spec = λ s is. second.spec s (first.spec s is);
  faults = let a = first.faults in let b = second.faults in omega arith;
  pendings = let a = first.pendings in let b = second.pendings in omega arith;
  pulled = let a = first.pulled in let b = second.pulled in omega arith;
}

-- a cell stays in its place while its box stays as it is named
pub cell_fits-later : (table of : TableId) (named : ℕ → NamedBox) (k n : ℕ) (p q : NamedBox)
    → NamedCellFits table named of k p n → IsAsNamed p q → NamedCellFits table named of k q n
cell_fits-later table of named k n p q fit later = record {
  of = fit.of;
  number = fit.number;
  same = as_named-later (named n) p q fit.same later;
}

module _ {V : Type 0} where
  -- one seat with all parts
  pub idle-single : (shelf : Shelf V) (seats : List (ShelfSeat V)) (s : ShelfSeat V)
      → seats ≡ [] ++ s ∷ []
      → parts s ≡ all_shares → IsIdleSeatOf shelf s → AreAllIdle shelf seats
  idle-single shelf seats s is whole idle = subst (AreAllIdle shelf) (sym is) (
    (let w = whole in omega arith),
    All-push (IsIdleSeatOf shelf) [] s (All-nil (IsIdleSeatOf shelf)) idle,
  )

  -- two seats with all parts between them
  pub idle-two : (shelf : Shelf V) (seats : List (ShelfSeat V)) (s t : ShelfSeat V)
      → seats ≡ ([] ++ s ∷ []) ++ t ∷ [] → parts s + parts t ≡ all_shares
      → IsIdleSeatOf shelf s → IsIdleSeatOf shelf t → AreAllIdle shelf seats
  idle-two shelf seats s t is whole first second = subst (AreAllIdle shelf) (sym is) (
    (let w = whole in omega arith),
    All-push (IsIdleSeatOf shelf) (s ∷ []) t
        (All-push (IsIdleSeatOf shelf) [] s (All-nil (IsIdleSeatOf shelf)) first) second,
  )

  -- two values at their places
  pub fit-two : (fits : V → ℕ → Type 0) (all : List V) (a b : V) → all ≡ ([] ++ a ∷ []) ++ b ∷ []
      → fits a 0 → fits b 1 → AllFit fits all
  fit-two fits all a b is fit_a fit_b = subst (AllFit fits) (sym is)
      (AllFit-push fits (a ∷ []) b fit_b
      (AllFit-push fits [] a fit_a (λ n v at. absurd (some-ne-none v (sym at)))))

  -- the last value fits the last place
  pub fit-last : (fits : V → ℕ → Type 0) (all left : List V) (x : V) → all ≡ left ++ x ∷ []
      → AllFit fits all → (n : ℕ) → length all ≡ n + 1 → fits x n
  fit-last fits all left x is fit n many = fit n x (ap (λ l. get_elem? l n) is
      ∙ at_last left x n
      (let a = ap length is in let b = length-append left (x ∷ []) in omega arith))

  -- the others fit theirs
  pub fit-rest : (fits : V → ℕ → Type 0) (all left : List V) (x : V) → all ≡ left ++ x ∷ []
      → AllFit fits all → AllFit fits left
  fit-rest fits all left x is fit n v at =
      fit n v (ap (λ l. get_elem? l n) is ∙ at_longer left (x ∷ []) n v at)
