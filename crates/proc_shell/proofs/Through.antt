-- Kinds of one input and one output, and among them those that make something of each chunk by
-- itself.
use Rattle.proc_shell.proofs.Imports.{AreCounts, ArePortsOf, Bool, FitsInput, GrowthForm, IfSome, IsAtMost, IsPermutation, IsPulled, IsShelled, KernelState, LetsPush, List, Lists, Makes, MakesTypes, Means, None, Option, OwnState, Reading, Row, Some, Spec, Table, Takes, [], all_rows, ap, append-nil, arith, chunk_rows, common_steps, cond, contract_of, eq-eqb, eqb-true, inl, inr, length, more-rows, most_rows, ne_eqb, refl, rows-append, rows_if_some, subst, true, with_chunk, work_of, ℕ, ◌++◌, ◌<◌, ◌==◌, ◌∙◌, ◌∷◌, ◌≡◌, ◌≢◌, ◌⊎◌, AreAsKept, PortFlags, StandStill}

-- ---- what is worked

-- one chunk more of the input
pub one-more : (worked : List Table) (t : Table)
    → chunk_rows (worked ++ t ∷ []) ≡ chunk_rows worked ++ t.rows
one-more worked t = grind (arith, common_steps, rows-append)

pub chunk-here : (i : ℕ) (t : Table) (worked : Lists) → with_chunk i t worked i ≡ worked i ++ t ∷ []
chunk-here i t worked = ap (λ b. worked i ++ cond b (t ∷ []) []) (eq-eqb i i refl)

pub chunk-elsewhere : (i j : ℕ) (t : Table) (worked : Lists) → j ≢ i
    → with_chunk i t worked j ≡ worked j
chunk-elsewhere i j t worked ne = grind (arith, common_steps, ne_eqb)

pub rows-here : (t : Table) (worked : Lists)
    → chunk_rows (with_chunk 0 t worked 0) ≡ chunk_rows (worked 0) ++ t.rows
rows-here t worked = ap chunk_rows (chunk-here 0 t worked) ∙ one-more (worked 0) t

-- the rows of all inputs with a chunk more
pub all-more : (i : ℕ) (t : Table) (worked : Lists) → i < 32
    → IsPermutation (all_rows 32 (with_chunk i t worked)) (all_rows 32 worked ++ t.rows)
all-more i t worked lt =
    subst (λ l. IsPermutation (all_rows 32 (with_chunk i t worked)) (all_rows 32 worked ++ l))
    (append-nil t.rows) (more-rows 32 i worked (with_chunk i t worked) (t ∷ [])
    (chunk-here i t worked) (λ j ne. chunk-elsewhere i j t worked ne) lt)

-- ---- offers and rows

-- a kind of which nothing is left to be made
pub makes-nothing : (s : Spec) (own : OwnState) → own.unmade ≡ [] → Makes s own own None
makes-nothing s own e = grind (arith, common_steps)

-- ---- one output

abbrev pub is_in_order : Spec → Bool
is_in_order s = (contract_of (Some s)).traits.in_order

in-order : (s : Spec) → is_in_order s ≡ true → (x : Reading) (own : OwnState)
    (worked outs more : Lists) (wait rest : List Row)
    → chunk_rows (more 0) ++ rest ≡ chunk_rows (outs 0) ++ wait → Means x s own worked outs wait
    → Means x s own worked more rest
in-order s i x own worked outs more wait rest e h = grind arith

pub pushes-in-order : (s : Spec) → is_in_order s ≡ true
    → ((growth : Option GrowthForm) (inputs outputs : ℕ)
    → ArePortsOf (Some s) growth inputs outputs → outputs ≡ 1) → LetsPush s
pushes-in-order s i one x own worked outs more growth inputs outputs o pushed rest ports at others
    h =
    elim at [
      | inl y ↦
          let e = one growth inputs outputs ports in
          let lt = y.0 in
          let z : o ≡ 0 = omega (arith, e, lt) in
          let first : more 0 ≡ outs 0 ++ pushed = subst (λ n. more n ≡ outs n ++ pushed) z y.2 in
          let same : chunk_rows (more 0) ++ chunk_rows rest
          ≡ chunk_rows (outs 0) ++ chunk_rows (pushed ++ rest) =
          grind (arith, common_steps, rows-append) in
          in-order s i x own worked outs more (chunk_rows (pushed ++ rest)) (chunk_rows rest) same h
      | inr none ↦ absurd (let e = one growth inputs outputs ports in omega (arith, e, none))
    ]

-- a kind with so many inputs and one output
pub record HasPortCounts (s : Spec) (inputs : ℕ) : Type 0 where
  pub ports : (growth : Option GrowthForm) (m n : ℕ) → ArePortsOf (Some s) growth m n
      → AreCounts m n inputs 1

-- a kind with one output whose ports its spec fixes
pub shelled-of : (s : Spec) (inputs : ℕ) → is_in_order s ≡ true → HasPortCounts s inputs
    → IsShelled s
shelled-of s inputs i c = grind (arith, pushes-in-order)

-- a kind whose ports are those of its last view, of which one is an output
pub record HasKeptPorts (s : Spec) : Type 0 where
  pub position : (kept : PortFlags) (m n : ℕ) → StandStill (Some s) (Some kept) m n
      → AreAsKept (Some kept) m n
  pub one : (growth : Option GrowthForm) (m n : ℕ) → ArePortsOf (Some s) growth m n → n ≡ 1

pub shelled-still : (s : Spec) → is_in_order s ≡ true → HasKeptPorts s → IsShelled s
shelled-still s i c = search (arith, pushes-in-order)

-- ---- each chunk by itself

-- what a kind has made are the rows that are made of those of its chunks, of each by itself
pub record IsMaker (s : Spec) (make : List Row → List Row) : Type 0 where
  pub both : (xs ys : List Row) → make (xs ++ ys) ≡ make xs ++ make ys
  pub into : (x : Reading) (own : OwnState) (worked outs : Lists) (wait : List Row)
      → chunk_rows (outs 0) ++ wait ≡ make (chunk_rows (worked 0)) → Means x s own worked outs wait
  pub from : (x : Reading) (own : OwnState) (worked outs : Lists) (wait : List Row)
      → Means x s own worked outs wait → chunk_rows (outs 0) ++ wait ≡ make (chunk_rows (worked 0))

pub takes-each : (s : Spec) (make : List Row → List Row) → IsMaker s make
    → (own : OwnState) (i : ℕ) (t : Table) (o : Option Table) → i ≡ 0
    → FitsInput (Some s) i t.types → rows_if_some o ≡ make t.rows → ((ins : Lists)
    → IsPulled ins t.types → IfSome o (λ (c : Table). MakesTypes (Some s) ins c.types)) → IfSome o
    (λ (c : Table). IsAtMost (most_rows (Some s)) (length c.rows)) → Takes s own i t own o
takes-each s make k own i t o z fit rows types sizes = grind (arith, common_steps, rows-here)

-- a chunk that doesn't fit is dropped
pub drops-misfit : (s : Spec) (own : OwnState) (i : ℕ) (t : Table)
    → (FitsInput (Some s) i t.types → ⊥) → Takes s own i t own None
drops-misfit s own i t misfit = grind arith

-- what such a kind doesn't use is idle, since all that isn't worked came from the first input
pub first-source : (x : KernelState) (i : ℕ) (unworked made : List Table) → ((i ≡ 0)
    × (unworked ≡ [])) ⊎ ((i == 0) ≡ true) → work_of x i unworked made ≡ work_of x 0 unworked made
first-source x i unworked made e = grind (arith, eqb-true)
