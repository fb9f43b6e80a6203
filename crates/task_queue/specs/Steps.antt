-- What each step of a seat tells.
use Rattle.std.specs.Prelude.{◌≡◌, ◌≢◌, ℕ, ◌+◌, ◌-◌, [], ◌∷◌, Option, Some}
use Rattle.atomic_table.specs.Table.{Me, Step, rest}
use Rattle.task_queue.specs.declared.seat.Holding.{Holding}
use Rattle.task_queue.specs.Numbers.{without_each}

abbrev pub taking : ℕ → Holding → Holding
taking n v = record { parts = v.parts; held = n ∷ v.held }

abbrev pub leaving : ℕ → Holding → Holding
leaving n v = record { parts = v.parts; held = without_each n v.held }

-- a seat without one part, and a seat with just that part
abbrev pub less_one_share : Holding → Holding
less_one_share v = record { parts = v.parts - 1; held = v.held }

abbrev pub one_share : Holding
one_share = record { parts = 1; held = [] }

-- a seat with the parts of both, and a seat with none
abbrev pub with_shares_of : Holding → Holding → Holding
with_shares_of v w = record { parts = v.parts + w.parts; held = v.held }

abbrev pub no_share : Holding
no_share = record { parts = 0; held = [] }

module _ {V : Type 0} where
  -- the value of the place n went from its home to the seat
  pub record Takes
      (fits : V → ℕ → Type 0)
      (m : Me (Option V) Holding)
      (n : ℕ)
      (m' : Me (Option V) Holding) : Type 0 where
    pub value : V
    pub fitting : fits value n
    pub seat : m' ≡ (taking n m.0, (n, Some value) ∷ m.1)

  -- the slot that the seat took last has a value that fits its place n
  pub record LiesFirst
      (fits : V → ℕ → Type 0)
      (n : ℕ)
      (m : Me (Option V) Holding) : Type 0 where
    pub value : V
    pub fitting : fits value n
    pub first : m.1 ≡ (n, Some value) ∷ rest m.1

  -- where the word was 1, the value of its place was taken
  pub record Claims
      (fits : V → ℕ → Type 0)
      (st : Step (Option V))
      (m : Me (Option V) Holding)
      (found : ℕ)
      (m' : Me (Option V) Holding) : Type 0 where
    pub took : found ≡ 1 → (n : ℕ) → st.word ≡ n + 1 → Takes fits m n m'
    pub left : found ≢ 1 → m' ≡ m

  -- the slot that was taken last went home to the word's place
  abbrev pub Returns : Step (Option V) → Me (Option V) Holding → ℕ → Me (Option V) Holding → Type 0
  Returns st m found m' = (n : ℕ) → st.word ≡ n + 1 → m' ≡ (leaving n m.0, rest m.1)
