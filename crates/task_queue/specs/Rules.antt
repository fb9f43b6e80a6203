-- The rule of a shelf: each value at home fits its place, and some seat holds each other place.
use Rattle.std.specs.Prelude.{◌≡◌, ◌⊎◌, ℕ, ◌+◌, ◌<◌, ◌≤◌, ◌==◌, [], length, slice_index, Option, Some, Vec, vec_capacity, cond}
use Rattle.std.specs.declared.alloc.Global.{Global}
use mathlib.Core.Option.{some}
use lib.ListN.{get_elem?}
use Rattle.atomic_table.specs.Table.{State}
use Rattle.task_queue.specs.declared.seat.Holding.{Holding}
use Rattle.task_queue.specs.Numbers.{times, total_over}

-- the parts of all seats together
abbrev pub all_shares : ℕ
all_shares = 4294967296

-- what the first seat knows
abbrev pub whole_holding : Holding
whole_holding = record { parts = all_shares; held = [] }

-- how often a seat with a part of the shelf holds the place
abbrev pub held_at : ℕ → Holding → ℕ
held_at n v = cond (v.parts == 0) 0 (times n v.held)

module _ {V : Type 0} where
  pub record IsHome (fits : V → ℕ → Type 0) (s : State (Option V) Holding) (n : ℕ) : Type 0 where
    pub word : slice_index s.words (n + 1) ≡ 1
    pub value : V
    pub here : get_elem? s.homes n ≡ some (some (Some value))
    pub fitting : fits value n

  pub record IsOut (s : State (Option V) Holding) (n : ℕ) : Type 0 where
    pub word : slice_index s.words (n + 1) ≡ 0
    pub known : 1 ≤ total_over (held_at n) s.views

  pub record IsKept (fits : V → ℕ → Type 0) (s : State (Option V) Holding) : Type 0 where
    pub wide : length s.words ≡ length s.homes + 1
    pub whole : total_over (λ v. v.parts) s.views ≡ all_shares
    pub places : (n : ℕ) → n < length s.homes → IsHome fits s n ⊎ IsOut s n

  -- slot 0 has a list of no values, with room for so many
  pub record HasRoom (count : ℕ) (s : State (Vec V Global) (Unit {0})) : Type 0 where
    pub room : Vec V Global
    pub here : get_elem? s.homes 0 ≡ some (some room)
    pub bare : room.items ≡ []
    pub wide : count ≤ vec_capacity room
