-- What actions do to ports: the flags and chunks of a port after a list of actions, in their order.
use Rattle.std.specs.Prelude.{◌*◌, ◌+◌, ◌==◌, ◌||◌, ◌∷◌, ◌≡◌, ◌≢◌}
use Rattle.port_word.specs.Prelude.{Action, Bool, Close, Finish, Flags, List, None, Option, Pull, Push, Table, Unwant, Want, [], cond, false, not, true, ℕ}
use Rattle.port_word.specs.Pictures.{holds_data, can_push, is_out_finished}

-- the flags of input i after an action
abbrev pub input_step : ℕ → Action → Flags → Flags
input_step i (Want j) f = cond (i == j) (record f { needed = true }) f
input_step i (Unwant j) f = cond (i == j) (record f { needed = false }) f
input_step i (Pull j) f = cond (i == j) (record f { has_data = false }) f
input_step i (Close j) f = cond (i == j) (record f { fin_in = true }) f
input_step i (Push j chunk) f = f
input_step i (Finish j) f = f

-- the chunk at input i after an action
abbrev pub chunk_step : ℕ → Action → Option Table → Option Table
chunk_step i (Want j) c = c
chunk_step i (Unwant j) c = c
chunk_step i (Pull j) c = cond (i == j) None c
chunk_step i (Close j) c = c
chunk_step i (Push j chunk) c = c
chunk_step i (Finish j) c = c

-- the flags of output o after an action
abbrev pub output_step : ℕ → Action → Flags → Flags
output_step o (Want j) f = f
output_step o (Unwant j) f = f
output_step o (Pull j) f = f
output_step o (Close j) f = f
output_step o (Push j chunk) f = cond (o == j) (record f { has_data = true }) f
output_step o (Finish j) f = cond (o == j) (record f { fin_out = true }) f

-- the flags of input i after a list of actions
abbrev pub input_after : ℕ → List Action → Flags → Flags
input_after i [] f = f
input_after i (a ∷ actions) f = input_after i actions (input_step i a f)

abbrev pub chunk_after : ℕ → List Action → Option Table → Option Table
chunk_after i [] c = c
chunk_after i (a ∷ actions) c = chunk_after i actions (chunk_step i a c)

abbrev pub output_after : ℕ → List Action → Flags → Flags
output_after o [] f = f
output_after o (a ∷ actions) f = output_after o actions (output_step o a f)

-- whether input i, with these flags, allows an action: a pull where data lies at an open input,
-- anything else where it is open
abbrev pub input_allows : ℕ → Action → Flags → Bool
input_allows i (Want j) f = not (i == j) || not f.fin_in
input_allows i (Unwant j) f = not (i == j) || not f.fin_in
input_allows i (Pull j) f = not (i == j) || holds_data f
input_allows i (Close j) f = not (i == j) || not f.fin_in
input_allows i (Push j chunk) f = true
input_allows i (Finish j) f = true

-- whether output o, with these flags, allows an action: a push where the port is needed, empty and
-- not finished by its producer, a finish where no end finished it
abbrev pub output_allows : ℕ → Action → Flags → Bool
output_allows o (Want j) f = true
output_allows o (Unwant j) f = true
output_allows o (Pull j) f = true
output_allows o (Close j) f = true
output_allows o (Push j chunk) f = not (o == j) || can_push f
output_allows o (Finish j) f = not (o == j) || not (is_out_finished f)

-- each action stands where input i allows it
abbrev pub InputAllows : ℕ → List Action → Flags → Type 0
InputAllows i [] f = Unit {0}
InputAllows i (a ∷ actions) f = (input_allows i a f ≡ true)
    × InputAllows i actions (input_step i a f)

-- each action stands where output o allows it
abbrev pub OutputAllows : ℕ → List Action → Flags → Type 0
OutputAllows o [] f = Unit {0}
OutputAllows o (a ∷ actions) f = (output_allows o a f ≡ true)
    × OutputAllows o actions (output_step o a f)

-- Want and Unwant of a port share one slot, and each other action of a port has one of its own:
-- three slots an input, two an output
abbrev pub action_slot : Action → ℕ
action_slot (Want i) = 5 * i
action_slot (Unwant i) = 5 * i
action_slot (Pull i) = 5 * i + 1
action_slot (Close i) = 5 * i + 2
action_slot (Push o chunk) = 5 * o + 3
action_slot (Finish o) = 5 * o + 4

-- P holds of each action
abbrev pub EachAction : (Action → Type 0) → List Action → Type 0
EachAction P [] = Unit {0}
EachAction P (a ∷ actions) = P a × EachAction P actions

-- no two actions have one slot
abbrev pub IsOnce : List Action → Type 0
IsOnce [] = Unit {0}
IsOnce (a ∷ actions) = EachAction (λ b. action_slot b ≢ action_slot a) actions × IsOnce actions

abbrev pub want_of : Bool → ℕ → Action
want_of true i = Want i
want_of false i = Unwant i

abbrev pub is_want : ℕ → Action → Bool
is_want i (Want j) = j == i
is_want i (Unwant j) = j == i
is_want i (Pull j) = false
is_want i (Close j) = false
is_want i (Push j chunk) = false
is_want i (Finish j) = false

-- Want or Unwant of input i in the place of the earlier one, or at the end
abbrev pub noted_want : ℕ → Bool → List Action → List Action
noted_want i b [] = want_of b i ∷ []
noted_want i b (a ∷ actions) =
    cond (is_want i a) (want_of b i ∷ actions) (a ∷ noted_want i b actions)
