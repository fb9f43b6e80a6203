-- What a shell holds, and what the steps of a prepare find and change at its ports.
use Rattle.std.specs.Prelude.{◌&&◌, ◌+◌, ◌<◌, ◌∷◌, ◌≡◌, ◌≤◌}
use Rattle.proc_shell.specs.Prelude.{Answer, Bool, ChangedByCalls, Held, InputPort, List, Made, None, Nothing, Option, Picture, Prepared, Row, RowCount, Scheduled, Some, Table, TurnsInput, Unworked, [], can_push, closed, cond, false, holds_data, in_count, input_at, is_in_finished, is_out_finished, nat_lt, needing, not, out_count, output_at, pushes_to, raised, true, ℕ}
use Rattle.proc_api.specs.declared.status.Status.TheVariants as status
use Rattle.proc_api.specs.declared.status.Wake.TheVariants as wake

-- ---- what is held

abbrev pub held_unworked : Held → List Table
held_unworked Nothing = []
held_unworked (Unworked i c) = c ∷ []
held_unworked (Made c) = []

abbrev pub held_made : Held → List Table
held_made Nothing = []
held_made (Unworked i c) = []
held_made (Made c) = c ∷ []

-- the input of what isn't worked
abbrev pub source_of : Held → ℕ
source_of Nothing = 0
source_of (Unworked i c) = i
source_of (Made c) = 0

-- what isn't worked came from an input from which a chunk was wanted, and a kind that makes none
-- holds none
abbrev pub is_wanted : (ℕ → Bool) → (makes : Bool) → Held → Bool
is_wanted wants makes Nothing = true
is_wanted wants makes (Unworked i c) = wants i && nat_lt i 32
is_wanted wants makes (Made c) = makes

-- a chunk that can be pushed has rows
abbrev pub held_rows : List Row → Table → Held
held_rows [] t = Nothing
held_rows (row ∷ rows) t = Made t

abbrev pub held_option : Option Table → Held
held_option None = Nothing
held_option (Some t) = held_rows t.rows t

-- whether `work` or `schedule` may be called
abbrev pub is_call_due : Option Answer → (acted : Bool) → Bool
is_call_due (Some (Prepared status.Ready)) acted = not acted
is_call_due (Some (Prepared status.Async)) acted = true
is_call_due (Some (Scheduled wake.Ready)) acted = not acted
is_call_due (Some (Scheduled wake.Later)) acted = true
is_call_due a acted = false

-- where one of them may be called no chunk waits to be pushed
abbrev pub may_hold : Option Answer → Bool → Held → Bool
may_hold a acted Nothing = true
may_hold a acted (Unworked i c) = true
may_hold a acted (Made c) = not (is_call_due a acted)

-- so many rows were counted
pub record CountsRows (rows : ℕ) (old new : RowCount) : Type 0 where
  pub total : new.total ≡ raised old.total rows
  pub grows : old.total ≤ new.total
  pub since : new.total + old.since ≡ old.total + new.since

-- ---- what is found at the ports

-- there is room at an output, which isn't finished
pub record IsFreeOutput (v : Picture) (o : ℕ) : Type 0 where
  pub in_range : o < out_count v
  pub room : can_push (output_at v o) ≡ true
  pub unfinished : is_out_finished (output_at v o) ≡ false

-- an output isn't finished
pub record HasOpen (v : Picture) : Type 0 where
  pub output : ℕ
  pub in_range : output < out_count v
  pub unfinished : is_out_finished (output_at v output) ≡ false

-- a wanted input with data
pub record IsWantedFull (wants : ℕ → Bool) (v : Picture) (i : ℕ) : Type 0 where
  pub in_range : i < in_count v
  pub wanted : wants i ≡ true
  pub holds : holds_data (input_at v i).flags ≡ true

-- a wanted input that isn't finished
pub record IsWanted (wants : ℕ → Bool) (v : Picture) (i : ℕ) : Type 0 where
  pub in_range : i < in_count v
  pub wanted : wants i ≡ true
  pub unfinished : is_in_finished (input_at v i).flags ≡ false

abbrev pub AreWantedEmpty : (ℕ → Bool) → Picture → Type 0
AreWantedEmpty wants v = (i : ℕ) → i < in_count v → wants i ≡ true
    → holds_data (input_at v i).flags ≡ false

abbrev pub AreWantedOver : (ℕ → Bool) → Picture → Type 0
AreWantedOver wants v = (i : ℕ) → i < in_count v → wants i ≡ true
    → is_in_finished (input_at v i).flags ≡ true

-- ---- what is changed at them

-- a wanted input is asked for data
abbrev pub asked : (ℕ → Bool) → ℕ → InputPort → InputPort
asked wants i x = cond (wants i) (needing x true) x

-- the asking is taken back
abbrev pub unasked : ℕ → InputPort → InputPort
unasked i x = needing x false

-- an input that isn't finished is closed
abbrev pub shut_open : ℕ → InputPort → InputPort
shut_open i x = cond (is_in_finished x.flags) x (closed x)

-- input i is changed by f, and nothing else but actions
pub record ChangesInput (f : ℕ → InputPort → InputPort) (i : ℕ) (v w : Picture) : Type 0 where
  pub changed : ChangedByCalls v w
  pub turns : TurnsInput v i (f i (input_at v i)) w

-- the first n inputs are changed by f, and nothing else but actions
pub record ChangesInputs (f : ℕ → InputPort → InputPort) (n : ℕ) (v w : Picture) : Type 0 where
  pub changed : ChangedByCalls v w
  pub ins : in_count w ≡ in_count v
  pub outs : out_count w ≡ out_count v
  pub below : (i : ℕ) → i < n → input_at w i ≡ f i (input_at v i)
  pub above : (i : ℕ) → n ≤ i → input_at w i ≡ input_at v i
  pub outputs : (o : ℕ) → output_at w o ≡ output_at v o
  pub pushes : (o : ℕ) → pushes_to o w.actions ≡ pushes_to o v.actions
