-- Lists of events.
use Rattle.std.specs.Prelude.{◌≡◌, ℕ, ◌<◌, cond, false, List, [], ◌∷◌, Option, Some, None, length, take, slice_index_or}
use Rattle.core_laws.specs.declared.types.Event.{Event}
use Rattle.core_laws.specs.declared.types.Step.TheVariants as step
use Rattle.core_laws.specs.declared.types.CoreState.{CoreState}
use Rattle.core_laws.specs.Steps.{may, after}
use Rattle.exec_core.specs.declared.events.ReplayEnd.{ReplayEnd}
use Rattle.exec_core.specs.declared.events.ReplayEnd.TheVariants.{BadEvent, Memory}

-- the state after the events, where each is a step
abbrev pub run : CoreState → List Event → Option CoreState
run c [] = Some c
run c (ev ∷ evs) = cond (may c ev.seat ev.step) (run (after c ev.seat ev.step) evs) None

abbrev pub no_event : Event
no_event = record { seat = 0; step = step.See }

-- the events before the place k are steps, and the one there is none
pub record IsBadAt (start : CoreState) (events : List Event) (k : ℕ) : Type 0 where
  pub before : CoreState
  pub inside : k < length events
  pub run : run start (take k events) ≡ Some before
  pub bad : may before (slice_index_or events k no_event).seat
      (slice_index_or events k no_event).step ≡ false

-- what an end says; want of memory needs no cause
abbrev pub EndsRight : CoreState → List Event → ReplayEnd → Type 0
EndsRight start events (BadEvent k) = IsBadAt start events k
EndsRight start events Memory = Unit {0}
