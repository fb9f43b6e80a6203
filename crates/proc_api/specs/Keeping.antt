-- The processor contract: what a box keeps of the chunks that it pulled and pushed.
use Rattle.std.specs.Prelude.{◌++◌, ◌<◌, ◌∷◌, ◌≡◌, ◌≤◌, ◌⊎◌}
use Rattle.proc_api.specs.Prelude.{All, List, None, Option, Prepared, Some, Spec, Status, Table, [], false, is_in_finished, length, max, true, ℕ, ⊤}
use Rattle.proc_api.specs.Boxes.{BoxPicture, PortFlags, WorkState, file_of, kept_input, kept_inputs, kept_output, kept_outputs, kept_ports, own_of, reading_of, unworked_at}
use Rattle.proc_api.specs.Histories.{Lists, chunk_rows, last_count, total_rows}
use Rattle.proc_api.specs.KindContract.{AreOpen, IsPulled}
use Rattle.proc_api.specs.Ports.{is_ended}
use Rattle.proc_api.specs.SpecContracts.{ArePortsOf, FitsInput, HasMade, HasNotedEnd, HasReadEnough, IsReadOut, IsWorkOf, MakesTypes, NotesEnd, most_rows}

-- ---- rows and types

-- Once it has itself finished an output nothing waits, nothing is unworked, and nothing can be
-- made.
pub record IsOver (s : Spec) (w : WorkState) : Type 0 where
  pub nothing_waits : w.made ≡ []
  pub all_worked : w.unworked ≡ []
  pub all_made : w.unmade ≡ []
  pub noted : HasNotedEnd s (own_of w)

-- these are the chunks that fit, in order, and no other
abbrev pub AreFitting : (Table → Type 0) → (chunks fit : List Table) → Type 0
AreFitting P [] fit = fit ≡ []
AreFitting P (t ∷ chunks) [] = (P t → ⊥) × AreFitting P chunks []
AreFitting P (t ∷ chunks) (u ∷ fit) =
    (P t × (u ≡ t) × AreFitting P chunks fit) ⊎ ((P t → ⊥) × AreFitting P chunks (u ∷ fit))

-- The first chunks of each input are worked. Of those of them that fit, and of its file, it has
-- made what its kind says: a chunk that doesn't fit is worked as if it weren't there.
pub record KeepsMade (s : Spec) (p : BoxPicture) (ins outs : Lists) : Type 0 where
  pub worked : Lists
  pub fit : Lists
  pub ins_are : (i : ℕ) → ins i ≡ worked i ++ unworked_at p.work i
  pub fit_are : (i : ℕ) → AreFitting (λ (t : Table). FitsInput (Some s) i t.types) (worked i)
      (fit i)
  pub rows : HasMade (reading_of p) s (own_of p.work) fit outs (chunk_rows p.work.made)
  pub over : (o : ℕ) → (kept_output p o).fin_out ≡ true → IsOver s p.work
  pub read : (o : ℕ) → (kept_output p o).fin_out ≡ true → IsReadOut s (file_of p)

-- the rows that a box keeps
abbrev pub KeepsRows : Option Spec → BoxPicture → Lists → Lists → Type 0
KeepsRows None p ins outs = ⊤
KeepsRows (Some s) p ins outs = KeepsMade s p ins outs

-- each chunk that was pulled fits
abbrev pub AllFit : Option Spec → Lists → Type 0
AllFit s ins = (i : ℕ) → All (λ (t : Table). FitsInput s i t.types) (ins i)

-- ---- the size of chunks

-- 0 is read as 1
abbrev pub IsAtMost : Option ℕ → ℕ → Type 0
IsAtMost None n = ⊤
IsAtMost (Some most) n = n ≤ max most 1

-- a pushed chunk has a row, and no more than the spec states
abbrev pub HasSize : Option Spec → Table → Type 0
HasSize s t = (0 < length t.rows) × IsAtMost (most_rows s) (length t.rows)

-- ---- ends of ports

-- each input is finished or closed
abbrev pub AllInputsFinished : BoxPicture → Type 0
AllInputsFinished p = (i : ℕ) → i < kept_inputs p → is_in_finished (kept_input p i) ≡ true

-- of each input the finish was seen and no data is left, whether or not it was closed besides
abbrev pub AllInputsEnded : BoxPicture → Type 0
AllInputsEnded p = (i : ℕ) → i < kept_inputs p → is_ended (kept_input p i) ≡ true

-- there is an output, and each was finished by its consumer
pub record AllOutputsClosed (p : BoxPicture) : Type 0 where
  pub some : 0 < kept_outputs p
  pub closed : (o : ℕ) → o < kept_outputs p → (kept_output p o).fin_in ≡ true

-- an input of the kept view, or of any where none is kept
abbrev pub MayBeInput : Option PortFlags → ℕ → Type 0
MayBeInput None i = ⊤
MayBeInput (Some ports) i = i < length ports.inputs

-- input i is at its end and wasn't closed, and each of its chunks is worked
pub record IsReadUp (p : BoxPicture) (i : ℕ) : Type 0 where
  pub at_end : is_ended (kept_input p i) ≡ true
  pub not_closed : (kept_input p i).fin_in ≡ false
  pub all_worked : unworked_at p.work i ≡ []

-- ---- the contract

-- The kept view had the ports of the spec and growth, or those from before the growth, each open.
abbrev pub HadPorts : Option PortFlags → BoxPicture → Type 0
HadPorts None p = ⊤
HadPorts (Some ports) p =
    ArePortsOf p.spec p.growth (length ports.inputs) (length ports.outputs)
    ⊎ (ArePortsOf p.spec None (length ports.inputs) (length ports.outputs) × AreOpen ports)

-- What a box keeps of the chunks that it pulled and pushed so far, as long as its views have the
-- ports of its spec and growth. Which ports are finished or closed is as the flags say that it
-- keeps of the view that its last `prepare` left.
pub record Keeps (p : BoxPicture) (ins outs : Lists) : Type 0 where
  pub ports : HadPorts p.notes.view p
  -- as long as it asks to grow, each port is open
  pub opens : p.notes.answer ≡ Some (Prepared Status.ExpandPipeline)
      → AreOpen (kept_ports p.notes.view)
  pub idle : IsWorkOf p.spec p.work
  -- what its kind keeps of the chunks that fit
  pub rows : KeepsRows p.spec p ins outs
  -- the types and sizes of the chunks that were pushed, and of those that are made
  pub types : (o : ℕ) → All (λ (t : Table). MakesTypes p.spec ins t.types) (outs o)
  pub made_types : All (λ (t : Table). MakesTypes p.spec ins t.types) p.work.made
  pub sizes : (o : ℕ) → All (HasSize p.spec) (outs o)
  pub made_sizes : All (HasSize p.spec) p.work.made
  -- what is not worked yet was pulled
  pub unworked : All (λ (t : Table). IsPulled ins t.types) p.work.unworked
  -- the count of pulled rows rose by the rows of its inputs, or stands at its last value
  pub counted : (p.notes.pulled ≡ total_rows 32 ins) ⊎ (p.pulled ≡ last_count)
  -- an output that it finished by itself
  pub finishes : (o : ℕ) → (kept_output p o).fin_out ≡ true
      → AllInputsEnded p ⊎ HasReadEnough p.spec ins
  -- an input that it closed
  pub closes : (i : ℕ) → (kept_input p i).fin_in ≡ true
      → AllOutputsClosed p ⊎ HasReadEnough p.spec ins
  -- an input of which it has noted the end
  pub noted : (i : ℕ) → MayBeInput p.notes.view i → NotesEnd p.spec (own_of p.work) i → IsReadUp p i
