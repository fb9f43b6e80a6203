-- The ports of a processor, by its spec and its growth, and the view that it may be prepared
-- against.
use Rattle.std.specs.Prelude.{◌&&◌, ◌<◌, ◌≡◌, ◌≤◌}
use Rattle.proc_api.specs.Prelude.{Bool, ChangedByCalls, Flags, Picture, can_push, false, holds_data, in_count, input_at, is_out_finished, not, out_count, output_at, true, ℕ}
use Rattle.proc_api.specs.Boxes.{BoxPicture, kept_input, kept_inputs, kept_output, kept_outputs}
use Rattle.proc_api.specs.Histories.{pushes_to}
use Rattle.proc_api.specs.SpecContracts.{ArePortsOf, StandStill}
pub use Rattle.proc_api.specs.KindContract.{is_me}

-- the view has the ports of the processor's spec and growth
abbrev pub HasPorts : BoxPicture → Picture → Type 0
HasPorts p v = ArePortsOf p.spec p.growth (in_count v) (out_count v)

-- every view so far had the ports of the processor's spec and growth, and so has this one
pub record StaysFit (p : BoxPicture) (v : Picture) : Type 0 where
  pub fits : p.notes.fits ≡ true
  pub ports : HasPorts p v
  pub still : StandStill p.spec p.notes.view (in_count v) (out_count v)

-- An input as it may be seen after it had these flags: the node's own bits stay, a finished flag
-- stays, and a chunk stays until it is pulled.
pub record InputFollows (kept seen : Flags) : Type 0 where
  pub needed : seen.needed ≡ kept.needed
  pub fin_in : seen.fin_in ≡ kept.fin_in
  pub fin_out : kept.fin_out ≡ true → seen.fin_out ≡ true
  pub stays_empty : kept.fin_out ≡ true → kept.has_data ≡ false → seen.has_data ≡ false
  pub stays_full : holds_data kept ≡ true → seen.has_data ≡ true

-- an output as it may be seen after it had these flags
pub record OutputFollows (kept seen : Flags) : Type 0 where
  pub fin_out : seen.fin_out ≡ kept.fin_out
  pub fin_in : kept.fin_in ≡ true → seen.fin_in ≡ true

-- The view is the one that the last `prepare` left, but for what its actions' carrying out, `see`
-- and `grow` changed; before the first `prepare` it is a new one. A port that was added since is as
-- a new one.
pub record FollowsKept (p : BoxPicture) (v : Picture) : Type 0 where
  pub inputs_stay : kept_inputs p ≤ in_count v
  pub outputs_stay : kept_outputs p ≤ out_count v
  pub inputs : (i : ℕ) → i < in_count v → InputFollows (kept_input p i) (input_at v i).flags
  pub outputs : (o : ℕ) → o < out_count v → OutputFollows (kept_output p o) (output_at v o)

-- each input is closed, and each output is finished
pub record IsShut (w : Picture) : Type 0 where
  pub inputs : (i : ℕ) → i < in_count w → (input_at w i).flags.fin_in ≡ true
  pub outputs : (o : ℕ) → o < out_count w → is_out_finished (output_at w o) ≡ true

-- nothing will come any more: its producer has finished it, and no data is left
abbrev pub is_ended : Flags → Bool
is_ended f = f.fin_out && not f.has_data

-- each output was finished, by either end
abbrev pub AllOutputsFinished : Picture → Type 0
AllOutputsFinished v = (o : ℕ) → o < out_count v → is_out_finished (output_at v o) ≡ true

-- no output that isn't finished has room
abbrev pub HasNoRoom : Picture → Type 0
HasNoRoom v = (o : ℕ) → o < out_count v → is_out_finished (output_at v o) ≡ false
    → can_push (output_at v o) ≡ false

-- there is room at an output that isn't finished
pub record HasRoom (v : Picture) : Type 0 where
  pub output : ℕ
  pub in_range : output < out_count v
  pub room : can_push (output_at v output) ≡ true
  pub unfinished : is_out_finished (output_at v output) ≡ false

-- no chunk was pulled and none was pushed
pub record SameChunks (v w : Picture) : Type 0 where
  pub inputs : (i : ℕ) → (input_at w i).chunk ≡ (input_at v i).chunk
  pub outputs : (o : ℕ) → pushes_to o w.actions ≡ pushes_to o v.actions

-- the first n inputs were closed, and nothing else changed but actions
pub record ClosesFront (n : ℕ) (v w : Picture) : Type 0 where
  pub changed : ChangedByCalls v w
  pub ins : in_count w ≡ in_count v
  pub outs : out_count w ≡ out_count v
  pub closed : (i : ℕ) → i < n → (input_at w i).flags.fin_in ≡ true
  pub outputs : (o : ℕ) → output_at w o ≡ output_at v o
  pub chunks : SameChunks v w

-- the first n outputs were finished, and nothing else changed but actions
pub record FinishesFront (n : ℕ) (v w : Picture) : Type 0 where
  pub changed : ChangedByCalls v w
  pub ins : in_count w ≡ in_count v
  pub outs : out_count w ≡ out_count v
  pub finished : (o : ℕ) → o < n → is_out_finished (output_at w o) ≡ true
  pub consumers : (o : ℕ) → (output_at w o).fin_in ≡ (output_at v o).fin_in
  pub inputs : (i : ℕ) → input_at w i ≡ input_at v i
  pub chunks : SameChunks v w
