-- The law of a list of actions: what it makes of the ports as they were.
use Rattle.std.specs.Prelude.{◌∷◌, ◌≡◌}
use Rattle.port_word.specs.Prelude.{Action, Bool, Flags, List, Option, Table, [], ℕ}
use Rattle.port_word.specs.Pictures.{Picture, input_at, output_at}
use Rattle.port_word.specs.Actions.{input_after, chunk_after, output_after, InputAllows, OutputAllows}
use Rattle.port_word.specs.Calls.{after_pull, after_need, after_close, after_push, after_finish}

-- carried out one after another on ports with these flags and chunks, the actions give the flags
-- and chunks of the picture, and each stands where its port allows it
pub record Explains (ins : ℕ → Flags) (chunks : ℕ → Option Table) (outs : ℕ → Flags)
    (actions : List Action) (p : Picture) : Type 0 where
  pub input_flags : (i : ℕ) → (input_at p i).flags ≡ input_after i actions (ins i)
  pub input_chunks : (i : ℕ) → (input_at p i).chunk ≡ chunk_after i actions (chunks i)
  pub output_flags : (o : ℕ) → output_at p o ≡ output_after o actions (outs o)
  pub inputs_allow : (i : ℕ) → InputAllows i actions (ins i)
  pub outputs_allow : (o : ℕ) → OutputAllows o actions (outs o)

-- the actions of a picture are all that changed since the earlier one
abbrev pub IsDifference : Picture → Picture → Type 0
IsDifference before p = Explains (λ i. (input_at before i).flags) (λ i. (input_at before i).chunk)
    (λ o. output_at before o) p.actions p

-- a call by which a processor changes its picture
pub data PortCall : Type 0 where
  pull_call : ℕ → PortCall
  need_call : ℕ → Bool → PortCall
  close_call : ℕ → PortCall
  push_call : ℕ → Table → PortCall
  finish_call : ℕ → PortCall

abbrev pub after_call : PortCall → Picture → Picture
after_call (pull_call i) p = after_pull p i
after_call (need_call i b) p = after_need p i b
after_call (close_call i) p = after_close p i
after_call (push_call o chunk) p = after_push p o chunk
after_call (finish_call o) p = after_finish p o

abbrev pub after_calls : List PortCall → Picture → Picture
after_calls [] p = p
after_calls (c ∷ calls) p = after_calls calls (after_call c p)

-- the picture was changed by such calls alone
pub record ChangedByCalls (before after : Picture) : Type 0 where
  pub calls : List PortCall
  pub gives : after ≡ after_calls calls before
