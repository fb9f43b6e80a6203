-- A node's picture of its ports, as plain data, and the words by which contracts read it.
use Rattle.std.specs.Prelude.{◌&&◌, ◌||◌}
use Rattle.port_word.specs.Prelude.{Action, Bool, Flags, InputPort, List, None, false, length, not, slice_index_or, slice_set, true, ℕ}
use Rattle.port_word.specs.declared.flags.Wire.{Wire}

-- each input with its flags and its chunk, the flags of each output, and the actions not yet
-- carried out
pub record Picture : Type 0 where
  pub inputs : List InputPort
  pub outputs : List Flags
  pub actions : List Action

-- no flag is set
abbrev pub no_flags : Flags
no_flags = record { needed = false; has_data = false; fin_out = false; fin_in = false }

-- both ends are finished, as a port past the last one is read
abbrev pub over_flags : Flags
over_flags = record { needed = false; has_data = false; fin_out = true; fin_in = true }

abbrev pub new_input : InputPort
new_input = record { flags = no_flags; chunk = None }

abbrev pub no_input : InputPort
no_input = record { flags = over_flags; chunk = None }

unfoldable pub in_count : Picture → ℕ
in_count p = length p.inputs

unfoldable pub out_count : Picture → ℕ
out_count p = length p.outputs

-- input i
unfoldable pub input_at : Picture → ℕ → InputPort
input_at p i = slice_index_or p.inputs i no_input

-- the flags of output o
unfoldable pub output_at : Picture → ℕ → Flags
output_at p o = slice_index_or p.outputs o over_flags

unfoldable pub with_input : Picture → ℕ → InputPort → Picture
with_input p i x = record p { inputs = slice_set p.inputs i x }

unfoldable pub with_output : Picture → ℕ → Flags → Picture
with_output p o f = record p { outputs = slice_set p.outputs o f }

unfoldable pub with_actions : Picture → List Action → Picture
with_actions p actions = record p { actions = actions }

-- data lies at an input that the node hasn't closed
abbrev pub holds_data : Flags → Bool
holds_data f = f.has_data && not f.fin_in

-- no data will be pulled from the input any more: the node closed it, or it is finished and empty
abbrev pub is_in_finished : Flags → Bool
is_in_finished f = f.fin_in || (f.fin_out && not f.has_data)

-- the port is needed, has no data, and its producer hasn't finished it
abbrev pub can_push : Flags → Bool
can_push f = f.needed && (not f.has_data && not f.fin_out)

-- a finished flag of the port is set
abbrev pub is_out_finished : Flags → Bool
is_out_finished f = f.fin_out || f.fin_in

abbrev pub no_wire : Wire
no_wire = record { from = 0; out = 0; to = 0; input = 0 }
