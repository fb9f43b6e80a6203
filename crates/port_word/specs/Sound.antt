-- What is true of every picture.
use Rattle.std.specs.Prelude.{◌*◌, ◌<◌, ◌≡◌, ◌≤◌}
use Rattle.port_word.specs.Prelude.{Action, Close, Finish, Pull, Push, Unwant, Want, false, is_some, length, max, true, ℕ}
use Rattle.port_word.specs.Pictures.{Picture, input_at, output_at, in_count, out_count, holds_data}
use Rattle.port_word.specs.Actions.{EachAction, IsOnce}

-- the action is one of the node's ports', and what it did shows in the flags
abbrev pub ShowsInFlags : Picture → Action → Type 0
ShowsInFlags p (Want i) = i < in_count p
ShowsInFlags p (Unwant i) = i < in_count p
ShowsInFlags p (Pull i) = (i < in_count p) × ((input_at p i).flags.has_data ≡ false)
ShowsInFlags p (Close i) = (i < in_count p) × ((input_at p i).flags.fin_in ≡ true)
ShowsInFlags p (Push o chunk) = (o < out_count p) × ((output_at p o).has_data ≡ true)
ShowsInFlags p (Finish o) = (o < out_count p) × ((output_at p o).fin_out ≡ true)

-- each action shows, each slot has at most one, an open input with data has its chunk, and a chunk
-- lies only where there is data
pub record IsSound (p : Picture) : Type 0 where
  pub done : EachAction (ShowsInFlags p) p.actions
  pub once : IsOnce p.actions
  pub held : (i : ℕ) → holds_data (input_at p i).flags ≡ true → is_some (input_at p i).chunk ≡ true
  pub shown : (i : ℕ) → is_some (input_at p i).chunk ≡ true → (input_at p i).flags.has_data ≡ true

-- room for every action that can stand in a list: a port number has three slots as an input and two
-- as an output
abbrev pub action_room : ℕ → ℕ → ℕ
action_room inputs outputs = 5 * max inputs outputs

-- a picture within the limits whose list has room for every action that can stand in it
pub record Fits (p : Picture) (capacity : ℕ) : Type 0 where
  pub sound : IsSound p
  pub room : action_room (length p.inputs) (length p.outputs) ≤ capacity
  pub few_inputs : length p.inputs ≤ 32
  pub few_outputs : length p.outputs ≤ 16
