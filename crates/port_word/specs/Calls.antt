-- What each call makes of a picture.
use Rattle.std.specs.Prelude.{◌++◌, ◌-◌, ◌||◌, ◌∷◌, ◌≡◌}
use Rattle.port_word.specs.Prelude.{Action, Bool, Close, Finish, InputPort, None, Option, Pull, Push, Some, Table, [], cond, false, not, replicate, true, ℕ}
use Rattle.port_word.specs.Pictures.{Picture, input_at, output_at, in_count, out_count, with_input, with_output, with_actions, new_input, no_flags, holds_data, can_push, is_out_finished}
use Rattle.port_word.specs.Actions.{noted_want}

-- a new picture of so many ports, with no flag set
abbrev pub new_picture : ℕ → ℕ → Picture
new_picture inputs outputs = record {
  inputs = replicate inputs new_input;
  outputs =
      replicate outputs no_flags;
  actions = [];
}

-- the action goes last
abbrev pub noted : Picture → Action → Picture
noted p a = with_actions p (p.actions ++ a ∷ [])

abbrev pub with_needed : InputPort → Bool → InputPort
with_needed x b = record x { flags = record x.flags { needed = b } }

abbrev pub emptied : InputPort → InputPort
emptied x = record { flags = record x.flags { has_data = false }; chunk = None }

abbrev pub closed : InputPort → InputPort
closed x = record x { flags = record x.flags { fin_in = true } }

-- the chunk is taken out, where there is data
abbrev pub after_pull : Picture → ℕ → Picture
after_pull p i = cond (holds_data (input_at p i).flags)
    (noted (with_input p i (emptied (input_at p i))) (Pull i)) p

-- needed is as asked for; nothing changes where the input is closed or needed was so
abbrev pub after_need : Picture → ℕ → Bool → Picture
after_need p i true = cond ((input_at p i).flags.fin_in || (input_at p i).flags.needed) p
    (with_actions (with_input p i (with_needed (input_at p i) true)) (noted_want i true p.actions))
after_need p i false =
    cond ((input_at p i).flags.fin_in || not (input_at p i).flags.needed) p (with_actions
    (with_input p i (with_needed (input_at p i) false)) (noted_want i false p.actions))

abbrev pub after_close : Picture → ℕ → Picture
after_close p i =
    cond (input_at p i).flags.fin_in p (noted (with_input p i (closed (input_at p i))) (Close i))

-- the chunk is pushed, where the port allows it
abbrev pub after_push : Picture → ℕ → Table → Picture
after_push p o chunk = cond (can_push (output_at p o))
    (noted (with_output p o (record (output_at p o) { has_data = true })) (Push o chunk)) p

abbrev pub after_finish : Picture → ℕ → Picture
after_finish p o = cond (is_out_finished (output_at p o)) p
    (noted (with_output p o (record (output_at p o) { fin_out = true })) (Finish o))

-- new ports behind those that are there, with no flag set
abbrev pub after_grow : Picture → ℕ → ℕ → Picture
after_grow p inputs outputs =
    record {
      inputs = p.inputs ++ replicate (inputs - in_count p) new_input;
      outputs =
          p.outputs ++ replicate (outputs - out_count p) no_flags;
      actions = p.actions;
    }

-- the first action is taken; nothing changes, and none comes, exactly where there is none
abbrev pub TakesFirstAction : Picture → Option Action → Picture → Type 0
TakesFirstAction p None q = (p.actions ≡ []) × (q ≡ p)
TakesFirstAction p (Some a) q = (p.actions ≡ a ∷ q.actions) × (q ≡ with_actions p q.actions)
