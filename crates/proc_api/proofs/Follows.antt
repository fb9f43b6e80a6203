-- The view of a node is one that its box may be prepared against.
use Rattle.proc_api.proofs.Imports.{cases_eq, Action, AreAsKept, BoxPicture, Flags, FollowsKept, Input, InputFollows, IsSound, List, MaySee, None, Option, Output, OutputFollows, Picture, PortFlags, Some, Spec, StandStill, Table, TakesFirstAction, after_see, all_port_flags, and_from, arith, get_or-replicate, in_count, in_count-with_input, in_count-with_output, input_at, input_at-with_input, input_at-with_input-other, input_at-with_output, kept_input, kept_inputs, kept_output, kept_outputs, length-map, length-replicate, new_picture, no_notes, out_count, out_count-with_input, out_count-with_output, output_at, output_at-with_input, output_at-with_output, output_at-with_output-other, sym, with_actions, ℕ, ◌<◌, ◌∙◌, ◌≡◌, ◌≤◌}
use Rattle.proc_api.proofs.KeptFlags.{kept_input-of, kept_output-of, kept_inputs-of, kept_outputs-of}

-- the view that a `prepare` leaves
pub follows-noted : (q : BoxPicture) (w : Picture) → q.notes.view ≡ Some (all_port_flags w)
    → FollowsKept q w
follows-noted q w e = search (arith, kept_inputs-of, kept_outputs-of, kept_input-of, kept_output-of)

-- a box that keeps the same view
pub follows-same : (p q : BoxPicture) (v : Picture) → q.notes.view ≡ p.notes.view → FollowsKept p v
    → FollowsKept q v
unfolding kept_input kept_output kept_inputs kept_outputs
follows-same p q v e f = search arith

-- as many ports as the last view had are those that the spec's ports stand still at
pub position-still : (s : Option Spec) (kept : Option PortFlags) (m n : ℕ) → AreAsKept kept m n
    → StandStill s kept m n
position-still s kept m n h = grind arith

pub as-kept-noted : (q : BoxPicture) (w : Picture) (m n : ℕ) → q.notes.view
    ≡ Some (all_port_flags w) → in_count w ≡ m → out_count w ≡ n → AreAsKept q.notes.view m n
unfolding in_count out_count
as-kept-noted q w m n e ins outs = rw e (rw length-map (sym ins), sym outs)

-- ---- a port that was brought up to date

follows-input : (p : BoxPicture) (v : Picture) (i : ℕ) (g : Flags) (c : Option Table) → IsSound v
    → MaySee v (Input i) g c → InputFollows (kept_input p i) (input_at v i).flags
    → InputFollows (kept_input p i) g
follows-input p v i g c sound may f = search (arith, and_from)

pub follows-seen-input : (p : BoxPicture) (v : Picture) (i : ℕ) (g : Flags) (c : Option Table) →
    IsSound v → MaySee v (Input i) g c → FollowsKept p v → FollowsKept p (after_see v (Input i) g c)
follows-seen-input p v i g c sound may f =
    grind (
      arith,
      in_count-with_input,
      out_count-with_input,
      input_at-with_input,
      input_at-with_input-other,
      output_at-with_input,
      follows-input,
      cases_eq,
    )

follows-output : (p : BoxPicture) (v : Picture) (o : ℕ) (g : Flags) → MaySee v (Output o) g None
    → OutputFollows (kept_output p o) (output_at v o) → OutputFollows (kept_output p o) g
follows-output p v o g may f = search arith

pub follows-seen-output : (p : BoxPicture) (v : Picture) (o : ℕ) (g : Flags)
    → MaySee v (Output o) g None → FollowsKept p v → FollowsKept p (after_see v (Output o) g None)
follows-seen-output p v o g may f =
    grind (
      arith,
      in_count-with_output,
      out_count-with_output,
      output_at-with_output,
      output_at-with_output-other,
      input_at-with_output,
      follows-output,
      cases_eq,
    )

-- a new view before the first prepare
pub follows-new : (p : BoxPicture) (inputs outputs : ℕ) → p.notes ≡ no_notes
    → FollowsKept p (new_picture inputs outputs)
unfolding kept_input kept_output kept_inputs kept_outputs input_at output_at in_count out_count
follows-new p inputs outputs e = search (arith, get_or-replicate, length-replicate)

-- the view once actions were taken
pub follows-taken : (p : BoxPicture) (v : Picture) (actions : List Action) → FollowsKept p v
    → FollowsKept p (with_actions v actions)
unfolding with_actions input_at output_at in_count out_count
follows-taken p v actions f = search arith

-- the view once its first action was taken, if there was one
pub follows-first : (p : BoxPicture) (v w : Picture) (a : Option Action) → TakesFirstAction v a w
    → FollowsKept p v → FollowsKept p w
follows-first p v w a t f = grind (arith, follows-taken p v w.actions f)
