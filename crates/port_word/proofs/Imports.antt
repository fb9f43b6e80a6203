-- The names from outside that this crate's proofs use, in one place.
pub use Rattle.port_word.specs.Names.{Action, ChangedByCalls, EachAction, Explains, Fits, Flags, InputAllows, InputPort, IsDifference, IsOnce, IsSound, OutputAllows, Picture, PortCall, ShowsInFlags, action_room, action_slot, after_call, after_calls, can_push, chunk_after, chunk_step, close_call, closed, emptied, finish_call, holds_data, input_after, input_allows, input_step, is_out_finished, is_want, need_call, new_input, new_picture, no_flags, no_input, noted, noted_want, output_after, output_allows, output_step, over_flags, pull_call, push_call, want_of, with_needed}
pub use Rattle.port_word.specs.Prelude.{Close, Finish, Pull, Push, Table, Unwant, Want}
pub use Rattle.std.proofs.Common.{Bool, List, None, Option, [], ap, arith, cond, drop, drop-cons, false, get_or, get_or-set_other, get_or-set_same, inl, inr, is_some, length, length-append, not, refl, replicate, rules, set, subst, suc, sym, take, true, vec_capacity, zero, ℕ, ◌&&◌, ◌*◌, ◌++◌, ◌+◌, ◌-◌, ◌<◌, ◌==◌, ◌||◌, ◌∙◌, ◌∷◌, ◌≡◌, ◌≢◌, ◌≤◌}
pub use Rattle.std.proofs.Math.ListN.{get_or-eq_default}
pub use Rattle.std.proofs.lemmas.Bool.{cases_Bool, cases_eq, cases_lt, eqb-false, eqb-true}
pub use Rattle.std.proofs.lemmas.List.{get_or_append_left, get_or_default, length-replicate, length-set}
unfoldable pub use Rattle.port_word.specs.Names.{in_count, input_at, out_count, output_at, with_actions, with_input, with_output}
