-- The names of this crate's definitions in one place: who needs several of its files imports from
-- here.
pub use Rattle.port_word.specs.Actions.{EachAction, InputAllows, IsOnce, OutputAllows, action_slot, chunk_after, chunk_step, input_after, input_allows, input_step, is_want, noted_want, output_after, output_allows, output_step, want_of}
pub use Rattle.port_word.specs.Calls.{TakesFirstAction, after_close, after_finish, after_grow, after_need, after_pull, after_push, closed, emptied, new_picture, noted, with_needed}
pub use Rattle.port_word.specs.Differences.{ChangedByCalls, Explains, IsDifference, PortCall, after_call, after_calls, close_call, finish_call, need_call, pull_call, push_call}
pub use Rattle.port_word.specs.Pictures.{Picture, can_push, holds_data, is_in_finished, is_out_finished, new_input, no_flags, no_input, over_flags}
pub use Rattle.port_word.specs.Prelude.{Action, Flags, InputPort}
pub use Rattle.port_word.specs.Sights.{MaySee, after_see, seen_chunk}
pub use Rattle.port_word.specs.Sound.{Fits, IsSound, ShowsInFlags, action_room}
pub use Rattle.port_word.specs.Status.{IsAllFinished, WaitsForData, WaitsForRoom}
unfoldable pub use Rattle.port_word.specs.Pictures.{in_count, input_at, out_count, output_at, with_actions, with_input, with_output}
