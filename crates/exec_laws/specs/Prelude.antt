-- The names from outside that this crate speaks of, in one place.
pub use Rattle.exec_laws.specs.declared.edges.DueCall.{DueCall}
pub use Rattle.exec_laws.specs.declared.edges.EdgeState.{EdgeState}
pub use Rattle.exec_laws.specs.declared.edges.NodeMark.{NodeMark}
pub use Rattle.exec_laws.specs.declared.edges.NodeStatus.{NodeStatus}
pub use Rattle.exec_laws.specs.declared.edges.StuckNode.{StuckNode}
pub use Rattle.exec_laws.specs.declared.growth.Blank.{Blank}
pub use Rattle.exec_laws.specs.declared.growth.GrowthFlaw.{GrowthFlaw}
pub use Rattle.port_word.specs.Names.{EachAction, InputAllows, IsAllFinished, IsSound, MaySee, OutputAllows, Picture, PortCall, ShowsInFlags, WaitsForData, WaitsForRoom, after_call, after_calls, after_grow, after_see, can_push, chunk_after, chunk_step, close_call, finish_call, holds_data, input_after, input_allows, input_step, is_in_finished, is_out_finished, need_call, new_input, new_picture, no_flags, no_input, output_after, output_allows, output_step, over_flags, pull_call, push_call, seen_chunk}
pub use Rattle.port_word.specs.Sights.{HasPort, port_flags}
pub use Rattle.port_word.specs.declared.flags.Action.{Action}
pub use Rattle.port_word.specs.declared.flags.Action.TheVariants.{Close, Finish, Pull, Push, Unwant, Want}
pub use Rattle.port_word.specs.declared.flags.Flags.{Flags}
pub use Rattle.port_word.specs.declared.flags.Port.{Port}
pub use Rattle.port_word.specs.declared.flags.Port.TheVariants.{Input, Output}
pub use Rattle.port_word.specs.declared.flags.Reserve.{Reserve}
pub use Rattle.proc_api.specs.Names.{AllInputsFinished, AreAsKept, ArePortsOf, BoxPicture, ChangedByCalls, CountsOn, FaultHolds, FaultIsDue, FollowsKept, GrowthForm, HasInputWire, HasOutputWire, InputFollows, IsBlank, IsFresh, IsGraph, IsRunning, Keeps, KeepsSame, Lists, Loads, MayGrow, MaySchedule, MayWork, NotesView, OutputFollows, PreparesLawfully, ProducerKnows, PulledOn, Rests, SameBox, SameChunks, SpecForm, StandStill, StatusComes, StatusHolds, StaysFit, expression, has_input, has_output, input_count, is_ended, is_gapless, no_box, no_lists, output_count, pushed_at, same_kind, spec_form, taken_out, with_pulled, with_pushed}
pub use Rattle.proc_api.specs.KindContract.{is_me}
pub use Rattle.proc_api.specs.Prelude.{InputPort, Kind, Spec, Table, Wire, kind_of}
pub use Rattle.proc_api.specs.Reserves.{holds_node, no_reserve}
pub use Rattle.proc_api.specs.declared.growth.Edge.{Edge as NewEdge}
pub use Rattle.proc_api.specs.declared.growth.Who.{Who}
pub use Rattle.proc_api.specs.declared.growth.Who.TheVariants.{Me, New}
pub use Rattle.proc_api.specs.declared.status.Answer.{Answer}
pub use Rattle.proc_api.specs.declared.status.Answer.TheVariants.{Prepared, Scheduled}
pub use Rattle.proc_api.specs.declared.status.Status.{Status}
pub use Rattle.proc_api.specs.declared.status.WorkFault.{WorkFault}
unfoldable pub use Rattle.port_word.specs.Names.{in_count, input_at, out_count, output_at, with_actions, with_input, with_output}
unfoldable pub use Rattle.proc_api.specs.Names.{kept_input, kept_inputs, kept_output, kept_outputs, pushes_to, rank_at, wire_at}
