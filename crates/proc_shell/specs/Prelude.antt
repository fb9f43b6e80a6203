-- The names from outside that this crate's definitions use, in one place.
pub use Rattle.port_word.specs.Names.{IsSound, closed}
pub use Rattle.proc_api.proofs.Turns.{TurnsInput, needing}
pub use Rattle.proc_api.specs.Names.{AllOutputsFinished, AreCounts, AreOpen, ArePartBytes, ArePortsOf, BoxPicture, ChangedByCalls, EndsAtOnce, FileSeen, FitsInput, FollowsKept, GrowthForm, HadPorts, HasMade, HasNoRoom, HasNotedEnd, HasReadEnough, HasRoom, HasSize, IsAtMost, IsBadFile, IsOver, IsPulled, IsReadOut, IsRunning, IsShut, IsSourceKind, IsWanting, IsWorkOf, KeepsRows, List, Lists, MakesTypes, MayExpand, NeedsRoom, None, Notes, NotesEnd, Option, OwnState, PortFlags, PreparesLawfully, Reading, ReadsList, ReadsPart, RowCount, SameChunks, Some, StandStill, StatusHolds, WorkState, [], all_port_flags, chunk_rows, false, file_of, handed_out_by, idle_own, idle_work, is_ended, length, most_rows, no_lists, no_notes, no_spec, own_of, pulled_at, pushed_at, raised, row_of, rows_pulled, spec_growth, true, unworked_at, ℕ}
pub use Rattle.proc_api.specs.KindContract.{grown_inputs}
pub use Rattle.proc_api.specs.Prelude.{All, BadPlace, Bool, ColumnType, Files, IfSome, InputPort, IsSome, Kind, PartSpec, Picture, Row, Spec, Table, can_push, cond, holds_data, is_in_finished, is_out_finished, kind_of, nat_lt, not}
pub use Rattle.proc_api.specs.declared.status.Answer.{Answer}
pub use Rattle.proc_api.specs.declared.status.Answer.TheVariants.{Prepared, Scheduled}
pub use Rattle.proc_api.specs.declared.status.Status.{Status}
pub use Rattle.proc_api.specs.declared.status.Wake.{Wake}
pub use Rattle.proc_api.specs.declared.status.WorkFault.{WorkFault}
pub use Rattle.proc_shell.specs.declared.held.Held.{Held}
pub use Rattle.proc_shell.specs.declared.held.Held.TheVariants.{Made, Nothing, Unworked}
pub use Rattle.proc_shell.specs.declared.kernel.Offer.{Offer}
pub use Rattle.std.specs.Prelude.{Err, Ok, Result}
unfoldable pub use Rattle.proc_api.specs.Names.{kept_output, pushes_to}
unfoldable pub use Rattle.proc_api.specs.Prelude.{bad_place, good_rows, in_count, input_at, out_count, output_at, part_records}
