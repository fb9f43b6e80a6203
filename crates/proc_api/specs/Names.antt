-- The names of this crate's definitions in one place: who needs several of its files imports from
-- here.
pub use Rattle.proc_api.specs.Boxes.{BoxPicture, FileSeen, Notes, OwnState, PortFlags, Reading, RowCount, WorkState, file_of, idle_own, idle_work, kept_ports, no_box, no_notes, no_spec, own_of, reading_of, unworked_at}
pub use Rattle.proc_api.specs.Clauses.{CountsOn, EndsAtOnce, Expands, FaultHolds, FaultInCall, FaultIsDue, Faults, HasNoReader, IsBadFile, IsBlank, IsFresh, IsLoadRefused, IsLongFile, IsRunning, IsSourceKind, IsToGrow, IsToWork, IsUnloadedProcessor, KeepsLimits, KeepsOver, KeepsSame, KeepsUnlessOut, Loads, MayBeReady, MayExpand, MaySchedule, MayWork, NeedsRoom, NotesView, PreparesLawfully, Progresses, PulledOn, PullsNoMore, SameBox, SameCounts, SamePulled, Schedules, StandsBehind, StatusComes, StatusHolds, UnlessStalled, UnlessTooLong, Unloads, WakeComes, Works, all_port_flags}
pub use Rattle.proc_api.specs.Forms.{GrowthForm, SpecForm, expression, filter, spec_form, unboxed}
pub use Rattle.proc_api.specs.Graphs.{ArePortsOnce, IsEdge, IsGraph, IsGraphSoFar, all_below, follows_inputs, follows_outputs, has_input, has_output, input_count, is_gapless, output_count, reserved_edges}
pub use Rattle.proc_api.specs.Grouped.{AreGrouped, FitsGroups, SumsNoTexts, argument_types, calls_from, default_states, is_count, merged_rows, merged_states, partial_rows, partial_types, spec_group_types, sums_texts}
pub use Rattle.proc_api.specs.Histories.{Lists, chunk_rows, last_count, no_lists, pulled_at, pushed_at, raised, rows_pulled, taken_out, with_pulled, with_pushed}
pub use Rattle.proc_api.specs.Keeping.{AllFit, AllInputsEnded, AllInputsFinished, AllOutputsClosed, AreFitting, HadPorts, HasSize, IsAtMost, IsOver, IsReadUp, Keeps, KeepsMade, KeepsRows, MayBeInput}
pub use Rattle.proc_api.specs.KindRows.{ReadsList, ReadsPart, grown_kind, handed_out_by, kind_name, kind_place, row_of, stock_of}
pub use Rattle.proc_api.specs.KindContract.{AreAsKept, AreCounts, AreOpen, ArePartBytes, AreResized, FileRead, IsFirstAlone, IsPulled, NoFile, PartFile, PartsFile, no_table}
pub use Rattle.proc_api.specs.Ports.{AllOutputsFinished, ClosesFront, FinishesFront, FollowsKept, HasNoRoom, HasPorts, HasRoom, InputFollows, IsShut, OutputFollows, SameChunks, StaysFit, is_ended}
pub use Rattle.proc_api.specs.Prelude.{ChangedByCalls, Prepared, Scheduled}
pub use Rattle.proc_api.specs.Racks.{IsFirstPlace, IsPlaceOf, TakesFirst, TakesOut, is_of, same_kind}
pub use Rattle.proc_api.specs.Settled.{HasInputWire, HasOutputWire, ProducerKnows, Rests}
pub use Rattle.port_word.specs.Pictures.{no_wire}
pub use Rattle.proc_api.specs.SpecContracts.{ArePortsOf, FitsInput, HasMade, HasNotedEnd, HasReadEnough, IsReadOut, IsWanting, IsWorkOf, MakesTypes, MayGrow, NotesEnd, OfPart, StandStill, file_read, most_rows, spec_growth}
pub use Rattle.proc_api.specs.kinds.Csv.{ArePartRead, ArePartRows, HasMadeNothing, IsPartRead}
pub use Rattle.proc_api.specs.kinds.HashJoin.{AreJoined, AreKeyPairs, FitsJoin, IsJoinWork, IsKeyPair, side_types}
pub use Rattle.proc_api.specs.kinds.Limit.{AreLimited, last_read}
pub use Rattle.proc_api.specs.kinds.List.{IsListGrowth, IsListPassed, IsListRead, IsListReadOut, IsListUnread, KnowsList, list_growth, listed_edge, listed_edges, listed_part, listed_parts}
pub use Rattle.proc_api.specs.kinds.MergeSorted.{AreInputsSorted, AreMerged, IsBeforeNone, head_at, head_rows}
pub use Rattle.proc_api.specs.kinds.Sort.{AreKeysWithin, AreSorted, FitsOrder, IsSortOf}
pub use Rattle.std.specs.Option.{option_map}
pub use Rattle.std.specs.Prelude.{IfErr, IfOk, IsTrue, List, None, OnErr, OnOk, Option, Some, [], count_by, false, length, map, true, vec_capacity, ℕ}
unfoldable pub use Rattle.proc_api.specs.Boxes.{kept_input, kept_inputs, kept_output, kept_outputs}
unfoldable pub use Rattle.proc_api.specs.Graphs.{rank_at}
unfoldable pub use Rattle.proc_api.specs.Histories.{all_rows, pushes_to, total_rows}
unfoldable pub use Rattle.proc_api.specs.Prelude.{in_count, out_count}
unfoldable pub use Rattle.proc_api.specs.Settled.{wire_at}
