-- The names from outside that this crate's proofs use, in one place.
pub use Rattle.proc_api.proofs.CallLaws.{just-pushed, none-pulled, none-pushed}
pub use Rattle.proc_api.proofs.Follows.{follows-noted, position-still}
pub use Rattle.proc_api.proofs.Imports.{All, AreAsKept, Bool, BoxPicture, ColumnType, FitsInput, Flags, FollowsKept, HasReadEnough, InputFollows, InputPort, IsPermutation, IsPermutation-append_left, IsPermutation-same, IsPermutation-trans, IsPulled, IsSound, Kind, List, Lists, MakesTypes, MayBeInput, None, NotesEnd, Option, OwnState, Picture, PortFlags, Row, Some, Spec, StandStill, Table, [], after_close, after_need, after_pull, after_push, all_port_flags, and_parts, ap, append-nil, append_assoc, ap₂, arith, both_ways, can_push, cases_eq, cases_lt, changed-by-both, changed-by-none, changed-by-one, chunk_rows, close_call, closed, common_steps, cond, cond_both, drop, emptied, eq-eqb, eqb-true, false, false_from_ne_true, get_or, get_or-eq_default, get_or_default, holds_data, inl, inr, is_out_finished, kept_ports, length, length-append, length-map, ltb-true, ne_eqb, need_call, no_input, no_lists, no_table, not-true, pull_call, pulled_at, push_call, pushed_at, raised, refl, rows_pulled, rules, subst, suc, sym, take, taken_out, true, with_pulled, with_pushed, zero, ℕ, ◌&&◌, ◌++◌, ◌+◌, ◌<◌, ◌==◌, ◌||◌, ◌∙◌, ◌∷◌, ◌≡◌, ◌≢◌, ◌≤◌, ◌⊎◌}
pub use Rattle.proc_api.proofs.Keeping.{all-fitting, counted-more, enough-more, fitting-more, fitting-past, front-all, makes-more, never-enough, pulled-last, pulled-more, rows-append, total-none, total-nothing, wanting-not-enough}
pub use Rattle.proc_api.proofs.KeptFlags.{kept_input-of, kept_input-past, kept_inputs-of, kept_output-of, kept_output-past, kept_outputs-of, may-be-input}
pub use Rattle.proc_api.proofs.MadeLaws.{more-rows, no-rows}
pub use Rattle.proc_api.proofs.SeveralCalls.{empty-of, goes-on, lists-pulled, lists-pushed, pulled-both, rows-both}
pub use Rattle.proc_api.proofs.ShutPorts.{both-same, by-place}
pub use Rattle.proc_api.proofs.Turns.{close-turns, need-turns, pull-turns, push-turns, same-input}
pub use Rattle.proc_api.specs.SpecContracts.{contract_of}
pub use Rattle.proc_api.specs.Names.{AllOutputsClosed, AreCounts, AreFitting, AreOpen, AreResized, FaultHolds, FaultInCall, FaultIsDue, Faults, GrowthForm, HadPorts, HasMade, HasNotedEnd, HasSize, IsAtMost, IsLoadRefused, IsOver, IsReadUp, IsRunning, IsShut, IsSourceKind, IsWanting, Keeps, KeepsLimits, KeepsMade, KeepsOver, KeepsRows, KeepsSame, Loads, Notes, OfPart, PreparesLawfully, Progresses, PullsNoMore, Reading, RowCount, StatusComes, StatusHolds, StaysFit, Works, file_of, idle_own, is_ended, most_rows, own_of, reading_of, row_of, unworked_at}
pub use Rattle.proc_api.specs.declared.status.Status.TheVariants.{Finished, Ready}
pub use Rattle.proc_shell.specs.Kernels.{HasEnough, Leaves, LetsPush, Means, NotesNoEnd, gathered_with, rows_if_some, unread, with_chunk}
pub use Rattle.std.specs.Prelude.{◌↔◌}
pub use Rattle.proc_shell.specs.Names.{AllOutputsFinished, AreMoved, ArePortsOf, AreWantedOver, Begins, ChangesInput, ChangesInputs, Continues, CountsRows, Err, Fails, HasSpecPorts, IfErr, IfSome, IsBegun, IsFreeOutput, IsKernelOf, IsOutOfRoom, IsShelled, IsTrue, IsValid, IsWantedFull, IsWorkOf, KernelState, Makes, MayMake, Moves, Nothing, OfferComes, Offers, Ok, OnOk, Prepared, Pushes, Reads, RunsTurn, ShellFails, ShellPrepares, ShellWorks, Takes, WantsMore, WorksHeld, asked, growth_in, held_made, held_option, held_unworked, is_wanted, kind_of, may_hold, option_map, shell_state, shut_open, unasked, work_of}
pub use Rattle.proc_shell.specs.Prelude.{Held, Made, PartSpec, Result, Status, TurnsInput, Unworked, Wake, WorkFault, grown_inputs, is_in_finished, needing}
pub use Rattle.proc_shell.specs.Shells.{LoadedShell, Passes, ReaderView, ShutsShell, files_by, loaded_seen, noted_by, shell_seen, with_view}
pub use Rattle.proc_shell.specs.Steps.{source_of}
pub use Rattle.proc_shell.specs.Turning.{AnswerComes, EndsNow, PassesOn, PullsOne}
pub use Rattle.query_model.proofs.Placed.{All-behind}
pub use Rattle.std.proofs.Common.{is_some}
pub use Rattle.std.proofs.lemmas.Bool.{or_cases, or_parts}
pub use Rattle.std.proofs.lemmas.List.{append_cancel_right}
pub use Rattle.std.proofs.lemmas.List.Elements.{All-append, All-cons, All-nil, All-weaker}
pub use Rattle.std.proofs.lemmas.List.Sorted.{IsPermutation-sym}
pub use denote.Enum.Bare.{differs_false, differs_true}
unfoldable pub use Rattle.proc_api.specs.Prelude.{input_at, output_at}
unfoldable pub use Rattle.proc_api.specs.Names.{all_rows, in_count, kept_input, kept_inputs, kept_output, kept_outputs, out_count, total_rows}
