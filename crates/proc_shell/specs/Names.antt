-- The names that this crate's contracts speak of, in one place.
pub use Rattle.proc_api.specs.Names.{IfErr, IfOk, IsTrue, IsUnloadedProcessor, MaySchedule, MayWork, OnOk, option_map}
pub use Rattle.proc_shell.specs.Kernels.{Begins, Fails, IsKernelOf, IsLeftOf, IsShelled, IsValid, KernelState, Makes, OfferComes, Offers, Reads, Takes, WantsMore, chunk_list, file_in, first_stage, growth_in, work_of}
pub use Rattle.proc_shell.specs.Prelude.{AllOutputsFinished, ArePortsOf, Bool, Err, HasNoRoom, IfSome, IsReadOut, IsSound, IsWorkOf, List, None, Nothing, Ok, Prepared, Some, Table, [], chunk_rows, false, kind_of, length, row_of, rows_pulled, true, ℕ}
pub use Rattle.proc_shell.specs.Shells.{AreMoved, Continues, HasSpecPorts, IsBegun, RunsTurn, ShellFails, ShellGives, ShellNotes, ShellPrepares, ShellView, ShellWorks, WorksHeld, shell_state, view_seen}
pub use Rattle.proc_shell.specs.Steps.{AreWantedEmpty, AreWantedOver, ChangesInput, ChangesInputs, CountsRows, HasOpen, IsFreeOutput, IsWanted, IsWantedFull, asked, held_made, held_option, held_unworked, is_wanted, may_hold, shut_open, unasked}
pub use Rattle.proc_shell.specs.Turning.{IsOutOfRoom, MayMake, MayPassOn, Moves, Pushes, Turns}
pub use Rattle.std.specs.Coded.{codes}
unfoldable pub use Rattle.proc_shell.specs.Prelude.{in_count, out_count}
