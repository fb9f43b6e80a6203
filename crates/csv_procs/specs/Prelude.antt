-- The names from outside that this crate's definitions use, in one place.
pub use Rattle.csv_procs.specs.declared.file_state.ListedPaths.{ListedPaths}
pub use Rattle.csv_procs.specs.declared.file_state.FileState.{FileState}
pub use Rattle.csv_procs.specs.declared.file_state.FileState.TheVariants.{Fetching, Paths, Rows, Shut}
pub use Rattle.csv_rows.specs.RowsLeft.{at_end}
pub use Rattle.csv_procs.specs.declared.file_fetch.Fetched.{Fetched}
pub use Rattle.outside_io.specs.Counts.{CountIncreased}
pub use Rattle.outside_io.specs.Told.{StandsAtEnd}
pub use Rattle.proc_api.specs.Forms.{growth_form}
pub use Rattle.proc_api.specs.kinds.List.{list_growth, listed_edge, listed_part}
pub use Rattle.proc_api.specs.Prelude.{bad_line_in, filter, paths_in}
pub use Rattle.proc_api.specs.declared.growth.Growth.{Growth}
pub use Rattle.proc_shell.specs.Kernels.{KernelState, SourceStage, rows_if_some}
pub use Rattle.proc_shell.specs.Prelude.{BadPlace, Bool, BoxPicture, ColumnType, Err, Files, IfSome, IsSome, Kind, List, None, Notes, Ok, Option, PartSpec, Result, Row, RowCount, Some, Spec, Table, Wake, WorkFault, [], cond, false, idle_own, length, raised, true, ℕ}
pub use Rattle.proc_shell.specs.declared.kernel.Offer.{Offer}
pub use Rattle.proc_shell.specs.Shells.{LoadedShell, ReaderView, shell_seen}
unfoldable pub use Rattle.outside_io.specs.Told.{told_bytes}
unfoldable pub use Rattle.proc_shell.specs.Prelude.{bad_place, good_rows, part_records}
