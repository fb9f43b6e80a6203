-- The names that this crate's contracts speak of, in one place.
pub use Rattle.csv_procs.specs.Fetching.{MatchesReader, PartMatchesReader, ReadGives, Steps}
pub use Rattle.csv_procs.specs.FileFetch.{FetchGives}
pub use Rattle.csv_procs.specs.ListLines.{IsLineTaken}
pub use Rattle.csv_procs.specs.PartSeen.{SourceView, seen_by}
pub use Rattle.csv_procs.specs.Parts.{GivesLeft, GrowsByPaths, HasFitLeft, IsNextOfList, IsNextOfSource, IsSpecOf, IsWholeFile, csv_kind, inputs_in, left_rows, lists_in, open_in, sourcing, stage_in}
pub use Rattle.csv_procs.specs.Prelude.{CountIncreased, FileState, PartSpec, bad_line_in, growth_form, list_growth, listed_edge, listed_part, paths_in}
pub use Rattle.csv_procs.specs.SourceShells.{source_kinds, source_shelled, source_uses}
pub use Rattle.outside_io.specs.Readers.{BlockGiven, IsAfter, ReaderState}
pub use Rattle.outside_io.specs.Told.{files_of}
pub use Rattle.proc_shell.specs.Names.{IsUnloadedProcessor, MaySchedule, ShellNotes, codes, kind_of, option_map, shell_state}
pub use Rattle.query_model.specs.ListFiles.{is_path, list_bad_line, list_paths, without_cr}
pub use Rattle.std.specs.List.{list_all}
pub use Rattle.std.specs.Prelude.{Bool, IfOk, IfSome, IsSome, IsTrue, None, OnErr, OnOk, Some, [], false, length, max, not, true, ℕ}
pub use Rattle.std.specs.Str.{is_utf8}
unfoldable pub use Rattle.outside_io.specs.Told.{told_bytes}
