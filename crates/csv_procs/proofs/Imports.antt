-- The names from outside that this crate's proofs use, in one place.
pub use Rattle.csv_procs.specs.Fetching.{FaultComes, HoldsPart, IsKnownOf, IsRead, StaysAt, StepComes, StepsTo}
pub use Rattle.csv_procs.specs.FileFetch.{HoldsFront, HoldsMore, IsFile}
pub use Rattle.csv_procs.specs.ListLines.{AreOf, AreTaken}
pub use Rattle.csv_procs.specs.Names.{GivesLeft, HasFitLeft, IsLineTaken, IsNextOfList, IsNextOfSource, IsSome, IsSpecOf, IsWholeFile, MatchesReader, PartMatchesReader, Steps, csv_kind, files_of, inputs_in, is_path, left_rows, list_bad_line, list_paths, listed_edge, listed_part, lists_in, max, open_in, sourcing, stage_in, without_cr}
pub use Rattle.csv_procs.specs.Parts.{csv_spec, is_fetched, is_grown, is_opened, paths_of, source_unmade, types_or}
pub use Rattle.csv_procs.specs.Prelude.{Fetching, FileState, Growth, ListedPaths, Paths, Rows, Shut, StandsAtEnd, bad_line_in, filter, growth_form, list_growth, rows_if_some}
pub use Rattle.csv_procs.specs.SourceShells.{list_uses, source_uses}
pub use Rattle.csv_procs.specs.FileFetch.{IsToldTooLong as IsLongTold}
pub use Rattle.csv_rows.specs.RowsLeft.{RowsLeft, TakesRows, at_end}
pub use Rattle.outside_io.specs.Readers.{IsAfter, Position, ReaderState, ToldFiles}
pub use Rattle.proc_api.specs.Forms.{spec_form}
pub use Rattle.proc_api.specs.kinds.List.{listed_edges, listed_parts}
pub use Rattle.proc_api.specs.Names.{AreOpen, ArePartBytes, AreResized, Expands, HadPorts, IsLongFile, KnowsList, OwnState, PortFlags, ReadsList, ReadsPart, Schedules, StandsBehind, WakeComes, HasMade, IsReadOut, KeepsMade, kept_ports, own_of, reading_of, spec_growth}
pub use Rattle.proc_api.specs.KindContract.{is_me}
pub use Rattle.proc_api.specs.declared.growth.Edge.{Edge}
pub use Rattle.proc_api.specs.declared.growth.GrowNode.{GrowNode}
pub use Rattle.proc_api.specs.declared.status.Status.{Status}
pub use Rattle.proc_shell.proofs.BoxLaws.{fails, loads, none-mapped, works, wrong-kind}
pub use Rattle.proc_shell.proofs.Imports.{is_some, ArePortsOf, Begins, Bool, BoxPicture, ColumnType, Err, Fails, FaultHolds, FaultInCall, FaultIsDue, Faults, IfErr, IfSome, IsKernelOf, IsSourceKind, IsWorkOf, KeepsRows, KeepsSame, Kind, List, Lists, Makes, None, Notes, NotesEnd, OfPart, Offers, Ok, Option, PartSpec, Picture, Prepared, ReaderView, Reads, Result, Row, RowCount, Some, Spec, Table, Takes, Wake, WorkFault, [], ap, append-nil, append_assoc, arith, chunk_rows, common_steps, cond, differs_false, differs_true, false, file_of, grown_inputs, growth_in, held_made, held_unworked, idle_own, in_count, inl, inr, kind_of, length, length-append, option_map, out_count, shell_state, loaded_seen, raised, refl, source_of, subst, sym, true, with_chunk, ℕ, ◌++◌, ◌+◌, ◌<◌, ◌∙◌, ◌∷◌, ◌≡◌, ◌≤◌, ◌⊎◌}
pub use Rattle.proc_shell.proofs.KeepLaws.{had-same}
pub use Rattle.proc_shell.proofs.PortMoves.{never-true}
pub use Rattle.proc_shell.proofs.Resizing.{resized-nothing, resized-takes}
pub use Rattle.proc_shell.proofs.Through.{makes-nothing}
pub use Rattle.proc_shell.proofs.TurnLaws.{leaves-same}
pub use Rattle.proc_shell.specs.Kernels.{IsValid, OfferComes}
pub use Rattle.proc_shell.specs.Shells.{with_answer}
pub use Rattle.proc_shell.specs.declared.held.Held.{Held}
pub use Rattle.proc_shell.specs.declared.kernel.Offer.{Offer}
pub use Rattle.query_model.specs.Names.{bad_place_in, row_then, spelled_row}
pub use Rattle.std.proofs.Common.{get_or, rules, take-append-drop}
pub use Rattle.std.proofs.lemmas.Bool.{cases_Bool, cases_eq, eq-eqb, eqb-true, false_from_ne_true, ne_eqb}
pub use Rattle.std.proofs.lemmas.List.{drop-take, drop_all, drop_more, map-append, nil_from_length, take-take, take_all}
pub use Rattle.std.proofs.lemmas.Slice.Eq.{slice_eq-Decides, strip_suffix_is}
pub use Rattle.std.proofs.lemmas.Str.{IsUtf8-from_is_utf8, is_utf8-from_IsUtf8}
pub use Rattle.std.specs.Prelude.{IfOk, count_by, drop, map, ◌-◌, ◌==◌, ◌≢◌}
pub use denote.Enum.Bare.{same_true, true_same}
unfoldable pub use Rattle.csv_procs.specs.Prelude.{bad_place, good_rows}
unfoldable pub use Rattle.proc_shell.proofs.Imports.{kept_input, kept_inputs, kept_output, kept_outputs}
unfoldable pub use Rattle.query_model.specs.ListFiles.{bad_line, lines_from}
