-- The names from outside that this crate's proofs use, in one place.
pub use Rattle.chunk_data.proofs.Imports.{replicate-append-replicate}
pub use Rattle.command_line.proofs.Imports.{IsWithinLimits, if◌then◌else◌}
pub use Rattle.command_line.proofs.Meanings.{command_means, limits_kept}
pub use Rattle.csv_rows.proofs.Imports.{heading, rows_text}
pub use Rattle.exec_laws.proofs.BirthLaws.{place-of}
pub use Rattle.exec_laws.proofs.GrownGraphs.{not-false, set_ranks-other}
pub use Rattle.exec_laws.proofs.Imports.{All-from_get_or, All-get_or, AreBirths, IsBlank, IsGraphSoFar, TakeBlanks, Who, WorkFault, blanks_of, cases_Bool, end_node, form_kind, get_or-append_seam, get_or-map-range_with_len, get_or-range_with_len, grown_ranks, grown_wires, growth_flaw, has_wrong_end, is_named, is_place, length-map-range_with_len, length-range_with_len, list_any, list_any-append, lt-ltb, ltb-true, map-range_with_len_more, ne_eqb, new_wire, no_box, or_parts, places_for, range_with_len, reserve_of, rules, ◌≢◌}
pub use Rattle.exec_laws.proofs.ListGrowths.{list-growth-has-no-flaw, places-listed, sources, sources-left}
pub use Rattle.exec_laws.specs.Names.{IsDone, left_of}
pub use Rattle.outside_io.proofs.Growing.{GrewByPrefix-after, GrewByPrefix-append}
pub use Rattle.outside_io.specs.Counts.{CountIncreased-earlier}
pub use Rattle.pipeline_exec.specs.Ends.{HasGrown}
pub use Rattle.plan_laws.proofs.Imports.{All, All-append, All-cons, All-nil, All-replicate, AllByRecursion, Birth, Bool, BothOrNone, BoxPicture, Checked, ColumnType, Contains, Contains-append_right, Declared, Edge, FileHas, FileRead, Files, FromColumn, GrowsLawfully, GrowthForm, HasEnoughRows, HasFullCount, HasPulled, IfSome, IsBirth, IsChecked, IsGraph, IsListDeclared, IsListGrowth, IsListUsed, IsShape, IsSmall, IsStep, IsTypedQuery, IsUngrown, IsValidList, IsValidUsed, Kind, List, MayGrow, None, Option, PartSpec, Query, Reserve, Row, Schema, SelectPlan, Shape, Some, SortKey, SourceHas, Spec, Stream, Table, TableDecl, UsedPart, Wire, [], all_places, and_from, and_parts, ap, append-nil, append_assoc, ap₂, arith, bad_line_in, births_of, body_nodes, born_wires, both_ways, boxes_needed, boxes_reserved, cases_lt, chunk_rows, collect_node, cond, count_by, database, drop, eq-eqb, eqb-true, false, file_bytes, file_read, filter-append, flat_map, flat_map-append, flow, form_at, forms, from_types, get_or, get_or-map, get_or_append_left, get_or_default, get_or_past, grew-list, grown_kind, growth_list, growths_of, inl, input_count, inr, is-gapless, is_grouped, is_of, is_some, join_use, join_valid, kept_growths, kind_of, le-leb, leb-true, length, length-append, length-map, length-replicate, list_growth, list_source, listed_part, map, map-map, needed_valid, new_wires, nil_from_length, no_draft, no_wire, numbered_parts, option_map, order_of, part_source, parts_used, paths_in, plan_nodes, plan_ranks, plan_valid, ports_of, pulled_rows, pulled_since, query_boxes, query_tree, refl, refusal_of, replicate, reserved_nodes, reserves_from, row_of, rows_together, same_kind, shape_of, shape_types, slice_get, source_types, sources_of_files, stream_pulled_at, stream_rows, subst, suc, sum_by, sum_by-append, sum_by-cons, sym, take, take-append-drop, take_more, true, unboxed, used_part, used_tables, with_nodes, zero, ℕ, ⊤, ◌&&◌, ◌++◌, ◌+◌, ◌-◌, ◌<◌, ◌==◌, ◌||◌, ◌∙◌, ◌∷◌, ◌≡◌, ◌≤◌, ◌⊎◌, LawfulSnapshot}
pub use Rattle.plan_laws.proofs.ends.Columns.{IsTypedSelect, typed-select}
pub use Rattle.plan_laws.proofs.ends.GrownLists.{form-csv, grown-lists, part-form}
pub use Rattle.plan_laws.proofs.ends.GrownNodes.{at-recursion}
pub use Rattle.plan_laws.proofs.ends.KnownKinds.{IsAboveSources, plan-ranked, plan-steps}
pub use Rattle.plan_laws.proofs.ends.LaidPlans.{IsQueryPlan}
pub use Rattle.plan_laws.proofs.ends.ListLaws.{few-paths-in}
pub use Rattle.plan_laws.proofs.ends.Needs.{are_grouped, are_some, are_tested, need_by_clauses}
pub use Rattle.plan_laws.proofs.ends.NodeKinds.{kinds-counted, kinds-same, reserves-same}
pub use Rattle.plan_laws.proofs.ends.Parts.{IsListOf, IsPartOf, both-valid, in-front, joined-parts, joined-valid, lists-valid, table-parts, table-valid}
pub use Rattle.plan_laws.proofs.ends.Pulled.{since-pulled}
pub use Rattle.plan_laws.proofs.ends.Queries.{QueryAnswered, planned-ended, query-plan}
pub use Rattle.plan_laws.proofs.meaning.BoxCounts.{boxes-counted, plan-needs}
pub use Rattle.plan_laws.proofs.meaning.PlanGraphs.{IsPlanGraph, plan-graph}
pub use Rattle.plan_laws.proofs.meaning.SmallPlans.{is-small}
pub use Rattle.plan_laws.specs.declared.nodes.NodePort.{NodePort}
pub use Rattle.plan_run.proofs.Imports.{AreStarting, Err, HasNoReader, HasStock, KeepsBehind, PlanFaultHolds, RanWith, first_box_of, get_or-append-add, kinds_in, kinds_of, left_after, lt-leb, taken_for, without_first_box}
pub use Rattle.plan_run.proofs.Taking.{some-rest, stock-here, stock-step, taken-kinds, taken-length}
pub use Rattle.plan_run.proofs.Telling.{ended-later, run-count, runs-give-back, taken-has}
pub use Rattle.plan_run.specs.Plans.{FailsWith, FlawedWith, LeavesRack, MayRunPlan}
pub use Rattle.proc_api.proofs.Imports.{All-contains, AreReserves, IsAdded, StartsAs, holds_node, is_reserved, nat_le, no_reserve, reserved_edges, sum_by_push}
pub use Rattle.proc_api.proofs.Reserving.{graph-reserved, none-reserved, reserve-added}
pub use Rattle.proc_api.specs.Names.{OfPart, ReadsList, ReadsPart, handed_out_by}
pub use Rattle.proc_api.specs.Prelude.{BadPlace}
pub use Rattle.proc_api.specs.SpecContracts.{OfFile}
pub use Rattle.query_model.proofs.Accepted.{same_refusal}
pub use Rattle.query_run.specs.Names.{AreLawfulOver, AreRefused, Ending, Ends, EndsFor, EndsUnlawful, FailsAtPart, GivesText, HasBoxes, IsAccepted, IsAnswerable, IsCertain, IsCheckedCommand, IsEither, IsGraphOf, IsHonest, IsKeptFor, IsListNamed, IsPartNamed, IsPlain, IsPlanned, IsReadNamed, IsRefusedFor, IsRun, IsRunnable, IsShort, LackBoxes, LacksBoxes, LeavesBoxes, LeavesPlan, MakesText, MeanNothing, NameManyPaths, NamesFewPaths, OfChecked, OfCommand, OfQuery, PartFailsFor, PartName, PartPlace, PlanFailsFor, PlanFailure, PulledMore, PulledRows, PullsItsFlow, RanPlan, ReaderFails, ReadsNamed, Refused, ServesNamed, Shortage, SucceedsUnless, Tells, Writes, WritesAnswer, boxes_for, edges_kept, failure_of, file_place, kept_places, kinds_for, kinds_reserved, name_at, name_of, node_specs, part_place, places_in, plan_kinds, piece_bytes, plan_of, plan_status, pulled_by_boxes, refused_status, reserves_behind, schemas_of, spec_read, specs_in, status_of, stock_of, tables_used}
pub use Rattle.query_run.specs.Prelude.{AllPartsValid, Answered, Command, DraftNode, Failed, GivesBack, GraphBegins, GrewBy, GrewByPrefix, IsDueRefusal, IsLongFile, IsReadFrom, IsSourceKind, LinePiece, NoFile, PartFile, PartsFile, Plan, PlanFault, PlanGraph, PlanNode, PlanReserve, Refusal, RunsPlan, Untouched, WriteFailed, answer_text, kind_place, kinds_taken, no_spec, part_bad_place, taken_at, used_parts}
pub use Rattle.select_planner.proofs.Imports.{sum_by_more}
pub use Rattle.sql_text.proofs.AnalysableQueries.{analysable_of_read}
pub use Rattle.sql_text.proofs.Readings.{one_tree}
pub use Rattle.std.proofs.lemmas.List.Concat.{length-flat_map}
pub use Rattle.std.proofs.lemmas.Option.{slice_get-get_or, slice_get-map}
unfoldable pub use Rattle.exec_laws.proofs.Imports.{box_at, rank_at, wire_at}
unfoldable pub use Rattle.plan_run.proofs.Imports.{spec_at}
unfoldable pub use Rattle.proc_api.specs.Reserves.{reserve_at}
