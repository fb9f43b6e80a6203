-- The names of this crate's definitions in one place: who needs several of its files imports from
-- here.
pub use Rattle.query_run.specs.Causes.{EndsUnlawful, FailsAtPart, FailsFor, IsFileNamed, IsKeptFor, IsListNamed, IsPartNamed, IsReadNamed, KeptNamed, LeavesPlan, PartFailsFor, PlanFailsFor, ReadsNamed, ServesNamed, TakesBoxes, UsesList}
pub use Rattle.query_run.specs.Commands.{IsAccepted, IsCheckedCommand, IsRefusedFor, IsRefusedQuery, OfChecked, OfCommand, OfQuery, schemas_of, tables_used}
pub use Rattle.query_run.specs.Endings.{TellsLine, Writes, failure_line, field_words, line_of, piece_bytes, place_words, plan_line, plan_status, query_line, refused_line, refused_status, status_of}
pub use Rattle.query_run.specs.Headline.{AreRefused, Ends, EndsEarly, EndsFor, IsAnswerable, IsCertain, IsEither, IsPlain, IsRun, IsTextOfAnswer, LackBoxes, LeavesBoxes, MakesOrFails, MakesText, MeanNothing, NameManyPaths, PulledRows, PullsItsFlow, ReaderFails, SucceedsUnless, WritesAnswer}
pub use Rattle.query_run.specs.Prelude.{CountIncreased, Ending, Failure, IsBlank, IsReadFrom, IsWithinLimits, PartName, PartPlace, PlanFailure, Query, Refused, Shortage, boxes_needed, kind_name, reserved_nodes, stock_of}
pub use Rattle.query_run.specs.Racks.{AreLawfulOver, HasBoxes, IsHonest, IsRunnable, IsShort, LacksBoxes, NamesFewPaths, OverFiles, PulledMore, RanPlan, boxes_for, pulled_by_boxes, kinds_for, kinds_reserved, plan_kinds, plan_of, specs_in}
pub use Rattle.query_run.specs.Steps.{GivesText, IsGraphOf, IsPlanned, Tells, edges_kept, failure_of, file_place, kept_places, name_at, name_of, node_specs, part_place, places_in, reserves_behind, spec_read}
pub use Rattle.proc_api.specs.declared.kind_rows.TheConstants.{KINDS}
