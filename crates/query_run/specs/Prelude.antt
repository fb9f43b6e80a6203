-- The names from outside that this crate's definitions use, in one place.
pub use Rattle.command_line.specs.Words.{IsWithinLimits, command_of}
pub use Rattle.command_line.specs.declared.words.Command.{Command}
pub use Rattle.exec_laws.specs.Names.{IsStuck, box_at}
pub use Rattle.exec_laws.specs.Prelude.{Reserve, Table, WorkFault}
pub use Rattle.exec_laws.specs.declared.edges.StuckNode.{StuckNode}
pub use Rattle.exec_laws.specs.declared.growth.GrowthFlaw.{GrowthFlaw}
pub use Rattle.outside_io.specs.Counts.{CountIncreased}
pub use Rattle.outside_io.specs.Growth.{GrewBy, GrewByPrefix, Untouched}
pub use Rattle.pipeline_exec.specs.Ends.{EndsBadly, HasGrownByAll}
pub use Rattle.plan_laws.specs.Boxes.{reserved_nodes}
pub use Rattle.plan_laws.specs.Drafts.{no_draft, with_nodes}
pub use Rattle.plan_laws.specs.Ended.{HasFullCount, used_part}
pub use Rattle.plan_laws.specs.Plans.{HasEnoughRows, SelectPlan, plan_nodes}
pub use Rattle.plan_laws.specs.Prelude.{Checked, Declared, Grouped, Kind, ListFile, PartSpec, Plain, Row, Shape, Spec, TableDecl, TableUse}
pub use Rattle.plan_laws.specs.Refusals.{first_crowded}
pub use Rattle.plan_laws.specs.Same.{forms}
pub use Rattle.plan_laws.specs.Shapes.{IsSoundPlan, LaysDown, boxes_needed, plan_ranks, reserves_from}
pub use Rattle.plan_laws.specs.Steps.{list_source, select_plan}
pub use Rattle.plan_laws.specs.declared.nodes.DraftNode.{DraftNode}
pub use Rattle.plan_laws.specs.declared.plan.Plan.{Plan}
pub use Rattle.plan_laws.specs.declared.plan.PlanNode.{PlanNode}
pub use Rattle.plan_laws.specs.declared.plan.PlanReserve.{PlanReserve}
pub use Rattle.plan_run.specs.Boxes.{spec_at}
pub use Rattle.plan_run.specs.Plans.{GivesBack, GivesRows, GraphBegins, RunsPlan, kinds_taken, taken_at}
pub use Rattle.plan_run.specs.declared.run.GraphForm.{GraphForm}
pub use Rattle.plan_run.specs.declared.run.PlanFault.{PlanFault}
pub use Rattle.plan_run.specs.declared.run.PlanGraph.{PlanGraph}
pub use Rattle.proc_api.specs.Names.{BoxPicture, FileRead, IsBlank, IsLongFile, IsSourceKind, NoFile, PartFile, PartsFile, chunk_rows, file_read, is_of, kind_name, kind_place, no_spec, raised, stock_of}
pub use Rattle.query_model.specs.Database.{AllListsValid}
pub use Rattle.query_model.specs.Names.{AllPartsValid, Files, IsAnswer, IsChecked, IsDueRefusal, IsTypedQuery, IsValidUsed, UsedPart, answer_text, bad_line_in, database, file_bytes, flow, from_types, join_use, output_rows, part_bad_place, parts_used, query_boxes, query_tables, query_tree, refusal_of, use_of, used_parts, used_tables}
pub use Rattle.query_model.specs.declared.places.BadField.{BadField}
pub use Rattle.query_model.specs.declared.query.Query.{Query}
pub use Rattle.query_model.specs.declared.query.Refusal.{Refusal}
pub use Rattle.query_model.specs.declared.query.Schema.{Schema}
pub use Rattle.query_run.specs.declared.ending.Ending.{Ending}
pub use Rattle.query_run.specs.declared.ending.Ending.TheVariants.{Answered, Failed, WriteFailed}
pub use Rattle.query_run.specs.declared.ending.Failure.{Failure}
pub use Rattle.query_run.specs.declared.ending.PartName.{PartName}
pub use Rattle.query_run.specs.declared.ending.PlanFailure.{PlanFailure}
pub use Rattle.query_run.specs.declared.ending.Refused.{Refused}
pub use Rattle.query_run.specs.declared.planning.PartPlace.{PartPlace}
pub use Rattle.query_run.specs.declared.stock.Shortage.{Shortage}
pub use Rattle.query_run.specs.declared.telling.LinePiece.{LinePiece}
pub use Rattle.sql_text.specs.Refusals.{IsReadFrom, IsRefused}
pub use Rattle.sql_text.specs.declared.limits.ParseRefusal.{ParseRefusal}
