-- The names from outside that this crate's definitions use, in one place.
pub use Rattle.chunk_data.specs.Values.{FitsTypes, Row, Table, default_value}
pub use Rattle.port_word.specs.Names.{ChangedByCalls, IsAllFinished, Picture, WaitsForData, WaitsForRoom, can_push, holds_data, is_in_finished, is_out_finished, no_flags}
pub use Rattle.port_word.specs.declared.flags.Action.{Action}
pub use Rattle.port_word.specs.declared.flags.Action.TheVariants.{Close, Finish, Pull, Push, Unwant, Want}
pub use Rattle.port_word.specs.declared.flags.Flags.{Flags}
pub use Rattle.port_word.specs.declared.flags.Reserve.{Reserve}
pub use Rattle.port_word.specs.declared.flags.Wire.{Wire}
pub use Rattle.port_word.specs.declared.port_view.InputPort.{InputPort}
pub use Rattle.proc_api.specs.declared.growth.Edge.{Edge}
pub use Rattle.proc_api.specs.declared.growth.GrowNode.{GrowNode}
pub use Rattle.proc_api.specs.declared.growth.Growth.{Growth}
pub use Rattle.proc_api.specs.declared.growth.Who.{Who}
pub use Rattle.proc_api.specs.declared.growth.Who.TheVariants.{Me, New}
pub use Rattle.proc_api.specs.declared.status.Answer.{Answer}
pub use Rattle.proc_api.specs.declared.status.Answer.TheVariants.{Prepared, Scheduled}
pub use Rattle.proc_api.specs.declared.status.LoadRefusal.{LoadRefusal}
pub use Rattle.proc_api.specs.declared.status.Status.{Status}
pub use Rattle.proc_api.specs.declared.status.Wake.{Wake}
pub use Rattle.proc_api.specs.declared.status.WorkFault.{WorkFault}
pub use Rattle.query_model.specs.Names.{Cond, Expr, Files, Formula, IsItem, IsTypedCond, bad_line_in, combine_of, enough, file_bytes, formula, groups, groups_or_default, holds, item_row, joined_rows, kind_of, limited, merged_groups, numbers, part_bad_place}
pub use Rattle.query_model.specs.Database.{paths_in}
pub use Rattle.query_model.specs.Prelude.{ColumnType, SortKey, is_lt}
pub use Rattle.query_model.specs.declared.checked.KeyPair.{KeyPair}
pub use Rattle.query_model.specs.declared.places.BadPlace.{BadPlace}
pub use Rattle.query_model.specs.declared.processor_spec.GroupSpec.{GroupSpec}
pub use Rattle.query_model.specs.declared.processor_spec.JoinSpec.{JoinSpec}
pub use Rattle.query_model.specs.declared.processor_spec.Kind.{Kind}
pub use Rattle.query_model.specs.declared.processor_spec.PartSpec.{PartSpec}
pub use Rattle.query_model.specs.declared.processor_spec.SortSpec.{SortSpec}
pub use Rattle.query_model.specs.declared.processor_spec.Spec.{Spec}
pub use Rattle.query_model.specs.declared.processor_spec.StateCall.{StateCall}
pub use Rattle.query_model.specs.declared.query.AggCall.{AggCall}
pub use Rattle.query_model.specs.declared.query.AggOp.{AggOp}
pub use Rattle.query_model.specs.declared.query.CompareOp.{CompareOp}
pub use Rattle.query_model.specs.declared.query.ExprOf.{ExprOf}
pub use Rattle.query_model.specs.declared.query.Operand.{Operand}
pub use Rattle.query_model.specs.declared.query.Span.{Span}
pub use Rattle.std.specs.List.{All, AllByRecursion, Contains, list_all, list_any}
pub use Rattle.std.specs.Prelude.{Bool, IfSome, IsPermutation, IsSome, IsSorted, IsTrue, List, None, Option, Some, [], cond, count_by, drop, false, filter, flat_map, length, map, max, min, nat_eq, nat_lt, not, slice_index_or, suc, sum_by, take, true, zero, ℕ, ⊤}
unfoldable pub use Rattle.chunk_data.specs.Values.{row_cmp}
unfoldable pub use Rattle.port_word.specs.Names.{in_count, input_at, out_count, output_at}
unfoldable pub use Rattle.query_model.specs.Names.{bad_place, count_up, good_rows, part_records, type_of}
