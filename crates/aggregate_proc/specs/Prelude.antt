-- The names of other crates that the definitions use, in one place.
pub use Rattle.chunk_data.specs.Names.{rows_of, value_at}
pub use Rattle.chunk_data.specs.declared.typed_value.Value.{Value}
pub use Rattle.key_codes.specs.Keys.{HasKey as HasKeyAt, codes_in, key_at, key_code}
pub use Rattle.key_codes.specs.declared.key_code.SeenKeys.{SeenKeys}
pub use Rattle.proc_api.specs.Names.{AreGrouped, FitsGroups, IsWorkOf, Lists, OwnState, SumsNoTexts, all_rows, calls_from, chunk_rows, default_states, idle_own, is_count, merged_rows, merged_states, partial_rows, partial_types, spec_group_types, sums_texts}
pub use Rattle.proc_api.specs.Prelude.{AggOp, All, AllByRecursion, ColumnType, FitsTypes, GroupSpec, Kind, Row, Spec, StateCall, Table}
pub use Rattle.proc_shell.proofs.Through.{shelled-of, shelled-still}
pub use Rattle.proc_shell.specs.Kernels.{IsShelled, KernelState, kernel_of, work_of}
pub use Rattle.proc_shell.specs.declared.kernel.Offer.{Offer}
pub use Rattle.query_model.specs.Names.{Call, added, call_of, chosen, combine_of, combined, count_up, counted, counts_added, distinct_rows, greatest, grouped_by, groups_or_default, kind_of, least, rows_with, state_calls}
