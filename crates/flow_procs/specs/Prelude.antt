-- The names from outside that this crate's definitions use, in one place.
pub use Rattle.chunk_data.specs.declared.typed_value.Value.TheVariants.{UInt}
pub use Rattle.proc_api.specs.Names.{OwnState, idle_own}
pub use Rattle.proc_api.specs.Prelude.{ColumnType, Cond, Expr, Kind, List, Row, Span, Spec, [], holds, item_row, ℕ}
pub use Rattle.proc_shell.proofs.Resizing.{resize-pushes}
pub use Rattle.proc_shell.proofs.Through.{IsMaker, first-source, shelled-of}
pub use Rattle.proc_shell.specs.Kernels.{KernelState, first_stage, work_of}
pub use Rattle.proc_shell.specs.Names.{Bool, IsShelled, IsWorkOf, Some, Table, true}
pub use Rattle.std.proofs.Common.{ap, filter, inl, inr, map, refl, suc, sym, zero, ◌∙◌}
pub use Rattle.std.proofs.lemmas.List.{map-append}
pub use Rattle.std.proofs.lemmas.List.Elements.{filter-append}
