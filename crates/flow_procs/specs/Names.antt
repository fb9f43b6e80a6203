-- The names that this crate's contracts speak of, in one place.
pub use Rattle.flow_procs.specs.Collects.{collect_shelled, collect_uses, gathering}
pub use Rattle.flow_procs.specs.Counting.{count_on, counting_own, number_row, numbers_shelled}
pub use Rattle.flow_procs.specs.Expressions.{expression_shelled}
pub use Rattle.flow_procs.specs.Filters.{filter_shelled}
pub use Rattle.flow_procs.specs.Limits.{limit_shelled, read_own}
pub use Rattle.flow_procs.specs.Prelude.{ColumnType, Kind, Spec}
pub use Rattle.flow_procs.specs.Resizes.{resize_shelled}
pub use Rattle.proc_shell.proofs.Through.{first-source}
pub use Rattle.proc_shell.specs.Kernels.{kernel_of}
pub use Rattle.proc_shell.specs.Prelude.{idle_own}
pub use Rattle.std.specs.Prelude.{IfOk, [], false, map, min, refl, true, vec_capacity, vec_len}
