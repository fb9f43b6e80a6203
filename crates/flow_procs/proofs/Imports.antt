-- The names from outside that this crate's proofs use, in one place.
pub use Rattle.chunk_data.proofs.Imports.{AreLong, adds, kept, replicate, rows_of, values}
pub use Rattle.expr_eval.proofs.Imports.{Column, UInt}
pub use Rattle.flow_procs.specs.Filters.{filter_maker}
pub use Rattle.flow_procs.specs.Names.{IfOk, count_on, counting_own, min, number_row, read_own}
pub use Rattle.proc_api.proofs.Imports.{AreLimited, Span, filter, last_read, length-map, map, map-append, ◌-◌, ◌^◌}
pub use Rattle.proc_api.proofs.MadeLaws.{limited-more}
pub use Rattle.proc_api.specs.Prelude.{Cond, IsTypedCond, holds, max}
pub use Rattle.proc_shell.proofs.Imports.{Begins, Bool, IsPulled, List, Makes, Means, None, Row, Some, Spec, Table, Takes, [], ap, append-nil, append_assoc, arith, chunk_rows, cond, drop, eqb-true, false, idle_own, inl, length, no_lists, refl, rules, subst, suc, sym, take, unread, with_chunk, zero, ℕ, ◌++◌, ◌+◌, ◌<◌, ◌∙◌, ◌∷◌, ◌≡◌}
pub use Rattle.proc_shell.proofs.Resizing.{begins-resized, takes-resized}
pub use Rattle.proc_shell.proofs.Through.{rows-here, takes-each}
unfoldable pub use Rattle.proc_api.specs.Prelude.{count_up}
