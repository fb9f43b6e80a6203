-- The names from outside that this crate's definitions use, in one place.
pub use Rattle.proc_api.specs.Graphs.{IsGraph}
pub use Rattle.proc_api.specs.Names.{FitsInput, IsSortOf, SpecForm, default_states, grown_kind, is_count, merged_rows, partial_rows, row_of, same_kind, spec_form, spec_group_types}
pub use Rattle.proc_api.specs.Prelude.{AggCall, ColumnType, ExprOf, GroupSpec, JoinSpec, KeyPair, Kind, PartSpec, Row, SortKey, SortSpec, Span, Spec, StateCall, Wire, is_lt, row_cmp}
pub use Rattle.query_model.specs.Names.{Cond, Database, Expr, IsOrderedAnswer, call_type, column_types, enough, groups_or_default, holds, item_row, joined_rows, kind_of, limited, numbers, query_boxes, rows_where, shape_types, source_rows, source_table, type_of, used_tables}
pub use Rattle.query_model.specs.declared.checked.Checked.{Checked}
pub use Rattle.query_model.specs.declared.checked.CheckedJoin.{CheckedJoin}
pub use Rattle.query_model.specs.declared.checked.Grouping.{Grouping}
pub use Rattle.query_model.specs.declared.checked.Shape.{Shape}
pub use Rattle.query_model.specs.declared.checked.Shape.TheVariants.{Grouped, Plain}
pub use Rattle.query_model.specs.declared.checked.TableUse.{TableUse}
pub use Rattle.query_model.specs.declared.checked.TableUse.TheVariants.{Declared, Numbers}
pub use Rattle.query_model.specs.declared.query.PartsDecl.{PartsDecl}
pub use Rattle.query_model.specs.declared.query.PartsDecl.TheVariants.{ListFile, Paths}
pub use Rattle.query_model.specs.declared.query.TableDecl.{TableDecl}
pub use Rattle.std.specs.List.{All, AllByRecursion, AllZip, Any, Contains, list_all, list_any}
