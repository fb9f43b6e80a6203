-- The names from outside that this crate's definitions use, in one place.
pub use Rattle.chunk_data.specs.Values.{Row, Table, default_value, is_null, same_row, text_cmp, value_at, value_cmp, values_at}
pub use Rattle.chunk_data.specs.declared.typed_value.ColumnType.{ColumnType}
pub use Rattle.chunk_data.specs.declared.typed_value.SortKey.{SortKey}
pub use Rattle.chunk_data.specs.declared.typed_value.Value.{Value}
pub use Rattle.chunk_data.specs.declared.typed_value.Value.TheVariants.{Int, Null, Text, UInt}
pub use Rattle.csv.specs.Reading.{default_config, records, strip_bom}
pub use Rattle.query_model.specs.declared.analysis.operand_types.ExprTyping.{ExprTyping}
pub use Rattle.query_model.specs.declared.analysis.placing.Scope.{Scope}
pub use Rattle.query_model.specs.declared.checked.Checked.{Checked}
pub use Rattle.query_model.specs.declared.checked.CheckedJoin.{CheckedJoin}
pub use Rattle.query_model.specs.declared.checked.Grouping.{Grouping}
pub use Rattle.query_model.specs.declared.checked.KeyPair.{KeyPair}
pub use Rattle.query_model.specs.declared.checked.Shape.{Shape}
pub use Rattle.query_model.specs.declared.checked.Shape.TheVariants.{Grouped, Plain}
pub use Rattle.query_model.specs.declared.checked.TableUse.{TableUse}
pub use Rattle.query_model.specs.declared.checked.TableUse.TheVariants.{Declared, Numbers}
pub use Rattle.query_model.specs.declared.places.BadField.{BadField}
pub use Rattle.query_model.specs.declared.places.BadField.TheVariants.{Column, Fields}
pub use Rattle.query_model.specs.declared.places.BadPlace.{BadPlace}
pub use Rattle.query_model.specs.declared.processor_spec.Kind.{Kind}
pub use Rattle.query_model.specs.declared.processor_spec.Spec.{Spec}
pub use Rattle.query_model.specs.declared.query.AggCall.{AggCall}
pub use Rattle.query_model.specs.declared.query.AggOp.{AggOp}
pub use Rattle.query_model.specs.declared.query.AggOp.TheVariants.{Count, Max, Min, Sum}
pub use Rattle.query_model.specs.declared.query.ArithOp.{ArithOp}
pub use Rattle.query_model.specs.declared.query.ArithOp.TheVariants.{Add, Mul, Sub}
pub use Rattle.query_model.specs.declared.query.ColumnDecl.{ColumnDecl}
pub use Rattle.query_model.specs.declared.query.ColumnRef.{ColumnRef}
pub use Rattle.query_model.specs.declared.query.CompareOp.{CompareOp}
pub use Rattle.query_model.specs.declared.query.CondOf.{CondOf}
pub use Rattle.query_model.specs.declared.query.ExprOf.{ExprOf}
pub use Rattle.query_model.specs.declared.query.Item.{Item}
pub use Rattle.query_model.specs.declared.query.ItemKind.{ItemKind}
pub use Rattle.query_model.specs.declared.query.Items.{Items}
pub use Rattle.query_model.specs.declared.query.Items.TheVariants.{Listed, Star}
pub use Rattle.query_model.specs.declared.query.Join.{Join}
pub use Rattle.query_model.specs.declared.query.NamePair.{NamePair}
pub use Rattle.query_model.specs.declared.query.Number.{Number}
pub use Rattle.query_model.specs.declared.query.Operand.{Operand}
pub use Rattle.query_model.specs.declared.query.OrderKey.{OrderKey}
pub use Rattle.query_model.specs.declared.query.PartsDecl.{PartsDecl}
pub use Rattle.query_model.specs.declared.query.PartsDecl.TheVariants.{ListFile, Paths}
pub use Rattle.query_model.specs.declared.query.Query.{Query}
pub use Rattle.query_model.specs.declared.query.Refusal.{Refusal}
pub use Rattle.query_model.specs.declared.query.Schema.{Schema}
pub use Rattle.query_model.specs.declared.query.Span.{Span}
pub use Rattle.query_model.specs.declared.query.TableDecl.{TableDecl}
pub use Rattle.query_model.specs.declared.query.TableRef.{TableRef}
pub use Rattle.query_model.specs.declared.query.TableRef.TheVariants.{Named}
pub use Rattle.std.specs.Fmt.{signed_decimal}
pub use Rattle.std.specs.Int.{int_rem_euclid, int_wrap}
pub use Rattle.std.specs.List.{All, join_with_byte, list_all, list_any}
pub use Rattle.std.specs.Option.{option_or}
pub use Rattle.std.specs.Ordering.{int_cmp, is_eq, is_ge, is_gt, is_le, is_lt, is_ne}
pub use Rattle.std.specs.Prelude.{Bool, IsPermutation, IsSome, IsSorted, List, None, Option, Some, [], bytes_eq, codes, cond, decimal, drop, false, filter, find, flat_map, fold, is_some, length, map, nat_le, nat_lt, neg_ℤ, negsuc, not, option_map, pos, slice_get, slice_index_or, suc, sum_by, take, true, unsigned_abs, zero, ℕ, ℤ, ⊤}
pub use Rattle.std.specs.Str.{is_utf8}
pub use Rattle.std.specs.declared.cmp.Ordering.{Ordering}
pub use mir.Syntax.{w64}
unfoldable pub use Rattle.chunk_data.specs.Values.{row_cmp}
