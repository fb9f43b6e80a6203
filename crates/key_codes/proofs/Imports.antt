-- The names from outside that this crate's proofs use, in one place.
pub use Rattle.chunk_data.proofs.Imports.{column_type, get_or-zip2, is_null, length-zip2, row_at, values}
pub use Rattle.chunk_data.proofs.Nulls.{no_null}
pub use Rattle.chunk_data.specs.Names.{column_validity, or_null, stored_values, with_nulls}
pub use Rattle.chunk_data.specs.Values.{is_plain_text, is_text, plain_type, type_at}
pub use Rattle.indexmap.specs.IndexSet.{insert_key}
pub use Rattle.key_codes.specs.Keys.{AreKeyValues, FindsCode, FindsCodes, FindsNull, HasKey, IsCell, IsNullWithin, IsSeenFor, beside_null, byte_code, byte_codes, codes_in, first_key_column, first_plain_type, is_valid_at, key_at, key_bytes, key_code, null_mark, null_marks, number_codes, places_from, plain_types_at, row_code, same_code, valid_codes, value_bytes, value_code, whole_codes, with_key, with_null}
pub use Rattle.query_model.proofs.Distinct.{IsSame}
pub use Rattle.query_model.proofs.Imports.{ColumnType, Row, Value, flat_map-append, list_any-append, same_row, value_at}
pub use Rattle.query_model.proofs.Lists.{map-map}
pub use Rattle.query_model.proofs.ValueOrder.{same_row_is}
pub use Rattle.std.proofs.Math.Seq.{take-suc}
pub use Rattle.std.proofs.lemmas.Bool.{cases_lt, le-leb, lt-leb}
pub use Rattle.std.proofs.lemmas.List.{append-nil, at_drop_more, drop_all, drop_at, get_or-map, get_or-replicate, get_or_default, length-append, length-map, length-replicate, map-append, take_all, take_at}
pub use Rattle.std.proofs.lemmas.List.Elements.{All-from_recursion, All-map, recursion_from_All}
pub use Rattle.std.proofs.lemmas.List.Sums.{prefix_len-le-length}
pub use Rattle.std.proofs.lemmas.Nat.{from_le_bytes-to_le_bytes_8}
pub use Rattle.std.specs.Cmp.Lexicographic.{nat_list_eq_equiv, same_text}
pub use Rattle.std.specs.Int.{to_le_bytes}
pub use Rattle.std.specs.Option.{option_map}
pub use Rattle.std.specs.List.{All, AllByRecursion, list_any, position_or_len}
pub use Rattle.chunk_data.specs.declared.typed_value.PlainType.{PlainType}
pub use Rattle.chunk_data.specs.declared.typed_value.Value.TheVariants.{Int, Null, Text, UInt}
pub use Rattle.std.proofs.Common.{Bool, Err, Global, IfOk, IfSome, List, None, Ok, OnOk, Option, Result, SFits, Some, Vec, [], ap, append_assoc, ap₂, arith, cond, drop, false, flat_map, fold, get_or, inl, inr, length, map, nat_eq, not, pos, position, refl, replicate, rules, subst, suc, sym, take, true, w64, zero, ℕ, ℤ, ◌&&◌, ◌++◌, ◌+◌, ◌<◌, ◌^◌, ◌||◌, ◌∙◌, ◌∷◌, ◌≡◌, ◌≢◌, ◌≤◌}
pub use Rattle.std.proofs.Math.Facts.{to_z-of_z}
pub use Rattle.std.proofs.lemmas.Grind.{common_steps}
