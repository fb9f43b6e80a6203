-- The names from outside that this crate's proofs use, in one place.
pub use Rattle.chunk_data.proofs.Imports.{AreLong, drop-drop, get_or-map, column_type, length-drop, map-set, row_at, rows_of, set-get_or, take_at, values}
pub use Rattle.chunk_data.proofs.Laws.{AreLong_push, length-FitsTypes, length-rows_of, rows_of_push}
pub use Rattle.chunk_data.specs.declared.typed_column.Column.{Column}
pub use Rattle.csv.specs.Machine.{Read, ends_at_end, is_end, state_code, step}
pub use Rattle.csv.specs.Reading.{default_config, is_bom, records, records_next}
pub use Rattle.csv_rows.specs.Places.{AddsFirst, AddsRecord, AddsSpelled, BeginsField, BeginsFields, CanTakeBack, EndsRecord, FieldUpTo, FirstRecord, HasMore, IsBadRecordAt, Judged, OnBad, PushesField, PushesFirst, ReadsFirst, SkipsEnds, StartsLine, StartsPart, at_mark, bytes_between, first_or, is_line_end, is_mark, no_mark, no_quote, records_at, starts_line, starts_with}
pub use Rattle.csv_rows.specs.RowsLeft.{ReadsFront, RowsLeft, TakesRow, at_end}
pub use Rattle.query_model.proofs.Imports.{Table, Text, append-nil, both_spelled, doubled, drop_all, drop_more, flat_map, is_ascii_digit, length-append, length-map, nat_lt, numeral_below, row_front, rows_text, spelled_value, take_all, with_digits}
pub use Rattle.query_model.proofs.NumeralLaws.{with_digits-end, with_digits-numeral, with_digits-step}
pub use Rattle.query_model.proofs.Reading.{bad_field-lengths, spelled_row-fits, spelled_row-lengths}
pub use Rattle.std.proofs.Common.{Bool, IsSome, List, None, Option, Some, [], ap, append_assoc, ap₂, arith, bit_or, cond, drop, eqb, false, get_or, length, map, nat_eq, not, refl, set, subst, suc, sym, take, true, zero, ℕ, ◌%◌, ◌&&◌, ◌*◌, ◌++◌, ◌+◌, ◌-◌, ◌<◌, ◌==◌, ◌^◌, ◌||◌, ◌∙◌, ◌∷◌, ◌≡◌, ◌≢◌, ◌≤◌}
pub use Rattle.std.proofs.lemmas.Bool.{and_parts, eq-eqb, eqb-true, false_from_ne_true, ne_eqb, not-true, or_cases, or_parts}
pub use Rattle.std.proofs.lemmas.List.Sums.{prefix_len-le-length, prefix_len_is}
pub use Rattle.std.proofs.lemmas.Simd.{chunk-drop, leading_from_mask_l, length-chunk, mask_l-mod, trailing_mask_l, zip2_of_maps, zip2_splat}
pub use Rattle.std.specs.List.{list_any, prefix_len}
pub use lib.Lanes.{chunk, mask_l, top}
pub use native.Mathlib.Decide.{dec_lt}
unfoldable pub use Rattle.csv.specs.Machine.{next_record}
unfoldable pub use Rattle.csv.specs.Reading.{records_from, strip_bom}
unfoldable pub use Rattle.query_model.specs.Names.{bad_column, bad_place, good_rows, spelled_row}
pub use Rattle.chunk_data.proofs.Chunks.{AreColumns-empty}
pub use Rattle.chunk_data.proofs.ColumnLists.{Joined-back, Joined-none}
pub use Rattle.csv.proofs.ReadFacts.{strip-short}
pub use Rattle.csv.specs.declared.parser.State.{State}
pub use Rattle.csv_rows.specs.Lines.{heading}
pub use Rattle.csv_rows.specs.declared.record_by_field.RecordRead.{RecordRead}
pub use Rattle.csv_rows.specs.declared.rows.RowsFault.{RowsFault}
pub use Rattle.csv_rows.specs.declared.rows.RowsFault.TheVariants.{Bad, Memory}
pub use Rattle.query_model.proofs.TextLaws.{row_front-more, row_front-whole}
pub use Rattle.query_model.specs.declared.places.BadField.TheVariants.{Fields}
pub use Rattle.std.proofs.Math.Nat.{pow-le-pow_right, pow-suc}
pub use Rattle.std.proofs.lemmas.List.Folds.{prefix_len-append}
pub use Rattle.std.specs.Option.{option_copied}
