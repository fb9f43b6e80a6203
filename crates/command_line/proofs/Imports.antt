-- The names from outside that this crate's proofs use, in one place.
pub use Rattle.command_line.specs.Pieces.{both_read, pieces_of}
pub use Rattle.command_line.specs.Tables.{are_distinct, column_of, column_with, columns_of, few_named, few_of, is_path_byte, is_plain_path, parts_spelled, path_of, table_if, table_of, table_with, tables_of, type_named}
pub use Rattle.command_line.specs.Words.{GivesTables, IsWithinLimits, OptionGives, WordsMean, command_in, command_with, number_given, number_in, tables_given}
pub use Rattle.command_line.specs.Written.{AreFew, AreParts, Declares, IsColumnDecl, IsPath, IsTableDecl, column_text, parts_text, table_text, type_text}
pub use Rattle.command_line.specs.declared.words.Command.{Command}
pub use Rattle.command_options.specs.declared.options.OptionTexts.{OptionTexts}
pub use Rattle.query_model.proofs.Imports.{ColumnType, append-nil, drop_all, length-append, length-map, numeral_below, option_map, take_all}
pub use Rattle.query_model.specs.declared.query.ColumnDecl.{ColumnDecl}
pub use Rattle.query_model.specs.declared.query.PartsDecl.{PartsDecl}
pub use Rattle.query_model.specs.declared.query.PartsDecl.TheVariants.{ListFile, Paths}
pub use Rattle.query_model.specs.declared.query.TableDecl.{TableDecl}
pub use Rattle.sql_grammar.specs.Tokens.{begins_with_letter, is_word_byte}
pub use Rattle.std.proofs.Common.{Bool, List, None, Option, Some, [], ap, append_assoc, ap₂, arith, cond, drop, drop_at, eq-eqb, eqb-true, false, get_or, if◌then◌else◌, inl, inr, length, map, map-id, nat_le, ne_eqb, not, option_and_then, refl, rules, subst, sym, take, tests, true, ℕ, ◌&&◌, ◌++◌, ◌+◌, ◌<◌, ◌==◌, ◌^◌, ◌||◌, ◌∙◌, ◌∷◌, ◌≡◌, ◌≤◌}
pub use Rattle.std.proofs.Math.Seq.{take-append_seam}
pub use Rattle.std.proofs.lemmas.Bool.{and_parts, cases_lt, not-true, or_parts}
pub use Rattle.std.proofs.lemmas.Bool.Decides.{nat_tests}
pub use Rattle.std.proofs.lemmas.Iterator.{YieldsList-from_slice}
pub use Rattle.std.proofs.lemmas.Iterator.Search.{all_from_yields_List, any_from_yields_List}
pub use Rattle.std.proofs.lemmas.List.Elements.{All-append, All-cons, All-head, All-map, All-nil, All-tail, All-weaker}
pub use Rattle.std.proofs.lemmas.List.Splits.{join_with_byte-slice_split, length-slice_split, slice_split_at, slice_split_first, slice_split_none}
pub use Rattle.std.proofs.lemmas.List.Sums.{fails_before_first, passes_at_first, position_or_len_is, prefix_len-le-length, split_at_first}
pub use Rattle.std.proofs.lemmas.Option.{cond_some, none-some, same_Some}
pub use Rattle.std.proofs.lemmas.Slice.Eq.{bytes_eq-Decides}
pub use Rattle.std.specs.List.{All, after_first, before_first, count_by, join_with_byte, list_all, list_any, position_or_len, prefix_len, slice_split}
pub use Rattle.std.specs.Str.{bytes_eq}
pub use Rattle.std.specs.String.{string_bytes}
unfoldable pub use Rattle.command_line.specs.Pieces.{all_read}
unfoldable pub use Rattle.command_line.specs.Words.{command_of}
unfoldable pub use Rattle.command_options.specs.Options.{options_of}
unfoldable pub use Rattle.sql_grammar.specs.Tokens.{is_name}
