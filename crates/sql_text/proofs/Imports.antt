-- The names from outside that this crate's proofs use, in one place.
pub use Rattle.query_model.proofs.NumeralLaws.{with_digits-is}
pub use Rattle.query_model.specs.Fields.{numeral_value}
pub use Rattle.sql_grammar.proofs.Longest.{take-take_while, take_while-longest}
pub use Rattle.query_model.specs.Formulas.{CondForm, column}
pub use Rattle.query_model.specs.Names.{HasItsArgument, IsAnalysable, IsNoCall, calls_of, item_calls, operands_of}
pub use Rattle.query_model.specs.declared.query.AggCall.{AggCall}
pub use Rattle.query_model.specs.declared.query.AggOp.{AggOp}
pub use Rattle.query_model.specs.declared.query.ArithOp.{ArithOp}
pub use Rattle.query_model.specs.declared.query.ColumnRef.{ColumnRef}
pub use Rattle.query_model.specs.declared.query.CompareOp.{CompareOp}
pub use Rattle.query_model.specs.declared.query.CondOf.{CondOf}
pub use Rattle.query_model.specs.declared.query.ExprOf.{ExprOf}
pub use Rattle.query_model.specs.declared.query.Item.{Item}
pub use Rattle.query_model.specs.declared.query.Items.{Items}
pub use Rattle.query_model.specs.declared.query.Join.{Join}
pub use Rattle.query_model.specs.declared.query.NamePair.{NamePair}
pub use Rattle.query_model.specs.declared.query.Operand.{Operand}
pub use Rattle.query_model.specs.declared.query.OrderKey.{OrderKey}
pub use Rattle.query_model.specs.declared.query.Query.{Query}
pub use Rattle.query_model.specs.declared.query.Span.{Span}
pub use Rattle.query_model.specs.declared.query.TableRef.{TableRef}
pub use Rattle.sql_grammar.specs.Names.{AreKeys, AreListed, CallTree, Condition, Expression, IsAgg, IsColumn, IsComparison, IsCond, IsConj, IsExpr, IsFactor, IsFilter, IsGroupOperand, IsHaving, IsSelectItem, IsJoin, IsJoined, IsLimit, IsNeg, IsOperand, IsOrder, IsOrderKey, IsPair, IsQuery, IsSelection, IsTableRef, IsTerm, IsText, IsWhat, ItemTree, ItemWhat, QueryTree, Selection, QueryOperand, Spells, Tokens, a_call, a_column, a_constant, a_key, a_negative, a_null, a_null_constant, a_number, a_string, a_text, aggregate_of, all_columns, an_agg, an_expr, an_expression, ascending, bare, both, call, call_over, compare, comparison, conjunction, count_rows, count_star, descending, difference, disjunction, enclosed, enclosed_cond, equal, equal_columns, greater, greater_equal, has_argument, inner_join, is_not_null, is_null, item_tree, join_of, last_one, less, less_equal, listed, named, named_table, negation, negative, no_join, not_equal, null, numbers_table, one_conj, one_factor, one_more, one_neg, one_term, plain, plain_item, product, qualified, query_tree, select_query, shaping_of, some_items, source_of, sum, table_on, text, tokens_of, unnamed, unqualified, unstated, with_semicolon, AreBy, IsClause, IsNumber, IsSpan, clause_of, listed_by, no_clause, number_of, span_of}
pub use Rattle.sql_grammar.specs.Tokens.{behind_token, fitting, is_blank, text_byte, text_end, text_on, token_front}
pub use Rattle.sql_grammar.specs.declared.Sign.{Sign}
pub use Rattle.sql_grammar.specs.declared.TextByte.{TextByte}
pub use Rattle.sql_grammar.specs.declared.TextPlace.{TextPlace}
pub use Rattle.sql_grammar.specs.declared.TextPlace.TheVariants.{Middle}
pub use Rattle.sql_grammar.specs.declared.Token.{Token}
pub use Rattle.sql_text.specs.Answers.{ParseFails}
pub use Rattle.sql_text.specs.Terms.{OperandParser, Parse, Parsed, PartParser, SideRules, binary_of, call_at, call_front, call_or_row, called, closed_at, column_at, condition_of, count_at, dotted, first_term, group_sides, if_both, if_level, joined_at, level, negation_at, next_operator, null_test_of, operator_level, operator_of, part_form, plain_operand, plain_side, row_side_at, row_sides, side, side_of, sign_joint, truth, turn_of}
pub use Rattle.sql_text.specs.Queries.{QueryTail, after_equal, alias_at, behind, clause_at, column_ref_at, condition_at, count_behind, direction_at, ending_at, from_at, is_text_end, item_at, item_of, items_at, join_at, joined_table_at, keys_at, limit_at, list_behind, on_at, order_at, order_key_at, pair_at, pair_behind, query_at, query_of, selection_at, some_join, table_at, table_named, what_at, what_by, with_alias, by_at, clause_behind, filter_at, having_at, number_parse, offset_at, reads, span_at, span_with, text_query}
pub use Rattle.sql_text.specs.Refusals.{IsReadFrom, IsRefused, early_refusal, parse_refusal_of, token_refusal}
pub use Rattle.sql_text.specs.declared.lists.Separator.{Separator}
pub use Rattle.sql_text.specs.declared.term.BinaryOperator.{BinaryOperator}
pub use Rattle.sql_text.specs.declared.term.Operator.{Operator}
pub use Rattle.sql_text.specs.declared.parse_error.ParseError.{ParseError}
pub use Rattle.std.proofs.Common.{Bool, IfSome, List, None, Option, Some, [], add-one, ap, append_assoc, arith, cond, drop, false, flat_map, get_or, inl, inr, length, map, option_and_then, option_map, refl, subst, suc, sym, take, true, zero, ℕ, ◌*◌, ◌++◌, ◌+◌, ◌-◌, ◌<◌, ◌∙◌, ◌∷◌, ◌≡◌, ◌≤◌}
pub use Rattle.std.proofs.Math.Seq.{drop-cons}
pub use Rattle.std.proofs.lemmas.List.{append-nil, drop_all}
pub use Rattle.std.proofs.lemmas.List.Elements.{All-append, All-cons, All-head, All-nil, All-tail, All-weaker}
pub use Rattle.std.proofs.lemmas.Option.{IfSome_then, none-some, same_Some}
pub use Rattle.std.proofs.lemmas.Slice.Eq.{bytes_eq-Decides}
pub use Rattle.std.specs.Char.{is_ascii_digit}
pub use Rattle.std.specs.List.{All, list_all, take_while}
pub use Rattle.std.specs.Prelude.{codes, is_some, nat_lt}
pub use Rattle.std.specs.Str.{bytes_eq}
unfoldable pub use Rattle.query_model.specs.Names.{with_digits}
unfoldable pub use Rattle.sql_grammar.specs.Tokens.{text_at, tokens_behind}
unfoldable pub use Rattle.sql_text.specs.Terms.{joined, part_at}
unfoldable pub use Rattle.sql_text.specs.Queries.{list_at}
