-- The names of this crate's definitions in one place: who needs several of its files imports from
-- here.
pub use Rattle.sql_grammar.specs.Grammar.{AreBy, AreKeys, AreListed, IsAgg, IsClause, IsColumn, IsComparison, IsCond, IsConj, IsExpr, IsFactor, IsFilter, IsGroupOperand, IsHaving, IsJoin, IsJoined, IsLimit, IsNeg, IsNumber, IsOperand, IsOrder, IsOrderKey, IsPair, IsQuery, IsSelectItem, IsSelection, IsShaping, IsSource, IsSpan, IsTableRef, IsTerm, IsText, IsWhat, Spells, Tokens, a_call, a_column, a_constant, a_key, a_negative, a_null, a_null_constant, a_number, a_string, a_text, all_columns, an_agg, an_expr, an_expression, ascending, bare, call_over, clause_of, comparison, conjunction, count_rows, count_star, descending, difference, disjunction, enclosed, enclosed_cond, equal, equal_columns, greater, greater_equal, inner_join, is_not_null, is_null, join_of, last_one, less, less_equal, listed_by, named, named_table, negation, negative, no_clause, no_join, not_equal, number_of, numbers_table, one_conj, one_factor, one_more, one_neg, one_term, product, qualified, select_query, shaping_of, some_items, source_of, span_of, sum, table_on, unnamed, unqualified, unstated, with_semicolon}
pub use Rattle.sql_grammar.specs.Longest.{IsLongest, IsTokenAt, TokensAreLongest}
pub use Rattle.sql_grammar.specs.Strings.{IsQuoted, IsStringAt, StringsAreRead, StringsAreWritten, another_byte, begins_with, closed, quote_behind_backslash, two_backslashes, two_quotes}
pub use Rattle.sql_grammar.specs.Tokens.{aggregate_of, begins_with_letter, double_sign, has_argument, is_letter, is_word_byte, keyword_of, keyword_text, longest_sign, number_front, sign_front, sign_or, single_sign, text_byte, text_front, text_on, token_front, tokens_of, word_front}
unfoldable pub use Rattle.sql_grammar.specs.Tokens.{text_at}
pub use Rattle.sql_grammar.specs.QueryTypes.{CallTree, Condition, Expression, ItemTree, ItemWhat, QueryOperand, QueryTree, Selection, both, call, call_item, compare, either, item_tree, listed, negated, null, null_test, plain, plain_item, query_tree, text}
pub use Rattle.sql_grammar.specs.declared.Sign.{Sign}
pub use Rattle.sql_grammar.specs.declared.TextByte.{TextByte}
pub use Rattle.sql_grammar.specs.declared.TextPlace.{TextPlace}
pub use Rattle.sql_grammar.specs.declared.Token.{Token}
