-- Worked queries from their names to their answers: grouping, HAVING, aliases, keys, order, limit
-- and join.
use Rattle.query_model.proofs.Imports.{AggCall, Checked, ColumnRef, ColumnType, Count, Database, Grouped, IsAnswer, IsChecked, List, Max, Mul, None, Query, Row, Schema, Some, Sum, UInt, [], answer_text, arith, codes, cond_fits, cond_operands, enough, expr_columns, expr_typing, false, lit<, map, parts_rows, refl, refusal_of, true, type_of, ℕ, ◌++◌, ◌∷◌, ◌≡◌, sides_of}
use Rattle.std.specs.Fmt.{digits}
use Rattle.chunk_data.specs.declared.typed_value.ColumnType.TheVariants as column
use Rattle.query_model.specs.declared.query.CompareOp.TheVariants as compare
use Rattle.query_model.specs.declared.query.CondOf.TheVariants as cond'
use Rattle.query_model.specs.declared.query.ExprOf.TheVariants as expr
use Rattle.query_model.specs.declared.query.ItemKind.TheVariants as kind
use Rattle.query_model.specs.declared.query.Operand.TheVariants as operand
use Rattle.query_model.specs.declared.checked.TableUse.TheVariants as used
use Rattle.query_model.proofs.Ordered.{IsSorted-tested}
use Rattle.query_model.proofs.RefusedRows.{bare, column_a, column_b, item, join_with, key, number, of_table, plain, select_items}
use Rattle.query_model.proofs.Worked.{meaning_on_literals}
use Rattle.query_model.proofs.WorkedRows.{Place, answers, ascending, by_a, call, compared, decl, int_row, joined_lr, lone_calls, plain_number, row_0z, row_1x, row_1y, select_a, select_from, sum_of, table_of, text_of, three_rows, two_ints}

-- SELECT a, b FROM t ORDER BY a DESC, b, over `1,x`, `1,y`, `0,z`
abbrev pub by_a_down : Checked
by_a_down = record by_a { order = record { column = 0; descending = true } ∷ ascending 1 ∷ [] }

pub xyz_answers : IsAnswer by_a_down three_rows (row_1x ∷ row_1y ∷ row_0z ∷ [])
unfolding meaning_on_literals
xyz_answers = search (arith, row_1x, row_1y, row_0z, IsSorted-tested)

-- SELECT a FROM t LIMIT 3 OFFSET 2, over four parts: any three of the six rows
abbrev pub six_rows : Database
six_rows =
    table_of (column.Int64 ∷ [])
    (codes "1\n2\n" ∷ codes "3\n" ∷ codes "4\n5\n" ∷ codes "6\n" ∷ []) ∷ []

abbrev pub number_rows : List ℕ → List Row
number_rows numbers = map (λ n. int_row (n ∷ [])) numbers

abbrev pub three_behind_two : Checked
three_behind_two = record select_a { limit = Some (record { count = 3; skip = 2 }) }

pub three_to_five_answer : IsAnswer three_behind_two six_rows (number_rows (3 ∷ 4 ∷ 5 ∷ []))
unfolding meaning_on_literals
three_to_five_answer = answers _ _ _ (number_rows (1 ∷ 2 ∷ 3 ∷ 4 ∷ 5 ∷ 6 ∷ [])) _
    (record { moves = []; below = tt; is = refl }) refl refl

pub six_four_five_answer : IsAnswer three_behind_two six_rows (number_rows (6 ∷ 4 ∷ 5 ∷ []))
unfolding meaning_on_literals
six_four_five_answer = answers _ _ _ (number_rows (1 ∷ 2 ∷ 6 ∷ 4 ∷ 5 ∷ 3 ∷ [])) _
    (record { moves = (2, 5) ∷ []; below = (lit< tt, lit< tt, tt); is = refl }) refl refl

-- LIMIT 0 gives nothing, and reads a row
pub nothing_answers :
    text_of (record select_a { limit = Some (record { count = 0; skip = 0 }) }) six_rows ≡ []
unfolding meaning_on_literals
nothing_answers = refl

pub rows_enough : (enough (record { count = 3; skip = 2 }) ≡ 5)
    × (enough (record { count = 0; skip = 7 }) ≡ 1)
rows_enough = (refl, refl)

-- SELECT of calls FROM numbers(n)
abbrev pub over_numbers : ℕ → List (AggCall ℕ) → List ℕ → Checked
over_numbers n calls picks = record (lone_calls calls picks) { from = used.Numbers n }

pub numbers_text :
    -- SELECT count(), sum(number), max(number) FROM numbers(100)
    (text_of (over_numbers 100 (call Count None ∷ sum_of 0 ∷ call Max (Some (expr.Column 0)) ∷ [])
    (0 ∷ 1 ∷ 2 ∷ [])) []
    ≡ codes "100,4950,99\n")
    -- SELECT count() FROM numbers(0)
    × (text_of (over_numbers 0 (call Count None ∷ []) (0 ∷ [])) [] ≡ codes "0\n")
unfolding meaning_on_literals
numbers_text = (refl, refl)

-- SELECT l.k, a, b FROM l JOIN r ON l.k = r.k ORDER BY k, a, b: from its names to places
abbrev pub schema_of : List ℕ → List ℕ → Schema
schema_of name other =
    record { name = name; columns = decl (codes "k") column.Int64 ∷ decl other column.Int64 ∷ [] }

abbrev pub left_and_right : List Schema
left_and_right = schema_of (codes "l") (codes "a") ∷ schema_of (codes "r") (codes "b") ∷ []

abbrev pub left_k : ColumnRef
left_k = of_table (codes "l") (codes "k")

abbrev pub right_k : ColumnRef
right_k = of_table (codes "r") (codes "k")

abbrev pub join_on : ColumnRef → ColumnRef → Query
join_on left right =
    record (select_items (item (expr.Column left_k) ∷ item column_a ∷ item column_b ∷ [])
    (codes "l")) {
      join = Some (join_with (codes "r") left right);
      order = key (codes "k") false ∷ key (codes "a") false ∷ key (codes "b") false ∷ [];
    }

abbrev pub checked_join : Checked
checked_join = record joined_lr {
  names = codes "k" ∷ codes "a" ∷ codes "b" ∷ [];
  types = column.Int64 ∷ two_ints;
}

pub join_is_accepted : refusal_of (join_on left_k right_k) left_and_right ≡ None
unfolding refusal_of expr_columns cond_operands sides_of expr_typing cond_fits digits
join_is_accepted = refl

-- a pair that is written the other way round means the same
pub join_is_checked : IsChecked (join_on left_k right_k) left_and_right checked_join
    × IsChecked (join_on right_k left_k) left_and_right checked_join
unfolding digits type_of
join_is_checked = search (arith)

-- SELECT shop, count() AS n, sum(qty * price) AS total FROM sales WHERE price > 50 GROUP BY shop
-- HAVING count() > 1 ORDER BY total DESC, shop LIMIT 10
abbrev pub sales : List Schema
sales = record {
  name = codes "sales";
  columns = decl (codes "day") column.Text
      ∷ map (λ name. decl name column.UInt64) (codes "shop" ∷ codes "qty" ∷ codes "price" ∷ []);
} ∷ []

abbrev pub counted_rows : AggCall ColumnRef
counted_rows = record { op = Count; arg = None }

module _ (p q : Place) where
  abbrev pub sum_of_products : AggCall ColumnRef
  sum_of_products =
      record {
        op = Sum;
        arg =
            Some (expr.Arith' Mul p (plain (codes "qty")) q (plain (codes "price")));
      }

  abbrev pub totals_query : Query
  totals_query = record (select_items (
      item (plain (codes "shop"))
      ∷ record { what = kind.Agg counted_rows; alias = Some (codes "n") }
      ∷ record { what = kind.Agg sum_of_products; alias = Some (codes "total") } ∷ [])
      (codes "sales")) {
        filter = Some (cond'.Compare compare.Gt (operand.Plain (plain (codes "price")))
            (operand.Plain (number false 50)));
        keys = bare (codes "shop") ∷ [];
        having =
            Some (cond'.Compare compare.Gt (operand.Agg counted_rows)
            (operand.Plain (number false 1)));
        order = key (codes "total") true ∷ key (codes "shop") false ∷ [];
        limit = Some (record { count = 10; skip = 0 });
      }

  abbrev pub totals : Checked
  totals = record (select_from (Grouped (record {
    keys = 1 ∷ [];
    calls =
        call Count None ∷ call Sum (Some (expr.Arith' Mul p (expr.Column 2) q (expr.Column 3)))
        ∷ call Count None ∷ [];
    having = Some (compared compare.Gt (expr.Column 3) (plain_number 1));
    picks = 0 ∷ 1 ∷ 2 ∷ [];
    lone = false;
  }))) {
    filter = Some (compared compare.Gt (expr.Column 3) (plain_number 50));
    names = codes "shop" ∷ codes "n" ∷ codes "total" ∷ [];
    types = column.UInt64 ∷ column.UInt64 ∷ column.UInt64 ∷ [];
    order = record { column = 2; descending = true } ∷ ascending 0 ∷ [];
    limit = Some (record { count = 10; skip = 0 });
  }

  pub totals_are_accepted : refusal_of totals_query sales ≡ None
  unfolding refusal_of expr_columns cond_operands sides_of expr_typing cond_fits digits
  totals_are_accepted = refl

  pub totals_are_checked : IsChecked totals_query sales totals
  unfolding cond_operands digits type_of
  totals_are_checked = search (arith)

  abbrev pub sales_types : List ColumnType
  sales_types = column.Text ∷ column.UInt64 ∷ column.UInt64 ∷ column.UInt64 ∷ []

  abbrev pub sales_rows : Database
  sales_rows = record {
    types = sales_types;
    rows = parts_rows sales_types true ((
        codes "day,shop,qty,price\n2024-03-01,7,2,150\n2024-03-01,9,1,400\n"
        ++ codes "2024-03-02,7,3,100\n2024-03-02,9,5,80\n2024-03-02,12,1,30\n") ∷ []);
  } ∷ []

  abbrev pub best_first : List Row
  best_first = (UInt 9 ∷ UInt 2 ∷ UInt 800 ∷ []) ∷ (UInt 7 ∷ UInt 2 ∷ UInt 600 ∷ []) ∷ []

  pub best_first_answers : IsAnswer totals sales_rows best_first
  unfolding meaning_on_literals
  best_first_answers = answers _ _ _ best_first _
      (record { moves = (0, 1) ∷ []; below = (lit< tt, lit< tt, tt); is = refl }) refl refl

  pub best_first_text : answer_text true totals.names best_first
      ≡ codes "\"shop\",\"n\",\"total\"\n9,2,800\n7,2,600\n"
  unfolding meaning_on_literals
  best_first_text = refl
