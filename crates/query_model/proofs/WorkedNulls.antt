-- Worked queries over a column that may have NULL, by computation.
use Rattle.query_model.proofs.Imports.{Add, Checked, ColumnType, Cond, Count, Database, Declared, Grouped, IsAnswer, List, Min, None, Null, Row, Some, SortKey, Text, UInt, [], answer_text, codes, false, lit<, refl, true, ℕ, ◌∷◌, ◌≡◌}
use Rattle.query_model.proofs.Worked.{meaning_on_literals}
use Rattle.query_model.proofs.WorkedRows.{Place, QueryGives, answers, ascending, call, compared, lone_calls, plain_number, select, select_from, sum_of, table_of, text_of}
use Rattle.chunk_data.specs.declared.typed_value.ColumnType.TheVariants as column
use Rattle.query_model.specs.declared.query.CompareOp.TheVariants as compare
use Rattle.query_model.specs.declared.query.CondOf.TheVariants as cond'
use Rattle.query_model.specs.declared.query.ExprOf.TheVariants as expr
use Rattle.query_model.specs.declared.query.Operand.TheVariants as operand

abbrev a_and_b : List ColumnType
a_and_b = column.NullInt64 ∷ column.Text ∷ []

abbrev part : List (List ℕ)
part = codes "1,x\n\\N,y\n-3,\\N\n" ∷ []

-- one of the columns where a condition is true
abbrev column_where : ℕ → Cond → Checked
column_where k c = record (select (expr.Column k ∷ [])) { filter = Some c }

pub null_rows : (p q : Place)
    -- SELECT a, a + 1, b FROM t
    → QueryGives (select (expr.Column 0 ∷ expr.Arith' Add p (expr.Column 0) q (plain_number 1)
    ∷ expr.Column 1 ∷ [])) a_and_b part (codes "1,2,\"x\"\n\\N,\\N,\"y\"\n-3,-2,\"\\N\"\n")
    -- SELECT a FROM t WHERE NOT a = 1
    × QueryGives (column_where 0 (cond'.Not' p (compared compare.Eq (expr.Column 0)
    (plain_number 1)))) a_and_b part (codes "-3\n")
    -- SELECT b FROM t WHERE a IS NULL
    × QueryGives (column_where 1 (cond'.IsNull (operand.Plain (expr.Column 0)))) a_and_b part
    (codes "\"y\"\n")
    -- SELECT b FROM t WHERE a = 1 OR b = 'y'
    × QueryGives (column_where 1 (cond'.Or' p (compared compare.Eq (expr.Column 0)
    (plain_number 1)) q (cond'.Compare compare.Eq (operand.Plain (expr.Column 1))
    (operand.Text (codes "y"))))) a_and_b part (codes "\"x\"\n\"y\"\n")
    -- SELECT b FROM t WHERE a = NULL
    × QueryGives (column_where 1 (cond'.Compare compare.Eq (operand.Plain (expr.Column 0))
    operand.Null)) a_and_b part []
unfolding meaning_on_literals
null_rows p q = (refl, refl, refl, refl, refl)

abbrev text_and_number : List ColumnType
text_and_number = column.NullText ∷ column.NullUInt64 ∷ []

-- SELECT k, count(), sum(v), min(v) FROM t GROUP BY k ORDER BY k
abbrev by_key : SortKey → Checked
by_key key = record (select_from (Grouped (record {
  keys = 0 ∷ [];
  calls = call Count None ∷ sum_of 1 ∷ call Min (Some (expr.Column 1)) ∷ [];
  having = None;
  picks = 0 ∷ 1 ∷ 2 ∷ 3 ∷ [];
  lone = false;
}))) { order = key ∷ [] }

abbrev keyed_rows : Database
keyed_rows = table_of text_and_number (codes "\\N,1\nx,\\N\n\\N,2\n" ∷ []) ∷ []

abbrev null_last : List Row
null_last = (Text (codes "x") ∷ UInt 1 ∷ Null ∷ Null ∷ [])
    ∷ (Null ∷ UInt 2 ∷ UInt 3 ∷ UInt 1 ∷ []) ∷ []

-- NULL is a group of its own, whose row comes last in both directions
pub null_groups : IsAnswer (by_key (ascending 0)) keyed_rows null_last
    × IsAnswer (by_key (record { column = 0; descending = true })) keyed_rows null_last
    × (answer_text false [] null_last ≡ codes "\"x\",1,\\N,\\N\n\\N,2,3,1\n")
unfolding meaning_on_literals
null_groups = (
  answers _ _ _ null_last _
      (record { moves = (0, 1) ∷ []; below = (lit< tt, lit< tt, tt); is = refl }) refl refl,
  answers _ _ _ null_last _
      (record { moves = (0, 1) ∷ []; below = (lit< tt, lit< tt, tt); is = refl }) refl refl,
  refl,
)

pub null_defaults :
    -- SELECT sum(v) FROM t, over an empty file
    QueryGives (lone_calls (sum_of 1 ∷ []) (0 ∷ [])) text_and_number ([] ∷ []) (codes "\\N\n")
unfolding meaning_on_literals
null_defaults = refl

abbrev key_and_number : List ColumnType
key_and_number = column.NullInt64 ∷ column.Int64 ∷ []

-- SELECT a, b FROM l JOIN r ON l.k = r.k
abbrev joined_by_key : Checked
joined_by_key = record (select (expr.Column 1 ∷ expr.Column 3 ∷ [])) {
  join = Some (record { table = Declared 1; pairs = record { left = 0; right = 0 } ∷ [] });
}

pub null_joins : text_of joined_by_key (table_of key_and_number (codes "\\N,1\n5,2\n" ∷ [])
    ∷ table_of key_and_number (codes "5,7\n\\N,8\n" ∷ []) ∷ []) ≡ codes "2,7\n"
unfolding meaning_on_literals
null_joins = refl
