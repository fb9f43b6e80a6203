-- Worked queries, by computation.
use Rattle.query_model.proofs.Imports.{Add, AggCall, AggOp, BadPlace, Box, Checked, ColumnDecl, ColumnType, CompareOp, Cond, Count, Database, Declared, Expr, Global, Grouped, Int, IsAnswer, IsOrderedAnswer, IsPermutation, List, Min, Mul, None, Option, Paths, Plain, Row, Schema, Shape, Some, SortKey, Span, Sub, Sum, Table, Text, [], answer_text, arith, bad_line, bad_place, codes, database, false, flat_map, limited, lines_from, lit<, map, negsuc, output_rows, part_records, parts_rows, pos, refl, replicate, row_cmp, true, ℕ, ◌++◌, ◌∷◌, ◌≡◌}
use Rattle.query_model.specs.declared.places.BadField.TheVariants as bad
use Rattle.query_model.proofs.Ordered.{IsSorted-tested, sorted_test}
use Rattle.query_model.specs.declared.query.CondOf.TheVariants as cond'
use Rattle.query_model.specs.declared.query.Operand.TheVariants as operand
use Rattle.query_model.specs.declared.query.CompareOp.TheVariants as compare
use Rattle.query_model.proofs.Worked.{meaning_on_literals}
use Rattle.chunk_data.specs.declared.typed_value.ColumnType.TheVariants as column
use Rattle.query_model.specs.declared.query.ExprOf.TheVariants as expr

-- a table from the bytes of its parts
abbrev pub table_of : List ColumnType → List (List ℕ) → Table
table_of types parts = record { types = types; rows = parts_rows types false parts }

abbrev pub int_text : List ColumnType
int_text = column.Int64 ∷ column.Text ∷ []

abbrev pub two_ints : List ColumnType
two_ints = column.Int64 ∷ column.Int64 ∷ []

-- SELECT of a shape from the first table, with nothing else
abbrev pub select_from : Shape → Checked
select_from shape =
    record {
      from = Declared 0;
      join = None;
      filter = None;
      shape = shape;
      names = [];
      types = [];
      order = [];
      limit = None;
    }

abbrev pub select : List Expr → Checked
select items = select_from (Plain items)

abbrev pub select_a : Checked
select_a =
    record (select (expr.Column 0 ∷ [])) { names = codes "a" ∷ []; types = column.Int64 ∷ [] }

abbrev pub plain_number : ℕ → Expr
plain_number n = expr.Number (record { negative = false; size = n })

abbrev pub call : AggOp → Option Expr → AggCall ℕ
call op arg = record { op = op; arg = arg }

abbrev pub sum_of : ℕ → AggCall ℕ
sum_of c = call Sum (Some (expr.Column c))

-- a record of counts, sums and so on, with no GROUP BY
abbrev pub lone_calls : List (AggCall ℕ) → List ℕ → Checked
lone_calls calls picks =
    select_from
    (Grouped (record { keys = []; calls = calls; having = None; picks = picks; lone = true }))

-- the condition that compares two expressions
abbrev pub compared : CompareOp → Expr → Expr → Cond
compared op a b = cond'.Compare op (operand.Plain a) (operand.Plain b)

abbrev pub select_where : Cond → Checked
select_where c = record (select (expr.Column 0 ∷ [])) { filter = Some c }

-- the text of the output rows as they stand
abbrev pub text_of : Checked → Database → List ℕ
text_of q db = answer_text false q.names (limited q.limit (output_rows q db))

-- a query gives a text over the bytes of the parts of one table
abbrev pub QueryGives : Checked → List ColumnType → List (List ℕ) → List ℕ → Type 0
QueryGives q types parts text = text_of q (table_of types parts ∷ []) ≡ text

-- where a boxed part of an expression lies says nothing of its value
abbrev pub Place : Type 0
Place = Box (Unit {0}) Global

pub texts : (p q r : Place)
    -- SELECT a FROM t, over `7,x` and `7,y`
    → QueryGives select_a int_text (codes "7,x\n7,y\n" ∷ []) (codes "7\n7\n")
    -- over an empty file
    × QueryGives select_a int_text ([] ∷ []) []
    -- SELECT count(), sum(a), min(b) FROM t, over an empty file
    × QueryGives (lone_calls (call Count None ∷ sum_of 0 ∷ call Min (Some (expr.Column 1)) ∷ [])
    (0 ∷ 1 ∷ 2 ∷ [])) int_text ([] ∷ []) (codes "0,0,\"\"\n")
    -- SELECT sum(u) FROM t, over two parts whose sum wraps
    × QueryGives (lone_calls (sum_of 0 ∷ []) (0 ∷ [])) (column.UInt64 ∷ [])
    (codes "18446744073709551615\n" ∷ codes "2\n" ∷ []) (codes "1\n")
    -- SELECT a, b, c FROM t: the output is the file
    × QueryGives (select (expr.Column 0 ∷ expr.Column 1 ∷ expr.Column 2 ∷ []))
    (column.Text ∷ column.Text ∷ column.Text ∷ [])
    (codes "\"say \"\"hi\"\"\",\"a,b\",\"x\ny\"\n" ∷ [])
    (codes "\"say \"\"hi\"\"\",\"a,b\",\"x\ny\"\n")
    -- a byte that is no text
    × QueryGives (select (expr.Column 0 ∷ [])) (column.Text ∷ []) ((255 ∷ 10 ∷ []) ∷ [])
    (34 ∷ 255 ∷ 34 ∷ 10 ∷ [])
    -- SELECT a FROM t WHERE a > 5
    × QueryGives (select_where (compared compare.Gt (expr.Column 0) (plain_number 5)))
    (column.Int64 ∷ []) (codes "1\n2\n3\n" ∷ []) []
    -- SELECT k, count(), sum(v) FROM t GROUP BY k, over four parts
    × QueryGives (select_from (Grouped (record {
      keys = 0 ∷ [];
      calls = call Count None ∷ sum_of 1 ∷ [];
      having = None;
      picks = 0 ∷ 1 ∷ 2 ∷ [];
      lone = false;
    }))) (column.Text ∷ column.Int64 ∷ []) (replicate 4 (codes "x,1\n")) (codes "\"x\",4,4\n")
    -- SELECT a - b, over UInt64 columns
    × QueryGives (select (expr.Arith' Sub p (expr.Column 0) q (expr.Column 1) ∷ []))
    (column.UInt64 ∷ column.UInt64 ∷ []) (codes "0,1\n" ∷ []) (codes "-1\n")
    -- SELECT a + 1, over UInt64
    × QueryGives (select (expr.Arith' Add p (expr.Column 0) q (plain_number 1) ∷ []))
    (column.UInt64 ∷ []) (codes "18446744073709551615\n" ∷ []) (codes "0\n")
    -- SELECT a * 2, over Int64
    × QueryGives (select (expr.Arith' Mul p (expr.Column 0) q (plain_number 2) ∷ []))
    (column.Int64 ∷ []) (codes "4611686018427387904\n" ∷ []) (codes "-9223372036854775808\n")
    -- SELECT a FROM t WHERE a < b AND NOT a = 7
    × QueryGives (select_where (cond'.And' p (compared compare.Lt (expr.Column 0) (expr.Column 1))
    q (cond'.Not' r (compared compare.Eq (expr.Column 0) (plain_number 7)))))
    (column.Int64 ∷ column.UInt64 ∷ []) (codes "-1,0\n7,9\n5,5\n" ∷ []) (codes "-1\n")
unfolding meaning_on_literals
texts p q r = (refl, refl, refl, refl, refl, refl, refl, refl, refl, refl, refl, refl)

abbrev pub ascending : ℕ → SortKey
ascending c = record { column = c; descending = false }

abbrev pub joined_lr : Checked
joined_lr = record (select (expr.Column 0 ∷ expr.Column 1 ∷ expr.Column 3 ∷ [])) {
  join = Some (record { table = Declared 1; pairs = record { left = 0; right = 0 } ∷ [] });
  order = ascending 0 ∷ ascending 1 ∷ ascending 2 ∷ [];
}

abbrev pub left_and_right_rows : Database
left_and_right_rows =
    table_of two_ints (codes "1,10\n1,11\n2,12\n" ∷ [])
    ∷ table_of two_ints (codes "1,20\n1,21\n1,22\n3,23\n" ∷ []) ∷ []

-- SELECT l.k, a, b FROM l JOIN r ON l.k = r.k: the output rows already stand in order
pub joined : text_of joined_lr left_and_right_rows
    ≡ codes "1,10,20\n1,10,21\n1,10,22\n1,11,20\n1,11,21\n1,11,22\n"
unfolding meaning_on_literals
joined = refl

abbrev pub int_row : List ℕ → Row
int_row numbers = map (λ n. Int (pos n)) numbers

abbrev pub three : ℕ → List Row
three a = map (λ b. int_row (1 ∷ a ∷ b ∷ [])) (20 ∷ 21 ∷ 22 ∷ [])

-- rows that pass the test of their order, of which the limit leaves the answer
pub answers : (keys : List SortKey) (limit : Option Span) (rows ordered answer : List Row)
    → IsPermutation rows ordered → sorted_test (row_cmp keys) ordered ≡ true
    → answer ≡ limited limit ordered → IsOrderedAnswer keys limit rows answer
answers keys limit rows ordered answer same sorted is = search (arith, IsSorted-tested)

-- the join's answer, of which there is one
pub joined_answers : IsAnswer joined_lr left_and_right_rows (three 10 ++ three 11)
unfolding meaning_on_literals
joined_answers =
    answers _ _ _ (three 10 ++ three 11) _ (record { moves = []; below = tt; is = refl }) refl refl

-- SELECT a, b FROM t ORDER BY a, over `1,x`, `1,y`, `0,z`
abbrev pub by_a : Checked
by_a = record (select (expr.Column 0 ∷ expr.Column 1 ∷ [])) { order = ascending 0 ∷ [] }

abbrev pub three_rows : Database
three_rows = table_of int_text (codes "1,x\n1,y\n0,z\n" ∷ []) ∷ []

abbrev pub row_1x : Row
row_1x = Int (pos 1) ∷ Text (codes "x") ∷ []

abbrev pub row_1y : Row
row_1y = Int (pos 1) ∷ Text (codes "y") ∷ []

abbrev pub row_0z : Row
row_0z = Int (pos 0) ∷ Text (codes "z") ∷ []

pub zxy_answers : IsAnswer by_a three_rows (row_0z ∷ row_1x ∷ row_1y ∷ [])
unfolding meaning_on_literals
zxy_answers = answers _ _ _ (row_0z ∷ row_1x ∷ row_1y ∷ []) _ (record
    { moves = (1, 2) ∷ (0, 2) ∷ []; below = (lit< tt, lit< tt, (lit< tt, lit< tt, tt)); is = refl })
    refl refl

pub zyx_answers : IsAnswer by_a three_rows (row_0z ∷ row_1y ∷ row_1x ∷ [])
unfolding meaning_on_literals
zyx_answers = answers _ _ _ (row_0z ∷ row_1y ∷ row_1x ∷ []) _
    (record { moves = (0, 2) ∷ []; below = (lit< tt, lit< tt, tt); is = refl }) refl refl

-- no other order does
pub xzy_fails : IsAnswer by_a three_rows (row_1x ∷ row_0z ∷ row_1y ∷ []) → ⊥
unfolding meaning_on_literals
xzy_fails a = search (arith)

-- the first bad place of a part with a column of Int64
abbrev bad_in : List ℕ → Option BadPlace
bad_in bytes = bad_place 1 (column.Int64 ∷ []) (part_records false bytes)

pub bad_places :
    -- a list of 33 paths has its bad line at the 33rd
    (bad_line 1 32 (lines_from [] (flat_map (λ (k : ℕ). codes "p1.csv\n") (replicate 33 0)))
    ≡ Some 33) × (bad_line 1 32
    (lines_from [] (flat_map (λ (k : ℕ). codes "p1.csv\r\n\n") (replicate 32 0) ++ codes "\n"))
    ≡ None)
    -- a number out of range, and a record with too many fields
    × (bad_in (codes "9223372036854775808\n") ≡ Some (record { row = 1; field = bad.Column 1 }))
    × (bad_in (codes "1\n2,3\n") ≡ Some (record { row = 2; field = bad.Fields 2 }))
    -- a field that spells no number, in the second record
    × (bad_in (codes "1\nz\n") ≡ Some (record { row = 2; field = bad.Column 1 }))
unfolding meaning_on_literals
bad_places = (refl, refl, refl, refl, refl)

-- SELECT a FROM t ORDER BY a, over the greatest and the least Int64
abbrev pub least_first : List Row
least_first = (Int (negsuc 9223372036854775807) ∷ []) ∷ (Int (pos 9223372036854775807) ∷ []) ∷ []

pub ends_answers : IsAnswer (record select_a { order = ascending 0 ∷ [] })
    (table_of (column.Int64 ∷ []) (codes "9223372036854775807\n-9223372036854775808\n" ∷ []) ∷ [])
    least_first
unfolding meaning_on_literals
ends_answers = answers _ _ _ least_first _
    (record { moves = (0, 1) ∷ []; below = (lit< tt, lit< tt, tt); is = refl }) refl refl

pub ends_text : answer_text false (codes "a" ∷ []) least_first
    ≡ codes "-9223372036854775808\n9223372036854775807\n"
unfolding meaning_on_literals
ends_text = refl

abbrev pub decl : List ℕ → ColumnType → ColumnDecl
decl name kind = record { name = name; kind = kind }

-- a table with columns a and b
abbrev pub schema_t : Schema
schema_t = record {
  name = codes "t";
  columns =
      decl (codes "a") column.Int64 ∷ decl (codes "b") column.Text ∷ [];
}

-- SELECT a FROM t, from the declaration `t=f.csv:a Int64,b String` and the file's bytes to the text
abbrev pub text_over : List ℕ → List ℕ
text_over bytes =
    text_of select_a
    (database false ((codes "f.csv", bytes) ∷ [])
    (record { schema = schema_t; parts = Paths (codes "f.csv" ∷ []) } ∷ []))

pub file_to_text : (text_over (codes "7,x\n7,y\n") ≡ codes "7\n7\n") × (text_over [] ≡ [])
unfolding meaning_on_literals
file_to_text = (refl, refl)
