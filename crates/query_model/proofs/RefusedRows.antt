-- Refused queries, by computation.
use Rattle.query_model.proofs.Imports.{Add, Bool, ColumnRef, ExprOf, IsChecked, Item, Join, List, Listed, Named, None, OrderKey, Query, Refusal, Schema, Some, Star, Sub, [], arith, codes, cond_fits, cond_operands, expr_columns, expr_typing, false, refl, refusal_of, replicate, true, type_of, ℕ, ◌∷◌, ◌≡◌, sides_of}
use Rattle.std.specs.Fmt.{digits}
use Rattle.chunk_data.specs.declared.typed_value.ColumnType.TheVariants as column
use Rattle.query_model.specs.declared.query.ExprOf.TheVariants as expr
use Rattle.query_model.specs.declared.query.ItemKind.TheVariants as kind
use Rattle.query_model.specs.declared.query.Refusal.TheVariants as refuse
use Rattle.query_model.proofs.WorkedRows.{Place, decl, schema_t, select_a}

abbrev pub schemas : List Schema
schemas = schema_t ∷ record { name = codes "u"; columns = decl (codes "a") column.UInt64 ∷ [] } ∷ []

abbrev pub bare : List ℕ → ColumnRef
bare name = record { table = None; name = name }

abbrev pub of_table : List ℕ → List ℕ → ColumnRef
of_table table name = record { table = Some table; name = name }

abbrev pub plain : List ℕ → ExprOf ColumnRef
plain name = expr.Column (bare name)

abbrev pub item : ExprOf ColumnRef → Item
item e = record { what = kind.Plain e; alias = None }

abbrev pub select_items : List Item → List ℕ → Query
select_items items table =
    record {
      items = Listed items;
      from = Named table;
      join = None;
      filter = None;
      keys = [];
      having = None;
      order = [];
      limit = None;
    }

abbrev pub column_a : ExprOf ColumnRef
column_a = plain (codes "a")

abbrev pub column_b : ExprOf ColumnRef
column_b = plain (codes "b")

-- SELECT of one expression FROM t
abbrev pub from_t : ExprOf ColumnRef → Query
from_t e = select_items (item e ∷ []) (codes "t")

abbrev pub grouped_by_a : Query → Query
grouped_by_a q = record q { keys = bare (codes "a") ∷ [] }

abbrev pub join_with : List ℕ → ColumnRef → ColumnRef → Join
join_with table left right =
    record { table = Named table; pairs = record { left = left; right = right } ∷ [] }

-- SELECT of a column FROM t JOIN u ON t.a = u.a
abbrev pub joined : List ℕ → Query
joined name = record (from_t (plain name)) {
  join = Some
      (join_with (codes "u") (of_table (codes "t") (codes "a")) (of_table (codes "u") (codes "a")));
}

abbrev pub key : List ℕ → Bool → OrderKey
key name descending = record { name = name; descending = descending }

abbrev pub number : Bool → ℕ → ExprOf ColumnRef
number negative size = expr.Number (record { negative = negative; size = size })

abbrev pub Refuses : Query → Refusal → Type 0
Refuses q r = refusal_of q schemas ≡ Some r

abbrev pub Accepts : Query → Type 0
Accepts q = refusal_of q schemas ≡ None

pub refusals : (p q : Place)
    -- SELECT b FROM t GROUP BY a
    → Refuses (grouped_by_a (from_t column_b)) (refuse.NotGrouped (codes "b"))
    -- no table, and no column
    × Refuses (select_items (item column_a ∷ []) (codes "x")) (refuse.UnknownTable (codes "x"))
    × Refuses (from_t (plain (codes "c"))) (refuse.UnknownColumn (codes "c"))
    -- two columns of a name, and two types of a pair
    × Refuses (joined (codes "a")) (refuse.AmbiguousColumn (codes "a"))
    × Refuses (joined (codes "b")) refuse.BadJoinKey
    -- SELECT a + b FROM t
    × Refuses (from_t (expr.Arith' Add p column_a q column_b)) refuse.TypeMismatch
    -- SELECT a FROM t ORDER BY b
    × Refuses (record (from_t column_a) { order = key (codes "b") false ∷ [] })
    (refuse.BadOrderKey (codes "b"))
    -- 65 items
    × Refuses (select_items (replicate 65 (item column_a)) (codes "t")) refuse.TooWide
    -- SELECT a - 9223372036854775808 FROM t: no Int64
    × Refuses (from_t (expr.Arith' Sub p column_a q (number false 9223372036854775808)))
    refuse.TypeMismatch
    -- SELECT a + -0 FROM u: a UInt64
    × Accepts (select_items (item (expr.Arith' Add p column_a q (number true 0)) ∷ []) (codes "u"))
    -- SELECT 1 FROM t
    × Refuses (from_t (number false 1)) refuse.TypeMismatch
    -- SELECT a + a FROM t GROUP BY a: the first column's name
    × Refuses (grouped_by_a (from_t (expr.Arith' Add p column_a q column_a)))
    (refuse.NotGrouped (codes "a"))
    -- SELECT * FROM t GROUP BY a
    × Refuses (grouped_by_a (record (from_t column_a) { items = Star }))
    (refuse.NotGrouped (codes "*"))
    -- SELECT x.a FROM t: the name as it is written
    × Refuses (from_t (expr.Column (of_table (codes "x") (codes "a"))))
    (refuse.UnknownColumn (codes "x.a"))
    -- SELECT a FROM t
    × Accepts (from_t column_a)
unfolding refusal_of expr_columns cond_operands sides_of expr_typing cond_fits digits
refusals p q =
    (refl, refl, refl, refl, refl, refl, refl, refl, refl, refl, refl, refl, refl, refl, refl)

-- SELECT a FROM t: its checked query
pub checked_a : IsChecked (from_t column_a) schemas select_a
unfolding cond_operands sides_of digits type_of
checked_a = search (arith)
