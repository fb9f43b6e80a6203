-- Why a query is refused: conditions over the tree of the whole query, of which the first in this
-- order counts.
use Rattle.std.specs.Prelude.{if◌then◌else◌, ◌&&◌, ◌++◌, ◌+◌, ◌==◌, ◌||◌, ◌∷◌}
use Rattle.query_model.specs.Prelude.{AggOp, ArithOp, Bool, ColumnDecl, ColumnRef, ColumnType, Count, Join, List, NamePair, Named, None, Option, OrderKey, Query, Refusal, Schema, Some, Sum, TableRef, [], bytes_eq, codes, decimal, false, filter, find, flat_map, is_some, length, list_all, list_any, map, nat_lt, not, option_map, true, ℕ, ℤ}
use Rattle.query_model.specs.Expressions.{arith_type, number_of, result_type}
use Rattle.query_model.specs.Typing.{can_hold}
use Rattle.chunk_data.specs.Values.{is_text, same_type}
use Rattle.chunk_data.specs.declared.typed_value.ColumnType.TheVariants as column
use Rattle.query_model.specs.Formulas.{CondForm, Formula, OperandForm, sides_in}
use Rattle.query_model.specs.Formulas as form
use Rattle.query_model.specs.Trees.{ItemTree, ItemWhat, QueryTree, Selection, items_in, query_tree}
use Rattle.query_model.specs.Trees as tree
use Rattle.query_model.specs.declared.query.TableRef.TheVariants.{Numbers}
use Rattle.query_model.specs.declared.query.Refusal.TheVariants as refuse

-- the tables and columns that a query reads

-- a column of FROM or JOIN
pub record FromColumn : Type 0 where
  pub table : List ℕ
  pub name : List ℕ
  pub type : ColumnType

-- a declared column of a table
abbrev pub declared_column : List ℕ → ColumnDecl → FromColumn
declared_column table c = record { table = table; name = c.name; type = c.kind }

abbrev pub types_of : List FromColumn → List ColumnType
types_of columns = map (λ (c : FromColumn). c.type) columns

-- the columns of a declared table
abbrev pub schema_columns : Schema → List FromColumn
schema_columns s = map (declared_column s.name) s.columns

abbrev pub columns_if : Option Schema → List FromColumn
columns_if None = []
columns_if (Some s) = schema_columns s

-- the first declared table with a name is meant
abbrev pub table_columns : List Schema → TableRef → List FromColumn
table_columns schemas (Named t) = columns_if (find (λ (s : Schema). bytes_eq s.name t) schemas)
table_columns schemas (Numbers n) =
    record { table = codes "numbers"; name = codes "number"; type = column.UInt64 } ∷ []

abbrev pub join_tables : Option Join → List TableRef
join_tables None = []
join_tables (Some join) = join.table ∷ []

-- the columns of the table that is joined
abbrev pub join_columns : List Schema → Option Join → List FromColumn
join_columns schemas join = flat_map (table_columns schemas) (join_tables join)

abbrev pub join_pairs : Option Join → List NamePair
join_pairs None = []
join_pairs (Some join) = join.pairs

abbrev pub query_tables : QueryTree → List TableRef
query_tables t = t.from ∷ join_tables t.join

-- the columns of From: those of the FROM table, and then those of the JOIN table
abbrev pub from_columns : QueryTree → List Schema → List FromColumn
from_columns t schemas = flat_map (table_columns schemas) (query_tables t)

abbrev pub is_in_table : Option (List ℕ) → List ℕ → Bool
is_in_table None table = true
is_in_table (Some t) table = bytes_eq t table

-- whether a name means a column
abbrev pub means : ColumnRef → FromColumn → Bool
means c column' = is_in_table c.table column'.table && bytes_eq c.name column'.name

-- the columns that a name means
abbrev pub meant : ColumnRef → List FromColumn → List FromColumn
meant c columns = filter (means c) columns

-- the columns that stand in the text, in its order

unfoldable pub expr_columns : Formula ColumnRef → List ColumnRef
expr_columns (form.column c) = c ∷ []
expr_columns (form.number n) = []
expr_columns (form.arith op a b) = expr_columns a ++ expr_columns b

abbrev pub argument_columns : Option (Formula ColumnRef) → List ColumnRef
argument_columns None = []
argument_columns (Some e) = expr_columns e

abbrev pub operand_columns : OperandForm ColumnRef → List ColumnRef
operand_columns (form.plain e) = expr_columns e
operand_columns (form.text bytes) = []
operand_columns (form.call c) = argument_columns c.arg
operand_columns form.null = []

-- those outside an aggregate call
abbrev pub bare_columns : OperandForm ColumnRef → List ColumnRef
bare_columns (form.plain e) = expr_columns e
bare_columns (form.text bytes) = []
bare_columns (form.call c) = []
bare_columns form.null = []

abbrev pub item_columns : ItemWhat → List ColumnRef
item_columns (tree.plain_item e) = expr_columns e
item_columns (tree.call_item c) = argument_columns c.arg

abbrev pub text_columns : QueryTree → List ColumnRef
text_columns t =
    flat_map (λ (i : ItemTree). item_columns i.what) (items_in t.items)
    ++ flat_map (λ (p : NamePair). p.left ∷ p.right ∷ []) (join_pairs t.join)
    ++ flat_map operand_columns (sides_in t.filter)
    ++ t.keys
    ++ flat_map operand_columns (sides_in t.having)

-- a column as it is written
abbrev pub written_behind : Option (List ℕ) → List ℕ → List ℕ
written_behind None name = name
written_behind (Some table) name = table ++ codes "." ++ name

abbrev pub written : ColumnRef → List ℕ
written c = written_behind c.table c.name

-- the first conditions

abbrev pub is_declared : List Schema → TableRef → Bool
is_declared schemas (Named t) = list_any (λ (s : Schema). bytes_eq s.name t) schemas
is_declared schemas (Numbers n) = true

abbrev pub table_name : TableRef → List ℕ
table_name (Named t) = t
table_name (Numbers n) = codes "numbers"

-- the first of the tables that is not declared
abbrev pub unknown_table : List Schema → List TableRef → Option Refusal
unknown_table schemas tables = option_map (λ t. refuse.UnknownTable (table_name t))
    (find (λ t. not (is_declared schemas t)) tables)

-- the first of the names that means no column
abbrev pub unknown_column : List FromColumn → List ColumnRef → Option Refusal
unknown_column columns names =
    option_map (λ c. refuse.UnknownColumn (written c))
    (find (λ c. length (meant c columns) == 0) names)

-- the first of the names that means more than one
abbrev pub ambiguous_column : List FromColumn → List ColumnRef → Option Refusal
ambiguous_column columns names =
    option_map (λ c. refuse.AmbiguousColumn (written c))
    (find (λ c. nat_lt 1 (length (meant c columns))) names)

abbrev pub refusal_unless : Bool → Refusal → Option Refusal
refusal_unless b refusal = if b then None else Some refusal

-- the type of the column that a name means
abbrev pub meant_type : List FromColumn → ColumnRef → Option ColumnType
meant_type columns c = option_map (λ (m : FromColumn). m.type) (find (means c) columns)

abbrev pub same_known_type : Option ColumnType → Option ColumnType → Bool
same_known_type (Some a) (Some b) = same_type a b
same_known_type _ _ = false

-- one column of each of two tables, of one type
abbrev pub joins : List FromColumn → List FromColumn → ColumnRef → ColumnRef → Bool
joins left right a b = same_known_type (meant_type left a) (meant_type right b)

abbrev pub is_join_pair : List FromColumn → List FromColumn → NamePair → Bool
is_join_pair left right p = joins left right p.left p.right || joins left right p.right p.left

-- whether the pairs of a join are of two columns of the two tables
abbrev pub pairs_fit : List FromColumn → List FromColumn → Option Join → Bool
pairs_fit left right None = true
pairs_fit left right (Some join) = list_all (is_join_pair left right) join.pairs

abbrev pub bad_join_key : List FromColumn → List FromColumn → Option Join → Option Refusal
bad_join_key left right join = refusal_unless (pairs_fit left right join) refuse.BadJoinKey

-- types

-- what an operand is: a plain number, a value of a type, NULL, or none of them, where types don't
-- fit
pub data OperandTyping : Type 0 where
  plain : ℤ → OperandTyping
  typed : ColumnType → OperandTyping
  null : OperandTyping
  unfit : OperandTyping

abbrev pub arith_typing : ArithOp → OperandTyping → OperandTyping → OperandTyping
arith_typing op (typed s) (typed t) = if same_type s t && not (is_text s)
    then typed (arith_type op s t) else unfit
arith_typing op (typed t) (plain z) = if can_hold t z then typed (result_type op t) else unfit
arith_typing op (plain z) (typed t) = if can_hold t z then typed (result_type op t) else unfit
arith_typing op _ _ = unfit

abbrev pub known_typing : Option ColumnType → OperandTyping
known_typing None = unfit
known_typing (Some t) = typed t

unfoldable pub expr_typing : List FromColumn → Formula ColumnRef → OperandTyping
expr_typing columns (form.column c) = known_typing (meant_type columns c)
expr_typing columns (form.number n) = plain (number_of n)
expr_typing columns (form.arith op a b) =
    arith_typing op (expr_typing columns a) (expr_typing columns b)

-- the kind of a call over an argument of a kind
abbrev pub call_typing : AggOp → OperandTyping → OperandTyping
call_typing Sum (typed t) = if is_text t then unfit else typed t
call_typing Count _ = typed column.UInt64
call_typing op (typed t) = typed t
call_typing op _ = unfit

abbrev pub agg_typing : List FromColumn → AggOp → Option (Formula ColumnRef) → OperandTyping
agg_typing columns op None = typed column.UInt64
agg_typing columns op (Some e) = call_typing op (expr_typing columns e)

abbrev pub operand_typing : List FromColumn → OperandForm ColumnRef → OperandTyping
operand_typing columns (form.plain e) = expr_typing columns e
operand_typing columns (form.text bytes) = typed column.Text
operand_typing columns (form.call c) = agg_typing columns c.op c.arg
operand_typing columns form.null = null

-- texts are compared with texts, numbers with numbers, and NULL with all
abbrev pub comparable : OperandTyping → OperandTyping → Bool
comparable (typed s) (typed t) = is_text s == is_text t
  where
    infix 5 ◌==◌
    ◌==◌ : Bool → Bool → Bool
    true == b = b
    false == b = not b
comparable (typed s) (plain z) = not (is_text s)
comparable (plain z) (typed t) = not (is_text t)
comparable (plain y) (plain z) = true
comparable (typed s) null = true
comparable (plain z) null = true
comparable null (typed t) = true
comparable null (plain z) = true
comparable null null = true
comparable _ _ = false

abbrev pub is_typed : OperandTyping → Bool
is_typed (typed t) = true
is_typed _ = false

-- IS NULL may be asked of what may be NULL, of neither a plain number nor a string
abbrev pub has_null_test : List FromColumn → OperandForm ColumnRef → Bool
has_null_test columns (form.plain e) = is_typed (expr_typing columns e)
has_null_test columns (form.text bytes) = false
has_null_test columns (form.call c) = is_typed (agg_typing columns c.op c.arg)
has_null_test columns form.null = true

unfoldable pub cond_fits : List FromColumn → CondForm (OperandForm ColumnRef) → Bool
cond_fits columns (form.compare op a b) =
    comparable (operand_typing columns a) (operand_typing columns b)
cond_fits columns (form.both a b) = cond_fits columns a && cond_fits columns b
cond_fits columns (form.either a b) = cond_fits columns a && cond_fits columns b
cond_fits columns (form.negated a) = cond_fits columns a
cond_fits columns (form.null_test a) = has_null_test columns a

abbrev pub fits_where : List FromColumn → Option (CondForm (OperandForm ColumnRef)) → Bool
fits_where columns None = true
fits_where columns (Some c) = cond_fits columns c

abbrev pub item_typing : List FromColumn → ItemWhat → OperandTyping
item_typing columns (tree.plain_item e) = expr_typing columns e
item_typing columns (tree.call_item c) = agg_typing columns c.op c.arg

abbrev pub types_fit : List FromColumn → QueryTree → Bool
types_fit columns t =
    list_all (λ (i : ItemTree). is_typed (item_typing columns i.what)) (items_in t.items)
    && fits_where columns t.filter && fits_where columns t.having

abbrev pub type_mismatch : List FromColumn → QueryTree → Option Refusal
type_mismatch columns t = refusal_unless (types_fit columns t) refuse.TypeMismatch

-- grouping

abbrev pub is_call : ItemWhat → Bool
is_call (tree.plain_item e) = false
is_call (tree.call_item c) = true

abbrev pub is_call_item : ItemTree → Bool
is_call_item i = is_call i.what

-- a query is grouped where it has GROUP BY, HAVING or an aggregate call
abbrev pub is_grouped : QueryTree → Bool
is_grouped t = not (length t.keys == 0) || is_some t.having
    || list_any is_call_item (items_in t.items)

-- two names mean one column
abbrev pub same_column : List FromColumn → ColumnRef → ColumnRef → Bool
same_column columns a b = list_any (λ m. means a m && means b m) columns

-- the columns of an item that must be keys: those outside a call, of which arithmetic never is one
abbrev pub not_keys : (ColumnRef → Bool) → ItemWhat → List ColumnRef
not_keys is_key (tree.plain_item (form.column c)) = if is_key c then [] else c ∷ []
not_keys is_key (tree.plain_item (form.number n)) = []
not_keys is_key (tree.plain_item (form.arith op a b)) = expr_columns a ++ expr_columns b
not_keys is_key (tree.call_item c) = []

abbrev pub star_name : Selection → List (List ℕ)
star_name tree.star = codes "*" ∷ []
star_name (tree.listed items) = []

abbrev pub is_key_of : List FromColumn → List ColumnRef → ColumnRef → Bool
is_key_of columns keys c = list_any (same_column columns c) keys

-- the names in items that may not stand in a grouped query
abbrev pub ungrouped_in_items : List FromColumn → List ColumnRef → List ItemTree → List ColumnRef
ungrouped_in_items columns keys items =
    flat_map (λ (i : ItemTree). not_keys (is_key_of columns keys) i.what) items

-- the names in HAVING outside of calls
abbrev pub bare_names : Option (CondForm (OperandForm ColumnRef)) → List ColumnRef
bare_names having = flat_map bare_columns (sides_in having)

-- what may not stand in a grouped query, in the order of the text
abbrev pub ungrouped_names : List FromColumn → QueryTree → List (List ℕ)
ungrouped_names columns t =
    star_name t.items ++ map written (ungrouped_in_items columns t.keys (items_in t.items))
    ++ map written (filter (λ c. not (is_key_of columns t.keys c)) (bare_names t.having))

abbrev pub first_name : List (List ℕ) → Option (List ℕ)
first_name [] = None
first_name (name ∷ names) = Some name

abbrev pub not_grouped : List FromColumn → QueryTree → Option Refusal
not_grouped columns t =
    if is_grouped t then option_map refuse.NotGrouped (first_name (ungrouped_names columns t))
    else None

-- output names and order

abbrev pub plain_name : ItemWhat → ℕ → List ℕ
plain_name (tree.plain_item (form.column c)) k = c.name
plain_name (tree.plain_item (form.number n)) k = codes "item_" ++ decimal k
plain_name (tree.plain_item (form.arith op a b)) k = codes "item_" ++ decimal k
plain_name (tree.call_item c) k = codes "item_" ++ decimal k

abbrev pub name_or : Option (List ℕ) → List ℕ → List ℕ
name_or None name = name
name_or (Some alias) name = alias

-- the names of items of which the first has place k
abbrev pub item_names : ℕ → List ItemTree → List (List ℕ)
item_names k [] = []
item_names k (i ∷ items) = name_or i.alias (plain_name i.what k) ∷ item_names (k + 1) items

abbrev pub output_names : Selection → List FromColumn → List (List ℕ)
output_names tree.star columns = map (λ (c : FromColumn). c.name) columns
output_names (tree.listed items) columns = item_names 1 items

-- the first key that is not exactly one of the output names
abbrev pub bad_order_key : List (List ℕ) → List OrderKey → Option Refusal
bad_order_key names order =
    option_map (λ (key : OrderKey). refuse.BadOrderKey key.name)
    (find (λ (key : OrderKey). not (length (filter (bytes_eq key.name) names) == 1)) order)

-- widths

abbrev pub operand_calls : OperandForm ColumnRef → ℕ
operand_calls (form.plain e) = 0
operand_calls (form.text bytes) = 0
operand_calls (form.call c) = 1
operand_calls form.null = 0

abbrev pub total : List ℕ → ℕ
total [] = 0
total (n ∷ ns) = n + total ns

abbrev pub calls_in : QueryTree → ℕ
calls_in t = length (filter is_call_item (items_in t.items))
    + total (map operand_calls (sides_in t.having))

-- what may not be more than 64
abbrev pub widths : List FromColumn → QueryTree → List ℕ
widths columns t =
    length columns ∷ length (items_in t.items) ∷ length t.keys ∷ length t.order
    ∷ length (join_pairs t.join) ∷ calls_in t ∷ []

abbrev pub too_wide : List FromColumn → QueryTree → Option Refusal
too_wide columns t = if list_any (λ n. nat_lt 64 n) (widths columns t) then Some refuse.TooWide
    else None

abbrev pub first_of_all : {X : Type 0} → List (Option X) → Option X
first_of_all [] = None
first_of_all (None ∷ rest) = first_of_all rest
first_of_all (Some x ∷ rest) = Some x

-- the conditions in their order, over the columns of From and those of its two tables
abbrev pub refusals : List Schema → (columns left right : List FromColumn) → QueryTree
    → List (Option Refusal)
refusals schemas columns left right t =
    unknown_table schemas (query_tables t) ∷ unknown_column columns (text_columns t)
    ∷ ambiguous_column columns (text_columns t) ∷ bad_join_key left right t.join
    ∷ type_mismatch columns t ∷ not_grouped columns t
    ∷ bad_order_key (output_names t.items columns) t.order ∷ too_wide columns t ∷ []

-- the first condition that a query of a tree meets, with the name that it carries
abbrev pub tree_refusal : QueryTree → List Schema → Option Refusal
tree_refusal t schemas = first_of_all (
    refusals schemas (from_columns t schemas) (table_columns schemas t.from)
    (join_columns schemas t.join) t)

-- why a query is refused goes by its tree alone
unfoldable pub refusal_of : Query → List Schema → Option Refusal
refusal_of q schemas = tree_refusal (query_tree q) schemas
