-- How a query is read, from the left.
use Rattle.std.specs.Prelude.{ℕ, zero, suc, Bool, true, false, if◌then◌else◌, List, [], ◌∷◌, length, codes, Option, Some, None, option_map, option_and_then}
use Rattle.std.specs.Str.{bytes_eq}
use Rattle.query_model.specs.declared.query.AggOp.{AggOp}
use Rattle.query_model.specs.declared.query.ColumnRef.{ColumnRef}
use Rattle.query_model.specs.declared.query.NamePair.{NamePair}
use Rattle.query_model.specs.declared.query.Join.{Join}
use Rattle.query_model.specs.declared.query.OrderKey.{OrderKey}
use Rattle.query_model.specs.declared.query.Span.{Span}
use Rattle.query_model.specs.declared.query.TableRef.{TableRef}
use Rattle.query_model.specs.declared.query.TableRef.TheVariants as table
use Rattle.sql_grammar.specs.QueryTypes.{QueryOperand, Condition, ItemWhat, plain_item, call_item, ItemTree, Selection, star, listed, QueryTree}
use Rattle.sql_grammar.specs.declared.Token.{Token}
use Rattle.sql_grammar.specs.declared.Token.TheVariants as token
use Rattle.sql_grammar.specs.declared.Keyword.TheVariants as keyword
use Rattle.sql_grammar.specs.declared.Sign.TheVariants as sign
use Rattle.sql_text.specs.declared.lists.Separator.{Separator}
use Rattle.sql_text.specs.declared.lists.Separator.TheVariants as mark
use Rattle.sql_text.specs.Terms.{Parse, SideRules, plain_operand, condition_of, dotted, call_front, call_at, part_at, row_sides, group_sides}

-- ---- lists

abbrev pub list_behind : {X : Type 0} → (List Token → Parse (List X)) → X → List Token
    → Option (List Token) → Parse (List X)
list_behind more x ts None = Some (x ∷ [], ts)
list_behind more x ts (Some rest) = option_map (λ xs. (x ∷ xs.0, xs.1)) (more rest)

-- the tokens behind a mark
abbrev pub behind : Separator → List Token → Option (List Token)
behind mark.Comma (token.Sign sign.Comma ∷ ts) = Some ts
behind mark.And (token.Keyword keyword.And ∷ ts) = Some ts
behind mark.Where (token.Keyword keyword.Where ∷ ts) = Some ts
behind mark.Group (token.Keyword keyword.Group ∷ ts) = Some ts
behind mark.By (token.Keyword keyword.By ∷ ts) = Some ts
behind mark.Having (token.Keyword keyword.Having ∷ ts) = Some ts
behind mark.Order (token.Keyword keyword.Order ∷ ts) = Some ts
behind mark.Limit (token.Keyword keyword.Limit ∷ ts) = Some ts
behind mark.Offset (token.Keyword keyword.Offset ∷ ts) = Some ts
behind _ _ = None

-- What is read again and again as long as a separator stands behind it. The last number bounds the
-- turns.
unfoldable pub list_at : {X : Type 0} → (List Token → Parse X) → Separator → ℕ → List Token
    → Parse (List X)
list_at read s zero ts = None
list_at read s (suc turns) ts =
    option_and_then (λ x. list_behind (list_at read s turns) x.0 x.1 (behind s x.1)) (read ts)

-- ---- items

abbrev pub name_parse : List Token → Parse (List ℕ)
name_parse (token.Name name ∷ ts) = Some (name, ts)
name_parse _ = None

abbrev pub alias_at : List Token → Parse (Option (List ℕ))
alias_at (token.Keyword keyword.As ∷ ts) = option_map (λ n. (Some n.0, n.1)) (name_parse ts)
alias_at ts = Some (None, ts)

abbrev pub plain_what : ℕ → List Token → Parse ItemWhat
plain_what depth ts =
    option_and_then (λ p. option_map (λ e. (plain_item e, p.1)) (plain_operand p.0))
    (part_at row_sides depth 5 ts)

abbrev pub what_by : ℕ → List Token → Option (AggOp × List Token) → Parse ItemWhat
what_by depth ts None = plain_what depth ts
what_by depth ts (Some c) =
    option_map (λ r. (call_item r.0, r.1)) (call_at (part_at row_sides depth) c.0 c.1)

abbrev pub what_at : ℕ → List Token → Parse ItemWhat
what_at depth ts = what_by depth ts (call_front ts)

abbrev pub item_of : ItemWhat → Option (List ℕ) → ItemTree
item_of what alias = record { what = what; alias = alias }

abbrev pub with_alias : ItemWhat → Parse (Option (List ℕ)) → Parse ItemTree
with_alias what read = option_map (λ a. (item_of what a.0, a.1)) read

abbrev pub item_at : ℕ → List Token → Parse ItemTree
item_at depth ts = option_and_then (λ w. with_alias w.0 (alias_at w.1)) (what_at depth ts)

abbrev pub items_at : ℕ → List Token → Parse (List ItemTree)
items_at depth ts = list_at (item_at depth) mark.Comma (length ts) ts

abbrev pub selection_at : ℕ → List Token → Parse Selection
selection_at depth (token.Sign sign.Star ∷ ts) = Some (star, ts)
selection_at depth ts = option_map (λ is. (listed is.0, is.1)) (items_at depth ts)

-- ---- tables

-- "(" number ")"
abbrev pub count_behind : List Token → Parse TableRef
count_behind (token.Number n ∷ token.Sign sign.Close ∷ ts) = Some (table.Numbers n, ts)
count_behind _ = None

abbrev pub table_named : List ℕ → List Token → Parse TableRef
table_named name (token.Sign sign.Open ∷ ts) = if bytes_eq name (codes "numbers")
    then count_behind ts else None
table_named name ts = Some (table.Named name, ts)

abbrev pub table_at : List Token → Parse TableRef
table_at ts = option_and_then (λ n. table_named n.0 n.1) (name_parse ts)

abbrev pub from_at : List Token → Parse TableRef
from_at (token.Keyword keyword.From ∷ ts) = table_at ts
from_at _ = None

-- ---- joins

abbrev pub column_ref_at : List Token → Parse ColumnRef
column_ref_at ts = option_map (λ n. dotted n.0 n.1) (name_parse ts)

abbrev pub after_equal : List Token → Option (List Token)
after_equal (token.Sign sign.Equal ∷ ts) = Some ts
after_equal _ = None

abbrev pub pair_with : ColumnRef → Parse ColumnRef → Parse NamePair
pair_with left read = option_map (λ r. (record { left = left; right = r.0 }, r.1)) read

abbrev pub pair_behind : ColumnRef → Option (List Token) → Parse NamePair
pair_behind left rest = option_and_then (λ ts. pair_with left (column_ref_at ts)) rest

abbrev pub pair_at : List Token → Parse NamePair
pair_at ts = option_and_then (λ l. pair_behind l.0 (after_equal l.1)) (column_ref_at ts)

abbrev pub pairs_at : List Token → Parse (List NamePair)
pairs_at ts = list_at pair_at mark.And (length ts) ts

abbrev pub join_parse : TableRef → Parse (List NamePair) → Parse Join
join_parse t read = option_map (λ ps. (record { table = t; pairs = ps.0 }, ps.1)) read

abbrev pub on_at : TableRef → List Token → Parse Join
on_at t (token.Keyword keyword.On ∷ ts) = join_parse t (pairs_at ts)
on_at t _ = None

-- behind JOIN
abbrev pub joined_table_at : List Token → Parse Join
joined_table_at ts = option_and_then (λ t. on_at t.0 t.1) (table_at ts)

abbrev pub some_join : Parse Join → Parse (Option Join)
some_join read = option_map (λ j. (Some j.0, j.1)) read

abbrev pub join_at : List Token → Parse (Option Join)
join_at (token.Keyword keyword.Join ∷ ts) = some_join (joined_table_at ts)
join_at (token.Keyword keyword.Inner ∷ token.Keyword keyword.Join ∷ ts) =
    some_join (joined_table_at ts)
join_at (token.Keyword keyword.Inner ∷ ts) = None
join_at ts = Some (None, ts)

-- ---- clauses that may be left out

-- What stands behind a clause's keyword, or nothing where the keyword doesn't stand.
abbrev pub clause_behind : {A X : Type 0} → A → (X → A) → (List Token → Parse X) → List Token
    → Option (List Token) → Parse A
clause_behind nothing some read ts None = Some (nothing, ts)
clause_behind nothing some read ts (Some rest) = option_map (λ r. (some r.0, r.1)) (read rest)

abbrev pub clause_at : {A X : Type 0} → Separator → A → (X → A) → (List Token → Parse X)
    → List Token → Parse A
clause_at m nothing some read ts = clause_behind nothing some read ts (behind m ts)

-- the list behind BY
abbrev pub by_at : {X : Type 0} → (List Token → Parse X) → List Token → Parse (List X)
by_at read ts = option_and_then (λ ts. list_at read mark.Comma (length ts) ts) (behind mark.By ts)

-- ---- conditions

-- behind WHERE or HAVING
abbrev pub condition_at : SideRules QueryOperand → ℕ → List Token → Parse Condition
condition_at rules depth ts =
    option_and_then (λ p. option_map (λ c. (c, p.1)) (condition_of p.0)) (part_at rules depth 1 ts)

abbrev pub filter_at : ℕ → List Token → Parse (Option Condition)
filter_at depth ts = clause_at mark.Where None Some (condition_at row_sides depth) ts

abbrev pub having_at : ℕ → List Token → Parse (Option Condition)
having_at depth ts = clause_at mark.Having None Some (condition_at group_sides depth) ts

-- ---- groups, order and limit

abbrev pub keys_at : List Token → Parse (List ColumnRef)
keys_at ts = clause_at mark.Group [] (λ keys. keys) (by_at column_ref_at) ts

abbrev pub direction_at : List Token → Bool × List Token
direction_at (token.Keyword keyword.Asc ∷ ts) = (false, ts)
direction_at (token.Keyword keyword.Desc ∷ ts) = (true, ts)
direction_at ts = (false, ts)

abbrev pub order_key : List ℕ → Bool × List Token → OrderKey × List Token
order_key name d = (record { name = name; descending = d.0 }, d.1)

abbrev pub order_key_at : List Token → Parse OrderKey
order_key_at ts = option_map (λ n. order_key n.0 (direction_at n.1)) (name_parse ts)

abbrev pub order_at : List Token → Parse (List OrderKey)
order_at ts = clause_at mark.Order [] (λ keys. keys) (by_at order_key_at) ts

abbrev pub number_parse : List Token → Parse ℕ
number_parse (token.Number n ∷ ts) = Some (n, ts)
number_parse _ = None

abbrev pub offset_at : List Token → Parse ℕ
offset_at ts = clause_at mark.Offset 0 (λ skip. skip) number_parse ts

abbrev pub span_with : ℕ → Parse ℕ → Parse Span
span_with count read = option_map (λ m. (record { count = count; skip = m.0 }, m.1)) read

abbrev pub span_at : List Token → Parse Span
span_at ts = option_and_then (λ n. span_with n.0 (offset_at n.1)) (number_parse ts)

abbrev pub limit_at : List Token → Parse (Option Span)
limit_at ts = clause_at mark.Limit None Some span_at ts

-- ---- queries

-- what is made of what is read, and of the tokens behind it
abbrev pub reads : {A B : Type 0} → Parse A → (A → List Token → Option B) → Option B
reads read more = option_and_then (λ r. more r.0 r.1) read

-- groups, their condition, the order and the span
abbrev pub QueryTail : Type 0
QueryTail = List ColumnRef × Option Condition × List OrderKey × Option Span

-- GROUP BY and the clauses behind it
abbrev pub ending_at : ℕ → List Token → Parse QueryTail
ending_at depth ts =
    reads (keys_at ts) (λ k ts. reads (having_at depth ts) (λ h ts.
    reads (order_at ts) (λ o ts. option_map (λ l. ((k, h, o, l.0), l.1)) (limit_at ts))))

-- the query of these rows, with what is made of them
abbrev pub query_of : Selection → TableRef → Option Join → Option Condition → QueryTail → QueryTree
query_of s t j f e = record {
  items = s;
  from = t;
  join = j;
  filter = f;
  keys = e.0;
  having = e.1;
  order = e.2;
  limit = e.3;
}

abbrev pub shaped : ℕ → Selection → TableRef → Option Join → Option Condition → List Token
    → Parse QueryTree
shaped depth s t j f ts = option_map (λ e. (query_of s t j f e.0, e.1)) (ending_at depth ts)

abbrev pub after_select : List Token → Option (List Token)
after_select (token.Keyword keyword.Select ∷ ts) = Some ts
after_select _ = None

-- the query at the front
abbrev pub query_at : ℕ → List Token → Parse QueryTree
query_at depth ts = option_and_then (λ ts. reads (selection_at depth ts) (λ s ts.
    reads (from_at ts) (λ t ts. reads (join_at ts) (λ j ts.
    reads (filter_at depth ts) (λ f ts. shaped depth s t j f ts)))))
    (after_select ts)

-- ---- texts

abbrev pub is_text_end : List Token → Bool
is_text_end [] = true
is_text_end (token.Sign sign.Semicolon ∷ []) = true
is_text_end _ = false

-- the query that the tokens of a text are, all of them
abbrev pub text_query : ℕ → List Token → Option QueryTree
text_query depth ts =
    reads (query_at depth ts) (λ q rest. if is_text_end rest then Some q else None)
