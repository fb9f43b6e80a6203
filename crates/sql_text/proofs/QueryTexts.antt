-- A query is read exactly where one is spelled.
use Rattle.sql_text.proofs.Imports.{◌≡◌, ℕ, zero, suc, ◌≤◌, Bool, true, false, cond, List, [], ◌∷◌, length, Option, Some, None, option_and_then, option_map, IfSome, refl, ap, ◌∙◌, arith, codes, bytes_eq, IfSome_then, bytes_eq-Decides, AggOp, ColumnRef, Join, NamePair, OrderKey, Span, TableRef, Expression, CallTree, Condition, ItemWhat, plain_item, ItemTree, Selection, listed, QueryTree, Tokens, IsExpr, IsColumn, unqualified, qualified, one_term, sum, difference, IsTerm, one_factor, product, IsFactor, a_column, a_number, negative, enclosed, IsAgg, IsCond, AreListed, last_one as the_last, one_more as and_more, IsWhat, an_expression, an_agg, IsSelectItem, unnamed, named, IsSelection, all_columns, some_items, IsTableRef, named_table, numbers_table, IsPair, equal_columns, IsJoined, table_on, IsJoin, no_join, join_of as joined_with, inner_join, IsFilter, AreKeys, IsHaving, IsOrderKey, unstated, ascending, descending, IsOrder, IsLimit, source_of, shaping_of, IsQuery, select_query, IsText, bare, with_semicolon, Token, SideRules, QueryOperand, side, plain, row_sides, group_sides, part_at, Parse, next_operator, plain_operand, condition_of, call_at, list_behind, list_at, behind, alias_at, call_front, what_by, what_at, item_of, with_alias, item_at, items_at, selection_at, count_behind, table_named, table_at, from_at, column_ref_at, after_equal, pair_behind, pair_at, on_at, joined_table_at, some_join, join_at, condition_at, clause_at, keys_at, direction_at, order_key_at, order_at, limit_at, is_text_end, QueryTail, ending_at, query_of, query_at, AreBy, IsClause, IsGroupOperand, IsNumber, IsOperand, IsSpan, Separator, by_at, clause_behind, clause_of, filter_at, having_at, listed_by, no_clause, number_parse, number_of, offset_at, reads, span_at, span_of, span_with, text_query}
use Rattle.query_model.specs.declared.query.TableRef.TheVariants as table
use Rattle.sql_grammar.specs.declared.Token.TheVariants as token
use Rattle.sql_grammar.specs.declared.Keyword.TheVariants as keyword
use Rattle.sql_grammar.specs.declared.Sign.TheVariants as sign
use Rattle.sql_text.specs.declared.lists.Separator.TheVariants as between
use Rattle.sql_text.proofs.Behind.{IsShorter, operand_shorter, expr_shorter, cond_shorter, column_shorter, item_shorter, selection_shorter, table_shorter, pair_shorter, joined_shorter, order_key_shorter, list_shorter}
use Rattle.sql_text.proofs.Turns.{ends_name, tighter, deeper}
use Rattle.sql_text.proofs.PartsFound.{AreRead, expr_found, cond_found, row_sides-read, group_sides-read, Calls, agg_found, nothing_called, dotted_found}
use Rattle.sql_text.proofs.PartsSpelled.{bind, map_some, row_spelled, group_spelled, called_spelled, dotted_spelled}

-- ---- what is spelled is read

-- ---- lists

-- the token of a mark
abbrev mark : Separator → Token
mark between.Comma = token.Sign sign.Comma
mark between.And = token.Keyword keyword.And
mark between.Where = token.Keyword keyword.Where
mark between.Group = token.Keyword keyword.Group
mark between.By = token.Keyword keyword.By
mark between.Having = token.Keyword keyword.Having
mark between.Order = token.Keyword keyword.Order
mark between.Limit = token.Keyword keyword.Limit
mark between.Offset = token.Keyword keyword.Offset

mark_behind : (s : Separator) (ts : Tokens) → behind s (mark s ∷ ts) ≡ Some ts
mark_behind s ts = grind arith

behind_is : (s : Separator) (ts rest : Tokens) → behind s ts ≡ Some rest → ts ≡ mark s ∷ rest
behind_is s ts rest h = grind arith

module _ {X : Type 0} (Is : X → Tokens → Tokens → Type 0) (s : Separator)
    (read : Tokens → Parse X) where
  module _ (less : (x : X) (ts rest : Tokens) → Is x ts rest → IsShorter rest ts)
      (most : ℕ) (Ends : Tokens → Type 0) (goes : (ts : Tokens) → Ends (mark s ∷ ts))
      (found : (x : X) (ts rest : Tokens) → Is x ts rest → length ts ≤ most → Ends rest
      → read ts ≡ Some (x, rest)) where
    list_found : {xs : List X} {ts rest : Tokens} → AreListed Is (mark s) xs ts rest
        → (turns : ℕ) → length ts ≤ most → length ts ≤ turns → Ends rest → behind s rest ≡ None
        → list_at read s turns ts ≡ Some (xs, rest)
    unfolding list_at
    list_found (the_last is) zero l k ends none = absurd (omega (arith, less _ _ _ is))
    list_found (the_last {x = x} {ts = ts} {rest = rest} is) (suc turns) l k ends none =
        rw (found x ts rest is l ends, none) refl
    list_found (and_more is others) zero l k ends none = absurd (omega (arith, less _ _ _ is))
    list_found (and_more {x = x} {ts = ts} {mid = mid} is others) (suc turns) l k ends none =
        let more = less x ts (mark s ∷ mid) is in
        let read = list_found others turns (omega (arith, more)) (omega (arith, more)) ends none in
        rw (found x ts (mark s ∷ mid) is l (goes mid), mark_behind s mid, read) refl

-- ---- items

plain_found : (n : ℕ) {e : Expression} {ts rest : Tokens} → IsExpr e ts rest → length ts ≤ n
    → ends_name rest ≡ true → next_operator 5 rest ≡ None
    → part_at row_sides n 5 ts ≡ Some (side (plain e), rest)
plain_found n {e = e} {ts = ts} {rest = rest} is l ends none =
    deeper row_sides n l (expr_shorter is)
    (λ m k. expr_found is m 5 (omega arith) ends (tighter 5 6 rest (omega arith) none) k) none

-- whether the tokens begin with a star
abbrev is_star : Tokens → Bool
is_star (token.Sign sign.Star ∷ ts) = true
is_star ts = false

-- an item begins with no star, and no expression as a call where no parenthesis follows
abbrev Begins : Tokens → Tokens → Type 0
Begins ts rest = (is_star ts ≡ false) × (ends_name rest ≡ true → call_front ts ≡ None)

mutual
  expr_begins : {e : Expression} {ts rest : Tokens} → IsExpr e ts rest → Begins ts rest
  expr_begins (one_term a) = term_begins a
  expr_begins (sum a b) = ((expr_begins a).0, λ h. (expr_begins a).1 refl)
  expr_begins (difference a b) = ((expr_begins a).0, λ h. (expr_begins a).1 refl)

  term_begins : {e : Expression} {ts rest : Tokens} → IsTerm e ts rest → Begins ts rest
  term_begins (one_factor a) = factor_begins a
  term_begins (product a b) = ((term_begins a).0, λ h. (term_begins a).1 refl)

  factor_begins : {e : Expression} {ts rest : Tokens} → IsFactor e ts rest → Begins ts rest
  factor_begins (a_column (unqualified {name = name} {rest = rest})) =
      (refl, λ h. nothing_called name rest h)
  factor_begins (a_column qualified) = (refl, λ h. refl)
  factor_begins a_number = (refl, λ h. refl)
  factor_begins negative = (refl, λ h. refl)
  factor_begins (enclosed e) = (refl, λ h. refl)

what_found : {w : ItemWhat} {ts rest : Tokens} → IsWhat w ts rest → (n : ℕ) → length ts ≤ n
    → ends_name rest ≡ true → next_operator 5 rest ≡ None → what_at n ts ≡ Some (w, rest)
what_found (an_expression {e = e} {ts = ts} {rest = rest} is) n l ends none =
    ap (what_by n ts) ((expr_begins is).1 ends)
    ∙ ap (option_and_then (λ p. option_map (λ e. (plain_item e, p.1)) (plain_operand p.0)))
    (plain_found n is l ends none)
what_found (an_agg {c = c} {ts = ts} {rest = rest} is) n l ends none =
    grind (arith, Calls n c ts rest, agg_found is n (omega arith))

-- what ends an item
record EndsItem (rest : Tokens) : Type 0 where
  name : ends_name rest ≡ true
  operator : next_operator 5 rest ≡ None
  alias : alias_at rest ≡ Some (None, rest)

item_from : (n : ℕ) (w : ItemWhat) (alias : Option (List ℕ)) (ts mid rest : Tokens) → what_at n ts ≡
    Some (w, mid) → alias_at mid ≡ Some (alias, rest) → item_at n ts ≡ Some (item_of w alias, rest)
item_from n w alias ts mid rest read more = grind arith

item_found : (n : ℕ) {i : ItemTree} {ts rest : Tokens} → IsSelectItem i ts rest → length ts ≤ n
    → EndsItem rest → item_at n ts ≡ Some (i, rest)
item_found n (unnamed {w = w} {ts = ts} {rest = rest} is) l ends =
    item_from n w None ts rest rest (what_found is n l ends.name ends.operator) ends.alias
item_found n (named {w = w} {name = name} {ts = ts} {rest = rest} is) l ends =
    item_from n w (Some name) ts _ rest (what_found is n l refl refl) refl

agg_no_star : {c : CallTree} {ts rest : Tokens} → IsAgg c ts rest → is_star ts ≡ false
agg_no_star a = grind arith

item_no_star : {i : ItemTree} {ts rest : Tokens} → IsSelectItem i ts rest → is_star ts ≡ false
item_no_star (unnamed (an_expression e)) = (expr_begins e).0
item_no_star (named (an_expression e)) = (expr_begins e).0
item_no_star (unnamed (an_agg c)) = agg_no_star c
item_no_star (named (an_agg c)) = agg_no_star c

no_star : {is : List ItemTree} {ts rest : Tokens}
    → AreListed IsSelectItem (token.Sign sign.Comma) is ts rest → is_star ts ≡ false
no_star a = grind (arith, item_no_star)

selection_found : {s : Selection} {ts rest : Tokens} → IsSelection s ts rest → (n : ℕ) → length ts
    ≤ n → EndsItem rest → behind between.Comma rest ≡ None → selection_at n ts ≡ Some (s, rest)
selection_found all_columns n l ends none = refl
selection_found (some_items {ts = ts} {rest = rest} items) n l ends none =
    listed_at ts (no_star items)
    ∙ ap (option_map (λ is. (listed is.0, is.1))) (list_found IsSelectItem between.Comma (item_at n)
    (λ x ts rest i. item_shorter i) n EndsItem
    (λ ts. record { name = refl; operator = refl; alias = refl })
    (λ x ts rest is l ends. item_found n is l ends) items (length ts) l (omega arith) ends none)
  where
    listed_at : (ts : Tokens) → is_star ts ≡ false
        → selection_at n ts ≡ option_map (λ is. (listed is.0, is.1)) (items_at n ts)
    listed_at (token.Sign sign.Star ∷ ts) h = absurd cc
    listed_at _ h = refl

-- ---- tables and joins

numbers_named : (n : ℕ) (rest : Tokens)
    → table_named (codes "numbers") (token.Sign sign.Open ∷ token.Number n ∷ token.Sign sign.Close
    ∷ rest) ≡ Some (table.Numbers n, rest)
numbers_named n rest = refl

named_found : (name : List ℕ) (rest : Tokens) → ends_name rest ≡ true
    → table_named name rest ≡ Some (table.Named name, rest)
named_found name rest h = grind arith

table_found : {t : TableRef} {ts rest : Tokens} → IsTableRef t ts rest → ends_name rest ≡ true
    → table_at ts ≡ Some (t, rest)
table_found (named_table {name = name} {rest = rest}) h = named_found name rest h
table_found (numbers_table {n = n} {rest = rest}) h = numbers_named n rest

column_found : {c : ColumnRef} {ts rest : Tokens} → IsColumn c ts rest → ends_name rest ≡ true
    → column_ref_at ts ≡ Some (c, rest)
column_found (unqualified {name = name} {rest = rest}) h = rw (dotted_found name rest h) refl
column_found qualified h = refl

pair_found : {p : NamePair} {ts rest : Tokens} → IsPair p ts rest → ends_name rest ≡ true
    → pair_at ts ≡ Some (p, rest)
pair_found (equal_columns left right) h = grind (arith, column_found)

abbrev EndsName : Tokens → Type 0
EndsName rest = ends_name rest ≡ true

joined_found : {j : Join} {ts rest : Tokens} → IsJoined j (token.Keyword keyword.Join ∷ ts) rest
    → ends_name rest ≡ true → behind between.And rest ≡ None → joined_table_at ts ≡ Some (j, rest)
joined_found (table_on {mid = mid} is pairs) h none =
    let read = list_found IsPair between.And pair_at (λ x ts rest p. pair_shorter p)
    (length mid) EndsName (λ ts. refl) (λ x ts rest is l ends. pair_found is ends) pairs
    (length mid) (omega arith) (omega arith) h none in
    rw (table_found is refl, read) refl

-- ---- clauses

-- the clause that the tokens begin with, counted from the end of a text; 7 is none
abbrev rank : Tokens → ℕ
rank [] = 0
rank (token.Sign sign.Semicolon ∷ ts) = 0
rank (token.Keyword keyword.Limit ∷ ts) = 1
rank (token.Keyword keyword.Order ∷ ts) = 2
rank (token.Keyword keyword.Having ∷ ts) = 3
rank (token.Keyword keyword.Group ∷ ts) = 4
rank (token.Keyword keyword.Where ∷ ts) = 5
rank (token.Keyword keyword.Join ∷ ts) = 6
rank (token.Keyword keyword.Inner ∷ ts) = 6
rank _ = 7

-- what a clause, or the end of a text, does not go on with
record Ends (rest : Tokens) : Type 0 where
  name : ends_name rest ≡ true
  no_and : behind between.And rest ≡ None
  no_comma : behind between.Comma rest ≡ None
  operator : next_operator 1 rest ≡ None
  no_direction : direction_at rest ≡ (false, rest)

simple : {rest : Tokens} → ends_name rest ≡ true → behind between.And rest ≡ None
    → behind between.Comma rest ≡ None → next_operator 1 rest ≡ None
    → direction_at rest ≡ (false, rest) → Ends rest
simple a b c d e = record { name = a; no_and = b; no_comma = c; operator = d; no_direction = e }

ends : (rest : Tokens) → rank rest ≤ 6 → Ends rest
ends rest h = grind (arith, simple)

-- the clause is read so, and begins with a keyword of its own or where the rest does
abbrev IsFound : {A : Type 0} → Parse A → A → Tokens → Tokens → ℕ → Type 0
IsFound read a ts rest k = (read ≡ Some (a, rest)) × (rank ts ≤ k)

-- no clause of a mark stands where a later one begins
not_behind : (m : Separator) (k : ℕ) (rest : Tokens) → ((ts : Tokens) → rank (mark m ∷ ts) ≡ suc k)
    → rank rest ≤ k → behind m rest ≡ None
not_behind m k rest at low = go (behind m rest) refl
  where
    go : (o : Option Tokens) → behind m rest ≡ o → o ≡ None
    go None e = refl
    go (Some ts) e =
        let is = ap rank (behind_is m rest ts e) in absurd (omega (arith, at ts, is, low))

-- a clause whose mark has the rank behind k, where what follows has at most that
module _ {A X : Type 0} (m : Separator) (nothing : A) (some : X → A)
    (Is : X → Tokens → Tokens → Type 0) (read : Tokens → Parse X) where
  clause_found : (k n : ℕ) (rest : Tokens) → ((ts : Tokens) → rank (mark m ∷ ts) ≡ suc k)
      → rank rest ≤ k → ((x : X) (ts : Tokens) → Is x ts rest → length ts ≤ n
      → read ts ≡ Some (x, rest)) → {a : A} {ts : Tokens}
      → IsClause (mark m) nothing some Is a ts rest → length ts ≤ n
      → IsFound (clause_at m nothing some read ts) a ts rest (suc k)
  clause_found k n rest at low found no_clause l =
      (ap (clause_behind nothing some read rest) (not_behind m k rest at low), omega (arith, low))
  clause_found k n rest at low found (clause_of {x = x} {ts = ts} is) l = (
    ap (clause_behind nothing some read (mark m ∷ ts)) (mark_behind m ts)
        ∙ ap (option_map (λ r. (some r.0, r.1))) (found x ts is (omega arith)),
    omega (arith, at ts),
  )

by_found : {X : Type 0} (Is : X → Tokens → Tokens → Type 0) (read : Tokens → Parse X)
    → ((x : X) (ts rest : Tokens) → Is x ts rest → IsShorter rest ts) → (Ends : Tokens → Type 0)
    → ((ts : Tokens) → Ends (mark between.Comma ∷ ts))
    → ((x : X) (ts rest : Tokens) → Is x ts rest → Ends rest → read ts ≡ Some (x, rest))
    → {xs : List X} {ts rest : Tokens} → AreBy Is xs ts rest → Ends rest
    → behind between.Comma rest ≡ None → by_at read ts ≡ Some (xs, rest)
by_found Is read less Ends goes found (listed_by {ts = ts} are) ends none =
    list_found Is between.Comma read less (length ts) Ends goes
    (λ x ts rest is l. found x ts rest is) are (length ts) (omega arith) (omega arith) ends none

no_offset : (rest : Tokens) → rank rest ≤ 0 → behind between.Offset rest ≡ None
no_offset rest h = grind arith

span_found : {s : Span} {ts rest : Tokens} → IsSpan s ts rest → rank rest ≤ 0
    → span_at ts ≡ Some (s, rest)
span_found (span_of {n = n} {rest = rest} no_clause) h = ap (span_with n)
    (ap (clause_behind 0 (λ skip. skip) number_parse rest) (no_offset rest h))
span_found (span_of (clause_of number_of)) h = refl

limit_found : {l : Option Span} {ts rest : Tokens} → IsLimit l ts rest → rank rest ≤ 0
    → IsFound (limit_at ts) l ts rest 1
limit_found {ts = ts} {rest = rest} is h =
    clause_found between.Limit None Some IsSpan span_at 0 (length ts) rest (λ ts. refl) h
    (λ x ts is l. span_found is h) is (omega arith)

-- what may stand behind a key without a direction
abbrev EndsKey : Tokens → Type 0
EndsKey rest = direction_at rest ≡ (false, rest)

order_key_found : {k : OrderKey} {ts rest : Tokens} → IsOrderKey k ts rest → EndsKey rest
    → order_key_at ts ≡ Some (k, rest)
order_key_found (unstated {name = name} {rest = rest}) ends = rw ends refl
order_key_found _ ends = refl

order_found : {os : List OrderKey} {ts rest : Tokens} → IsOrder os ts rest → rank rest ≤ 1
    → IsFound (order_at ts) os ts rest 2
order_found {ts = ts} {rest = rest} is h =
    let e = ends rest (omega arith) in
    clause_found between.Order [] (λ keys. keys) (AreBy IsOrderKey) (by_at order_key_at) 1
    (length ts) rest (λ ts. refl) h (λ keys ts are l. by_found IsOrderKey order_key_at
    (λ x ts rest k. order_key_shorter k) EndsKey (λ ts. refl)
    (λ x ts rest is ends. order_key_found is ends) are e.no_direction e.no_comma) is (omega arith)

module _ (rules : SideRules QueryOperand) (Op : QueryOperand → Tokens → Tokens → Type 0)
    (sides : AreRead rules Op) where
  cond_read : (n : ℕ) {c : Condition} {ts rest : Tokens} → IsCond Op c ts rest → length ts ≤ n
      → Ends rest → condition_at rules n ts ≡ Some (c, rest)
  cond_read n {c = c} {ts = ts} {rest = rest} is l ends =
      ap (option_and_then (λ p. option_map (λ c. (c, p.1)) (condition_of p.0)))
      (deeper rules n l (cond_shorter Op sides.shorter is)
      (λ m i. cond_found rules Op sides is m 1 (omega arith)
      ends.name (tighter 1 2 rest (omega arith) ends.operator) i) ends.operator)

having_found : {c : Option Condition} {ts rest : Tokens} → IsHaving c ts rest → (n : ℕ)
    → length ts ≤ n → rank rest ≤ 2 → IsFound (having_at n ts) c ts rest 3
having_found {rest = rest} is n l h =
    clause_found between.Having None Some (IsCond IsGroupOperand) (condition_at group_sides n)
    2 n rest (λ ts. refl) h (λ c ts is l.
    cond_read group_sides IsGroupOperand group_sides-read n is l (ends rest (omega arith))) is l

keys_found : {cs : List ColumnRef} {ts rest : Tokens} → AreKeys cs ts rest → rank rest ≤ 3
    → IsFound (keys_at ts) cs ts rest 4
keys_found {ts = ts} {rest = rest} is h =
    let e = ends rest (omega arith) in
    clause_found between.Group [] (λ keys. keys) (AreBy IsColumn) (by_at column_ref_at) 3
    (length ts) rest (λ ts. refl) h (λ keys ts are l. by_found IsColumn column_ref_at
    (λ x ts rest c. column_shorter c) EndsName (λ ts. refl)
    (λ x ts rest is ends. column_found is ends) are e.name e.no_comma) is (omega arith)

filter_found : {c : Option Condition} {ts rest : Tokens} → IsFilter c ts rest → (n : ℕ)
    → length ts ≤ n → rank rest ≤ 4 → IsFound (filter_at n ts) c ts rest 5
filter_found {rest = rest} is n l h =
    clause_found between.Where None Some (IsCond IsOperand) (condition_at row_sides n)
    4 n rest (λ ts. refl) h (λ c ts is l.
    cond_read row_sides IsOperand row_sides-read n is l (ends rest (omega arith))) is l

join_found : {j : Option Join} {ts rest : Tokens} → IsJoin j ts rest → rank rest ≤ 5
    → IsFound (join_at ts) j ts rest 6
join_found (no_join {rest = token.Keyword keyword.Join ∷ ts}) h = absurd (omega arith)
join_found (no_join {rest = token.Keyword keyword.Inner ∷ ts}) h = absurd (omega arith)
join_found no_join h = (refl, omega (arith, h))
join_found (joined_with {rest = rest} (table_on is pairs)) h =
    let e = ends rest (omega arith) in
    (ap some_join (joined_found (table_on is pairs) e.name e.no_and), omega arith)
join_found (inner_join {rest = rest} (table_on is pairs)) h =
    let e = ends rest (omega arith) in
    (ap some_join (joined_found (table_on is pairs) e.name e.no_and), omega arith)

-- each optional clause leaves no more tokens than there were
module _ where
  join_within : {j : Option Join} {ts rest : Tokens} → IsJoin j ts rest → length rest ≤ length ts
  join_within a = grind (arith, joined_shorter)

  filter_within : {f : Option Condition} {ts rest : Tokens} → IsFilter f ts rest
      → length rest ≤ length ts
  filter_within no_clause = omega arith
  filter_within (clause_of c) =
      omega (arith, cond_shorter IsOperand operand_shorter c)

  keys_within : {cs : List ColumnRef} {ts rest : Tokens} → AreKeys cs ts rest
      → length rest ≤ length ts
  keys_within a = grind (arith, list_shorter, column_shorter)

query_found : {q : QueryTree} {ts rest : Tokens} → IsQuery q ts rest → (n : ℕ) → length ts ≤ n
    → rank rest ≤ 0 → query_at n ts ≡ Some (q, rest)
query_found (select_query items (source_of is join filter) (shaping_of keys having order limit))
    n l h =
    let ls = limit_found limit h in
    let os = order_found order ls.1 in
    let a = selection_shorter items in
    let b = table_shorter is in
    let c = join_within join in
    let d = filter_within filter in
    let hs = having_found having n (omega (arith, keys_within keys)) os.1 in
    let ks = keys_found keys hs.1 in
    let fs = filter_found filter n (omega arith) ks.1 in
    let js = join_found join fs.1 in
    let e = ends _ js.1 in
    let s =
    selection_found items n (omega arith) (record { name = refl; operator = refl; alias = refl })
    refl in
    rw (s, table_found is e.name, js.0, fs.0, ks.0, hs.0, os.0, ls.0) refl

abbrev ended : QueryTree → Tokens → Option QueryTree
ended q rest = cond (is_text_end rest) (Some q) None

pub text_found : {q : QueryTree} {ts : Tokens} → IsText q ts → (n : ℕ) → length ts ≤ n
    → text_query n ts ≡ Some q
text_found (bare q) n l = ap (λ r. reads r ended) (query_found q n l (omega arith))
text_found (with_semicolon q) n l = ap (λ r. reads r ended) (query_found q n l (omega arith))

-- ---- what is read is spelled so

-- ---- lists

module _ {X : Type 0} (Is : X → Tokens → Tokens → Type 0) (s : Separator)
    (read : Tokens → Parse X) (each : (ts : Tokens) → IfSome (read ts) (λ r. Is r.0 ts r.1)) where
  abbrev Listed : Tokens → List X × Tokens → Type 0
  Listed ts r = AreListed Is (mark s) r.0 ts r.1

  behind_spelled : (more : Tokens → Parse (List X))
      → ((ts : Tokens) → IfSome (more ts) (Listed ts)) → (x : X) (ts mid : Tokens) → Is x ts mid
      → (o : Option Tokens) → behind s mid ≡ o → IfSome (list_behind more x mid o) (Listed ts)
  behind_spelled more h x ts mid is o e = grind (arith, map_some, behind_is, the_last, and_more)

  list_spelled : (turns : ℕ) (ts : Tokens) → IfSome (list_at read s turns ts) (Listed ts)
  unfolding list_at
  list_spelled zero ts = tt
  list_spelled (suc turns) ts = grind (arith, bind, behind_spelled, list_spelled turns)

-- ---- items

what_spelled : (n : ℕ) (ts : Tokens) → IfSome (what_at n ts) (λ r. IsWhat r.0 ts r.1)
what_spelled n ts = go (call_front ts) refl
  where
    go : (o : Option (AggOp × Tokens)) → call_front ts ≡ o
        → IfSome (what_by n ts o) (λ r. IsWhat r.0 ts r.1)
    go None e = grind (arith, row_spelled n 5 ts (omega arith), an_expression)
    go (Some c) e =
        map_some _ _ _ (call_at (part_at row_sides n) c.0 c.1) (called_spelled n ts c e)
        (λ r is. an_agg is)

alias_spelled : (w : ItemWhat) (ts mid : Tokens) → IsWhat w ts mid
    → IfSome (with_alias w (alias_at mid)) (λ r. IsSelectItem r.0 ts r.1)
alias_spelled w ts mid is = grind (arith, named, unnamed)

item_spelled : (n : ℕ) (ts : Tokens) → IfSome (item_at n ts) (λ r. IsSelectItem r.0 ts r.1)
item_spelled n ts = grind (arith, bind, alias_spelled, what_spelled n ts)

selection_spelled : (n : ℕ) (ts : Tokens) → IfSome (selection_at n ts) (λ r. IsSelection r.0 ts r.1)
selection_spelled n (token.Sign sign.Star ∷ ts) = all_columns
selection_spelled n ts =
    map_some _ _ _ (items_at n ts)
    (list_spelled IsSelectItem between.Comma (item_at n) (item_spelled n) (length ts) ts)
    (λ r are. some_items are)

-- ---- tables and joins

named_spelled : (name : List ℕ) (ts : Tokens)
    → IfSome (table_named name ts) (λ r. IsTableRef r.0 (token.Name name ∷ ts) r.1)
named_spelled name (token.Sign sign.Open ∷ ts) = go (bytes_eq name (codes "numbers")) refl
  where
    go : (b : Bool) → bytes_eq name (codes "numbers") ≡ b
        → IfSome (cond b (count_behind ts) None)
        (λ r. IsTableRef r.0 (token.Name name ∷ token.Sign sign.Open ∷ ts) r.1)
    go true e = grind (arith, numbers_table, (bytes_eq-Decides name (codes "numbers")).0 e)
    go false e = tt
named_spelled name _ = named_table

table_spelled : (ts : Tokens) → IfSome (table_at ts) (λ r. IsTableRef r.0 ts r.1)
table_spelled ts = grind (arith, named_spelled)

column_spelled : (ts : Tokens) → IfSome (column_ref_at ts) (λ r. IsColumn r.0 ts r.1)
column_spelled ts = grind (arith, dotted_spelled)

right_spelled : (left : ColumnRef) (ts mid : Tokens) → IsColumn left ts mid
    → IfSome (pair_behind left (after_equal mid)) (λ r. IsPair r.0 ts r.1)
right_spelled left ts (token.Sign sign.Equal ∷ mid) is =
    map_some _ _ _ (column_ref_at mid) (column_spelled mid) (λ r right. equal_columns is right)
right_spelled left ts _ is = tt

pair_spelled : (ts : Tokens) → IfSome (pair_at ts) (λ r. IsPair r.0 ts r.1)
pair_spelled ts = grind (arith, bind, right_spelled, column_spelled ts)

on_spelled : (t : TableRef) (ts mid : Tokens) → IsTableRef t ts mid
    → IfSome (on_at t mid) (λ r. IsJoined r.0 (token.Keyword keyword.Join ∷ ts) r.1)
on_spelled t ts (token.Keyword keyword.On ∷ mid) is =
    grind (arith, list_spelled IsPair between.And pair_at pair_spelled (length mid) mid, table_on)
on_spelled t ts _ is = tt

joined_spelled : (ts : Tokens)
    → IfSome (joined_table_at ts) (λ r. IsJoined r.0 (token.Keyword keyword.Join ∷ ts) r.1)
joined_spelled ts = grind (arith, bind, on_spelled, table_spelled ts)

join_spelled : (ts : Tokens) → IfSome (join_at ts) (λ r. IsJoin r.0 ts r.1)
join_spelled (token.Keyword keyword.Join ∷ ts) =
    map_some _ _ _ (joined_table_at ts) (joined_spelled ts) (λ r is. joined_with is)
join_spelled (token.Keyword keyword.Inner ∷ token.Keyword keyword.Join ∷ ts) =
    map_some _ _ _ (joined_table_at ts) (joined_spelled ts) (λ r is. inner_join is)
join_spelled _ = grind (arith, no_join)

-- ---- conditions

filter_parsed : (n : ℕ) (ts : Tokens)
    → IfSome (condition_at row_sides n ts) (λ r. IsCond IsOperand r.0 ts r.1)
filter_parsed n ts = grind (arith, bind, map_some, row_spelled n 1 ts (omega arith))

having_parsed : (n : ℕ) (ts : Tokens)
    → IfSome (condition_at group_sides n ts) (λ r. IsCond IsGroupOperand r.0 ts r.1)
having_parsed n ts = grind (arith, bind, map_some, group_spelled n 1 ts (omega arith))

-- ---- clauses

module _ {A X : Type 0} (m : Separator) (nothing : A) (some : X → A)
    (Is : X → Tokens → Tokens → Type 0) (read : Tokens → Parse X)
    (each : (ts : Tokens) → IfSome (read ts) (λ r. Is r.0 ts r.1)) where
  abbrev IsSpelled : Tokens → A × Tokens → Type 0
  IsSpelled ts r = IsClause (mark m) nothing some Is r.0 ts r.1

  clause_spelled : (ts : Tokens) → IfSome (clause_at m nothing some read ts) (IsSpelled ts)
  clause_spelled ts = go (behind m ts) refl
    where
      go : (o : Option Tokens) → behind m ts ≡ o
          → IfSome (clause_behind nothing some read ts o) (IsSpelled ts)
      go None e = no_clause
      go (Some rest) e =
          rw (behind_is m ts rest e) (map_some (λ r. Is r.0 rest r.1)
          (IsSpelled (mark m ∷ rest)) (λ r. (some r.0, r.1)) (read rest) (each rest)
          (λ r is. clause_of is))

by_spelled : {X : Type 0} (Is : X → Tokens → Tokens → Type 0) (read : Tokens → Parse X)
    → ((ts : Tokens) → IfSome (read ts) (λ r. Is r.0 ts r.1)) → (ts : Tokens)
    → IfSome (by_at read ts) (λ r. AreBy Is r.0 ts r.1)
by_spelled Is read each (token.Keyword keyword.By ∷ ts) =
    IfSome_then (list_at read between.Comma (length ts) ts)
    (list_spelled Is between.Comma read each (length ts) ts) (λ r are. listed_by are)
by_spelled Is read each _ = grind arith

filter_spelled : (n : ℕ) (ts : Tokens) → IfSome (filter_at n ts) (λ r. IsFilter r.0 ts r.1)
filter_spelled n ts =
    clause_spelled between.Where None Some (IsCond IsOperand) (condition_at row_sides n)
    (filter_parsed n) ts

having_spelled : (n : ℕ) (ts : Tokens) → IfSome (having_at n ts) (λ r. IsHaving r.0 ts r.1)
having_spelled n ts =
    clause_spelled between.Having None Some (IsCond IsGroupOperand)
    (condition_at group_sides n) (having_parsed n) ts

keys_spelled : (ts : Tokens) → IfSome (keys_at ts) (λ r. AreKeys r.0 ts r.1)
keys_spelled ts =
    clause_spelled between.Group [] (λ keys. keys) (AreBy IsColumn) (by_at column_ref_at)
    (by_spelled IsColumn column_ref_at column_spelled) ts

direction_spelled : (name : List ℕ) (ts : Tokens) → IsOrderKey (record
    { name = name; descending = (direction_at ts).0 }) (token.Name name ∷ ts) (direction_at ts).1
direction_spelled name ts = grind (arith, ascending, descending, unstated)

order_key_spelled : (ts : Tokens) → IfSome (order_key_at ts) (λ r. IsOrderKey r.0 ts r.1)
order_key_spelled ts = grind (arith, direction_spelled)

order_spelled : (ts : Tokens) → IfSome (order_at ts) (λ r. IsOrder r.0 ts r.1)
order_spelled ts =
    clause_spelled between.Order [] (λ keys. keys) (AreBy IsOrderKey) (by_at order_key_at)
    (by_spelled IsOrderKey order_key_at order_key_spelled) ts

number_spelled : (ts : Tokens) → IfSome (number_parse ts) (λ r. IsNumber r.0 ts r.1)
number_spelled (token.Number n ∷ ts) = number_of
number_spelled _ = tt

span_spelled : (ts : Tokens) → IfSome (span_at ts) (λ r. IsSpan r.0 ts r.1)
span_spelled (token.Number n ∷ ts) =
    map_some _ _ _ (offset_at ts)
    (clause_spelled between.Offset 0 (λ skip. skip) IsNumber number_parse number_spelled ts)
    (λ m is. span_of is)
span_spelled _ = tt

limit_spelled : (ts : Tokens) → IfSome (limit_at ts) (λ r. IsLimit r.0 ts r.1)
limit_spelled ts = clause_spelled between.Limit None Some IsSpan span_at span_spelled ts

-- ---- queries

data IsFrom : TableRef → Tokens → Tokens → Type 0 where
  from_table : {t : TableRef} {ts rest : Tokens} → IsTableRef t ts rest
      → IsFrom t (token.Keyword keyword.From ∷ ts) rest

from_spelled : (ts : Tokens) → IfSome (from_at ts) (λ r. IsFrom r.0 ts r.1)
from_spelled (token.Keyword keyword.From ∷ ts) =
    IfSome_then (table_at ts) (table_spelled ts) (λ r is. from_table is)
from_spelled _ = tt

whole : {q : QueryTree} {ts a b c d e f g h : Tokens} → IsSelection q.items ts a → IsFrom q.from a b
    → IsJoin q.join b c → IsFilter q.filter c d → AreKeys q.keys d e → IsHaving q.having e f
    → IsOrder q.order f g → IsLimit q.limit g h → IsQuery q (token.Keyword keyword.Select ∷ ts) h
whole items (from_table table) join filter keys having order limit =
    select_query items (source_of table join filter) (shaping_of keys having order limit)

query_spelled : (n : ℕ) (ts : Tokens) → IfSome (query_at n ts) (λ q. IsQuery q.0 ts q.1)
query_spelled n (token.Keyword keyword.Select ∷ ts) =
    bind _ _ _ (selection_at n ts) (selection_spelled n ts) (λ s items.
    bind _ _ _ (from_at s.1) (from_spelled s.1) (λ t table.
    bind _ _ _ (join_at t.1) (join_spelled t.1) (λ j join.
    bind _ _ _ (filter_at n j.1) (filter_spelled n j.1) (λ f filter.
    let query = query_of s.0 t.0 j.0 f.0 in
    let Spelled = λ (e : QueryTail × Tokens). IsQuery (query e.0)
    (token.Keyword keyword.Select ∷ ts) e.1 in
    map_some Spelled (λ q. IsQuery q.0 (token.Keyword keyword.Select ∷ ts) q.1)
    (λ e. (query e.0, e.1)) (ending_at n f.1)
    (bind _ Spelled _ (keys_at f.1) (keys_spelled f.1) (λ k keys.
    bind _ Spelled _ (having_at n k.1) (having_spelled n k.1) (λ h having.
    bind _ Spelled _ (order_at h.1) (order_spelled h.1) (λ o order.
    map_some _ Spelled (λ l. ((k.0, h.0, o.0, l.0), l.1)) (limit_at o.1) (limit_spelled o.1)
    (λ l limit. whole items table join filter keys having order limit))))) (λ e is. is)))))
query_spelled n _ = tt

pub text_spelled : (n : ℕ) (ts : Tokens) → IfSome (text_query n ts) (λ q. IsText q ts)
text_spelled n ts =
    bind _ _ _ (query_at n ts) (query_spelled n ts) (λ q is.
    grind (arith, bare, with_semicolon, is))
