-- Which tokens spell a query. Each relation has a case for each line of the grammar: `IsTerm e ts
-- rest` says that the tokens ts begin with a spelling of the term e, and that rest is what follows
-- it.
use Rattle.std.specs.Prelude.{◌≡◌, ℕ, true, false, List, [], ◌∷◌, Option, Some, None, codes}
use Rattle.sql_grammar.specs.QueryTypes.{AggOp, CallTree, ColumnRef, CompareOp, CondForm, Condition, Expression, ItemTree, ItemWhat, Join, NamePair, OrderKey, Query, QueryOperand, QueryTree, Selection, Span, TableRef, arith, both, call, call_item, column, compare, either, listed, negated, null, null_test, number, plain, plain_item, query_tree, star, text}
use Rattle.query_model.specs.declared.query.ArithOp.TheVariants as op
use Rattle.query_model.specs.declared.query.AggOp.TheVariants as agg
use Rattle.query_model.specs.declared.query.CompareOp.TheVariants as order
use Rattle.query_model.specs.declared.query.TableRef.TheVariants as table
use Rattle.sql_grammar.specs.declared.Token.{Token}
use Rattle.sql_grammar.specs.declared.Token.TheVariants as token
use Rattle.sql_grammar.specs.declared.Keyword.TheVariants as keyword
use Rattle.sql_grammar.specs.declared.Sign.{Sign}
use Rattle.sql_grammar.specs.declared.Sign.TheVariants as sign
use Rattle.sql_grammar.specs.Tokens.{aggregate_of, has_argument, tokens_of}

abbrev pub Tokens : Type 0
Tokens = List Token

-- column = name | name "." name
pub data IsColumn : ColumnRef → Tokens → Tokens → Type 0 where
  unqualified : {name : List ℕ} {rest : Tokens}
      → IsColumn (record { table = None; name = name }) (token.Name name ∷ rest) rest
  qualified : {table name : List ℕ} {rest : Tokens}
      → IsColumn (record { table = Some table; name = name })
      (token.Name table ∷ token.Sign sign.Dot ∷ token.Name name ∷ rest) rest

mutual
  -- expr = term {("+" | "-") term}
  pub data IsExpr : Expression → Tokens → Tokens → Type 0 where
    one_term : {e : Expression} {ts rest : Tokens} → IsTerm e ts rest → IsExpr e ts rest
    sum : {a b : Expression} {ts mid rest : Tokens}
        → IsExpr a ts (token.Sign sign.Plus ∷ mid) → IsTerm b mid rest
        → IsExpr (arith op.Add a b) ts rest
    difference : {a b : Expression} {ts mid rest : Tokens}
        → IsExpr a ts (token.Sign sign.Minus ∷ mid) → IsTerm b mid rest
        → IsExpr (arith op.Sub a b) ts rest

  -- term = factor {"*" factor}
  pub data IsTerm : Expression → Tokens → Tokens → Type 0 where
    one_factor : {e : Expression} {ts rest : Tokens} → IsFactor e ts rest → IsTerm e ts rest
    product : {a b : Expression} {ts mid rest : Tokens}
        → IsTerm a ts (token.Sign sign.Star ∷ mid) → IsFactor b mid rest
        → IsTerm (arith op.Mul a b) ts rest

  -- factor = column | number | "-" number | "(" expr ")"
  pub data IsFactor : Expression → Tokens → Tokens → Type 0 where
    a_column : {c : ColumnRef} {ts rest : Tokens} → IsColumn c ts rest → IsFactor (column c) ts rest
    a_number : {n : ℕ} {rest : Tokens}
        → IsFactor (number (record { negative = false; size = n })) (token.Number n ∷ rest) rest
    negative : {n : ℕ} {rest : Tokens}
        → IsFactor (number (record { negative = true; size = n }))
        (token.Sign sign.Minus ∷ token.Number n ∷ rest) rest
    enclosed : {e : Expression} {ts rest : Tokens}
        → IsExpr e ts (token.Sign sign.Close ∷ rest) → IsFactor e (token.Sign sign.Open ∷ ts) rest

-- agg = "count" "(" ["*"] ")" | ("sum" | "min" | "max") "(" expr ")"
pub data IsAgg : CallTree → Tokens → Tokens → Type 0 where
  count_rows : {w : List ℕ} {rest : Tokens} → aggregate_of w ≡ Some agg.Count
      → IsAgg (record { op = agg.Count; arg = None })
      (token.Name w ∷ token.Sign sign.Open ∷ token.Sign sign.Close ∷ rest) rest
  count_star : {w : List ℕ} {rest : Tokens} → aggregate_of w ≡ Some agg.Count
      → IsAgg (record { op = agg.Count; arg = None })
      (token.Name w ∷ token.Sign sign.Open ∷ token.Sign sign.Star ∷ token.Sign sign.Close ∷ rest)
      rest
  call_over : {w : List ℕ} {op : AggOp} {e : Expression} {ts rest : Tokens} → aggregate_of w
      ≡ Some op → has_argument op ≡ true → IsExpr e ts (token.Sign sign.Close ∷ rest)
      → IsAgg (record { op = op; arg = Some e }) (token.Name w ∷ token.Sign sign.Open ∷ ts) rest

-- operand = expr | string | NULL
pub data IsOperand : QueryOperand → Tokens → Tokens → Type 0 where
  an_expr : {e : Expression} {ts rest : Tokens} → IsExpr e ts rest → IsOperand (plain e) ts rest
  a_string : {t : List ℕ} {rest : Tokens} → IsOperand (text t) (token.Text t ∷ rest) rest
  a_null : {rest : Tokens} → IsOperand null (token.Keyword keyword.Null ∷ rest) rest

-- operand of HAVING = column | agg | number | "-" number | string | NULL
pub data IsGroupOperand : QueryOperand → Tokens → Tokens → Type 0 where
  a_key : {c : ColumnRef} {ts rest : Tokens} → IsColumn c ts rest
      → IsGroupOperand (plain (column c)) ts rest
  a_call : {c : CallTree} {ts rest : Tokens} → IsAgg c ts rest → IsGroupOperand (call c) ts rest
  a_constant : {n : ℕ} {rest : Tokens} → IsGroupOperand
      (plain (number (record { negative = false; size = n }))) (token.Number n ∷ rest) rest
  a_negative : {n : ℕ} {rest : Tokens}
      → IsGroupOperand (plain (number (record { negative = true; size = n })))
      (token.Sign sign.Minus ∷ token.Number n ∷ rest) rest
  a_text : {t : List ℕ} {rest : Tokens} → IsGroupOperand (text t) (token.Text t ∷ rest) rest
  a_null_constant : {rest : Tokens} → IsGroupOperand null (token.Keyword keyword.Null ∷ rest) rest

-- op = "=" | "==" | "!=" | "<>" | "<" | "<=" | ">" | ">="
pub data IsComparison : CompareOp → Sign → Type 0 where
  equal : IsComparison order.Eq sign.Equal
  not_equal : IsComparison order.Ne sign.NotEqual
  less : IsComparison order.Lt sign.Less
  less_equal : IsComparison order.Le sign.LessEqual
  greater : IsComparison order.Gt sign.Greater
  greater_equal : IsComparison order.Ge sign.GreaterEqual

-- Conditions, over any operands and a relation of what spells them: WHERE and HAVING have each its
-- own.
mutual
  -- cond = conj {OR conj}
  pub data IsCond {S : Type 0} (Op : S → Tokens → Tokens → Type 0) : CondForm S → Tokens → Tokens
      → Type 0 where
    one_conj : {c : CondForm S} {ts rest : Tokens} → IsConj Op c ts rest → IsCond Op c ts rest
    disjunction : {a b : CondForm S} {ts mid rest : Tokens}
        → IsCond Op a ts (token.Keyword keyword.Or ∷ mid) → IsConj Op b mid rest
        → IsCond Op (either a b) ts rest

  -- conj = neg {AND neg}
  pub data IsConj {S : Type 0} (Op : S → Tokens → Tokens → Type 0) : CondForm S → Tokens → Tokens
      → Type 0 where
    one_neg : {c : CondForm S} {ts rest : Tokens} → IsNeg Op c ts rest → IsConj Op c ts rest
    conjunction : {a b : CondForm S} {ts mid rest : Tokens}
        → IsConj Op a ts (token.Keyword keyword.And ∷ mid) → IsNeg Op b mid rest
        → IsConj Op (both a b) ts rest

  -- neg = NOT neg | "(" cond ")" | operand op operand | operand IS [NOT] NULL
  pub data IsNeg {S : Type 0} (Op : S → Tokens → Tokens → Type 0) : CondForm S → Tokens → Tokens
      → Type 0 where
    negation : {c : CondForm S} {ts rest : Tokens} → IsNeg Op c ts rest
        → IsNeg Op (negated c) (token.Keyword keyword.Not ∷ ts) rest
    enclosed_cond : {c : CondForm S} {ts rest : Tokens}
        → IsCond Op c ts (token.Sign sign.Close ∷ rest)
        → IsNeg Op c (token.Sign sign.Open ∷ ts) rest
    comparison : {o : CompareOp} {s : Sign} {a b : S} {ts mid rest : Tokens}
        → Op a ts (token.Sign s ∷ mid) → IsComparison o s → Op b mid rest
        → IsNeg Op (compare o a b) ts rest
    is_null : {a : S} {ts rest : Tokens}
        → Op a ts (token.Keyword keyword.Is ∷ token.Keyword keyword.Null ∷ rest)
        → IsNeg Op (null_test a) ts rest
    is_not_null : {a : S} {ts rest : Tokens}
        → Op a ts (token.Keyword keyword.Is ∷ token.Keyword keyword.Not ∷ token.Keyword keyword.Null
        ∷ rest) → IsNeg Op (negated (null_test a)) ts rest

-- x {separator x}
pub data AreListed {X : Type 0} (Is : X → Tokens → Tokens → Type 0) (separator : Token) : List X
    → Tokens → Tokens → Type 0 where
  last_one : {x : X} {ts rest : Tokens} → Is x ts rest → AreListed Is separator (x ∷ []) ts rest
  one_more : {x : X} {xs : List X} {ts mid rest : Tokens}
      → Is x ts (separator ∷ mid) → AreListed Is separator xs mid rest
      → AreListed Is separator (x ∷ xs) ts rest

-- expr | agg
pub data IsWhat : ItemWhat → Tokens → Tokens → Type 0 where
  an_expression : {e : Expression} {ts rest : Tokens} → IsExpr e ts rest
      → IsWhat (plain_item e) ts rest
  an_agg : {c : CallTree} {ts rest : Tokens} → IsAgg c ts rest → IsWhat (call_item c) ts rest

-- item = (expr | agg) [AS name]
pub data IsSelectItem : ItemTree → Tokens → Tokens → Type 0 where
  unnamed : {w : ItemWhat} {ts rest : Tokens} → IsWhat w ts rest
      → IsSelectItem (record { what = w; alias = None }) ts rest
  named : {w : ItemWhat} {name : List ℕ} {ts rest : Tokens}
      → IsWhat w ts (token.Keyword keyword.As ∷ token.Name name ∷ rest)
      → IsSelectItem (record { what = w; alias = Some name }) ts rest

-- items = "*" | item {"," item}
pub data IsSelection : Selection → Tokens → Tokens → Type 0 where
  all_columns : {rest : Tokens} → IsSelection star (token.Sign sign.Star ∷ rest) rest
  some_items : {is : List ItemTree} {ts rest : Tokens}
      → AreListed IsSelectItem (token.Sign sign.Comma) is ts rest → IsSelection (listed is) ts rest

-- table = name | "numbers" "(" number ")"
pub data IsTableRef : TableRef → Tokens → Tokens → Type 0 where
  named_table : {name : List ℕ} {rest : Tokens}
      → IsTableRef (table.Named name) (token.Name name ∷ rest) rest
  numbers_table : {n : ℕ} {rest : Tokens}
      → IsTableRef (table.Numbers n)
      (token.Name (codes "numbers") ∷ token.Sign sign.Open ∷ token.Number n ∷ token.Sign sign.Close
      ∷ rest) rest

-- pair = column ("=" | "==") column
pub data IsPair : NamePair → Tokens → Tokens → Type 0 where
  equal_columns : {a b : ColumnRef} {ts mid rest : Tokens}
      → IsColumn a ts (token.Sign sign.Equal ∷ mid) → IsColumn b mid rest
      → IsPair (record { left = a; right = b }) ts rest

-- JOIN table ON pair {AND pair}
pub data IsJoined : Join → Tokens → Tokens → Type 0 where
  table_on : {t : TableRef} {ps : List NamePair} {ts mid rest : Tokens}
      → IsTableRef t ts (token.Keyword keyword.On ∷ mid)
      → AreListed IsPair (token.Keyword keyword.And) ps mid rest
      → IsJoined (record { table = t; pairs = ps }) (token.Keyword keyword.Join ∷ ts) rest

-- [[INNER] JOIN table ON pair {AND pair}]
pub data IsJoin : Option Join → Tokens → Tokens → Type 0 where
  no_join : {rest : Tokens} → IsJoin None rest rest
  join_of : {j : Join} {ts rest : Tokens} → IsJoined j ts rest → IsJoin (Some j) ts rest
  inner_join : {j : Join} {ts rest : Tokens} → IsJoined j ts rest
      → IsJoin (Some j) (token.Keyword keyword.Inner ∷ ts) rest

-- [keyword x]: a clause that may be left out. It is nothing where its keyword doesn't stand, and
-- else what stands behind that.
pub data IsClause {A X : Type 0} (word : Token) (nothing : A) (some : X → A)
    (Is : X → Tokens → Tokens → Type 0) : A → Tokens → Tokens → Type 0 where
  no_clause : {rest : Tokens} → IsClause word nothing some Is nothing rest rest
  clause_of : {x : X} {ts rest : Tokens} → Is x ts rest
      → IsClause word nothing some Is (some x) (word ∷ ts) rest

-- [WHERE cond]
abbrev pub IsFilter : Option Condition → Tokens → Tokens → Type 0
IsFilter = IsClause (token.Keyword keyword.Where) None Some (IsCond IsOperand)

-- BY x {"," x}
pub data AreBy {X : Type 0} (Is : X → Tokens → Tokens → Type 0) : List X → Tokens → Tokens
    → Type 0 where
  listed_by : {xs : List X} {ts rest : Tokens} → AreListed Is (token.Sign sign.Comma) xs ts rest
      → AreBy Is xs (token.Keyword keyword.By ∷ ts) rest

-- [GROUP BY column {"," column}]
abbrev pub AreKeys : List ColumnRef → Tokens → Tokens → Type 0
AreKeys = IsClause (token.Keyword keyword.Group) [] (λ keys. keys) (AreBy IsColumn)

-- [HAVING hcond]
abbrev pub IsHaving : Option Condition → Tokens → Tokens → Type 0
IsHaving = IsClause (token.Keyword keyword.Having) None Some (IsCond IsGroupOperand)

-- key = name [ASC | DESC]
pub data IsOrderKey : OrderKey → Tokens → Tokens → Type 0 where
  unstated : {name : List ℕ} {rest : Tokens}
      → IsOrderKey (record { name = name; descending = false }) (token.Name name ∷ rest) rest
  ascending : {name : List ℕ} {rest : Tokens}
      → IsOrderKey (record { name = name; descending = false })
      (token.Name name ∷ token.Keyword keyword.Asc ∷ rest) rest
  descending : {name : List ℕ} {rest : Tokens}
      → IsOrderKey (record { name = name; descending = true })
      (token.Name name ∷ token.Keyword keyword.Desc ∷ rest) rest

-- [ORDER BY key {"," key}]
abbrev pub IsOrder : List OrderKey → Tokens → Tokens → Type 0
IsOrder = IsClause (token.Keyword keyword.Order) [] (λ keys. keys) (AreBy IsOrderKey)

pub data IsNumber : ℕ → Tokens → Tokens → Type 0 where
  number_of : {n : ℕ} {rest : Tokens} → IsNumber n (token.Number n ∷ rest) rest

-- number [OFFSET number]
pub data IsSpan : Span → Tokens → Tokens → Type 0 where
  span_of : {n m : ℕ} {ts rest : Tokens}
      → IsClause (token.Keyword keyword.Offset) 0 (λ skip. skip) IsNumber m ts rest
      → IsSpan (record { count = n; skip = m }) (token.Number n ∷ ts) rest

-- [LIMIT number [OFFSET number]]
abbrev pub IsLimit : Option Span → Tokens → Tokens → Type 0
IsLimit = IsClause (token.Keyword keyword.Limit) None Some IsSpan

-- FROM table [[INNER] JOIN ..] [WHERE cond]
pub data IsSource : TableRef → Option Join → Option Condition → Tokens → Tokens → Type 0 where
  source_of : {t : TableRef} {j : Option Join} {f : Option Condition} {ts behind more rest : Tokens}
      → IsTableRef t ts behind → IsJoin j behind more → IsFilter f more rest
      → IsSource t j f (token.Keyword keyword.From ∷ ts) rest

-- [GROUP BY ..] [HAVING hcond] [ORDER BY ..] [LIMIT ..]
pub data IsShaping : List ColumnRef → Option Condition → List OrderKey → Option Span → Tokens
    → Tokens → Type 0 where
  shaping_of : {ks : List ColumnRef} {h : Option Condition} {os : List OrderKey} {l : Option Span}
      {ts behind more last rest : Tokens} → AreKeys ks ts behind → IsHaving h behind more
      → IsOrder os more last → IsLimit l last rest → IsShaping ks h os l ts rest

-- query = SELECT items FROM table [[INNER] JOIN table ON pair {AND pair}] [WHERE cond] [GROUP BY
-- column {"," column}]
--     [HAVING hcond] [ORDER BY key {"," key}] [LIMIT number [OFFSET number]]
pub data IsQuery : QueryTree → Tokens → Tokens → Type 0 where
  select_query : {q : QueryTree} {ts mid behind rest : Tokens}
      → IsSelection q.items ts mid
      → IsSource q.from q.join q.filter mid behind
      → IsShaping q.keys q.having q.order q.limit behind rest
      → IsQuery q (token.Keyword keyword.Select ∷ ts) rest

-- text = query [";"]
pub data IsText : QueryTree → Tokens → Type 0 where
  bare : {q : QueryTree} {ts : Tokens} → IsQuery q ts [] → IsText q ts
  with_semicolon : {q : QueryTree} {ts : Tokens} → IsQuery q ts (token.Sign sign.Semicolon ∷ [])
      → IsText q ts

-- the query spells the text
pub record Spells (q : Query) (bytes : List ℕ) : Type 0 where
  pub tokens : Tokens
  pub are : tokens_of bytes ≡ Some tokens
  pub text : IsText (query_tree q) tokens
