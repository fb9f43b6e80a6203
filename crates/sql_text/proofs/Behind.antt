-- A spelling takes at least one token of what it begins with.
use Rattle.sql_text.proofs.Imports.{◌<◌, List, ◌∷◌, length, arith, ColumnRef, Join, NamePair, OrderKey, TableRef, Expression, CallTree, QueryOperand, CondForm, ItemWhat, ItemTree, Selection, Tokens, IsColumn, IsExpr, one_term, sum, difference, IsTerm, one_factor, product, IsFactor, a_column, a_number, negative, enclosed, IsAgg, call_over, IsOperand, an_expr, IsGroupOperand, a_key, a_call, IsCond, one_conj, disjunction, IsConj, one_neg, conjunction, IsNeg, negation, enclosed_cond, comparison, is_null, is_not_null, AreListed, last_one, one_more, IsWhat, an_expression, an_agg, IsSelectItem, IsSelection, IsTableRef, IsPair, equal_columns, IsJoined, table_on, IsOrderKey, Token}
use Rattle.sql_grammar.specs.declared.Token.TheVariants as token

abbrev pub IsShorter : Tokens → Tokens → Type 0
IsShorter rest ts = length rest < length ts

pub column_shorter : {c : ColumnRef} {ts rest : Tokens} → IsColumn c ts rest → IsShorter rest ts
column_shorter a = grind arith

mutual
  pub expr_shorter : {e : Expression} {ts rest : Tokens} → IsExpr e ts rest → IsShorter rest ts
  expr_shorter (one_term a) = term_shorter a
  expr_shorter (sum a b) = omega (arith, expr_shorter a, term_shorter b)
  expr_shorter (difference a b) = omega (arith, expr_shorter a, term_shorter b)

  pub term_shorter : {e : Expression} {ts rest : Tokens} → IsTerm e ts rest → IsShorter rest ts
  term_shorter (one_factor a) = factor_shorter a
  term_shorter (product a b) = omega (arith, term_shorter a, factor_shorter b)

  pub factor_shorter : {e : Expression} {ts rest : Tokens} → IsFactor e ts rest → IsShorter rest ts
  factor_shorter (a_column c) = column_shorter c
  factor_shorter a_number = omega arith
  factor_shorter negative = omega arith
  factor_shorter (enclosed e) = omega (arith, expr_shorter e)

pub agg_shorter : {c : CallTree} {ts rest : Tokens} → IsAgg c ts rest → IsShorter rest ts
agg_shorter (call_over h k e) = omega (arith, expr_shorter e)
agg_shorter _ = omega arith

-- the sides of WHERE, and those of HAVING
pub operand_shorter : (s : QueryOperand) (ts rest : Tokens) → IsOperand s ts rest
    → IsShorter rest ts
operand_shorter s ts rest (an_expr e) = expr_shorter e
operand_shorter s ts rest _ = omega arith

pub group_shorter : (s : QueryOperand) (ts rest : Tokens) → IsGroupOperand s ts rest
    → IsShorter rest ts
group_shorter s ts rest (a_key c) = column_shorter c
group_shorter s ts rest (a_call c) = agg_shorter c
group_shorter s ts rest _ = omega arith

module _ {S : Type 0} (Op : S → Tokens → Tokens → Type 0)
    (each : (s : S) (ts rest : Tokens) → Op s ts rest → IsShorter rest ts) where
  mutual
    pub cond_shorter : {c : CondForm S} {ts rest : Tokens} → IsCond Op c ts rest
        → IsShorter rest ts
    cond_shorter (one_conj a) = conj_shorter a
    cond_shorter (disjunction a b) = omega (arith, cond_shorter a, conj_shorter b)

    pub conj_shorter : {c : CondForm S} {ts rest : Tokens} → IsConj Op c ts rest
        → IsShorter rest ts
    conj_shorter (one_neg a) = neg_shorter a
    conj_shorter (conjunction a b) = omega (arith, conj_shorter a, neg_shorter b)

    pub neg_shorter : {c : CondForm S} {ts rest : Tokens} → IsNeg Op c ts rest
        → IsShorter rest ts
    neg_shorter (negation a) = omega (arith, neg_shorter a)
    neg_shorter (enclosed_cond c) = omega (arith, cond_shorter c)
    neg_shorter (comparison {s = s} {a = a} {b = b} {ts = ts} {mid = mid} {rest = rest} l o r) =
        omega (arith, each a ts (token.Sign s ∷ mid) l, each b mid rest r)
    neg_shorter (is_null l) = omega (arith, each _ _ _ l)
    neg_shorter (is_not_null l) = omega (arith, each _ _ _ l)

pub list_shorter : {X : Type 0} (Is : X → Tokens → Tokens → Type 0) (separator : Token)
    → ((x : X) (ts rest : Tokens) → Is x ts rest → IsShorter rest ts)
    → {xs : List X} {ts rest : Tokens} → AreListed Is separator xs ts rest → IsShorter rest ts
list_shorter Is separator each (last_one x) = each _ _ _ x
list_shorter Is separator each (one_more x xs) =
    omega (arith, each _ _ _ x, list_shorter Is separator each xs)

pub what_shorter : {w : ItemWhat} {ts rest : Tokens} → IsWhat w ts rest → IsShorter rest ts
what_shorter (an_expression e) = expr_shorter e
what_shorter (an_agg c) = agg_shorter c

pub item_shorter : {i : ItemTree} {ts rest : Tokens} → IsSelectItem i ts rest → IsShorter rest ts
item_shorter a = grind (arith, what_shorter)

pub selection_shorter : {s : Selection} {ts rest : Tokens} → IsSelection s ts rest
    → IsShorter rest ts
selection_shorter a = grind (arith, list_shorter, item_shorter)

pub table_shorter : {t : TableRef} {ts rest : Tokens} → IsTableRef t ts rest → IsShorter rest ts
table_shorter a = grind arith

pub pair_shorter : {p : NamePair} {ts rest : Tokens} → IsPair p ts rest → IsShorter rest ts
pair_shorter (equal_columns a b) = omega (arith, column_shorter a, column_shorter b)

pub joined_shorter : {j : Join} {ts rest : Tokens} → IsJoined j ts rest → IsShorter rest ts
joined_shorter (table_on t ps) =
    omega (arith, table_shorter t, list_shorter IsPair _ (λ x ts rest p. pair_shorter p) ps)

pub order_key_shorter : {k : OrderKey} {ts rest : Tokens} → IsOrderKey k ts rest
    → IsShorter rest ts
order_key_shorter a = grind arith
