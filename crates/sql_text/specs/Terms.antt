-- How parts of expressions and conditions are read, from the left. What reads AND, OR, NOT,
-- comparisons, IS and parentheses is over any sides of them, and what is told of these.
use Rattle.std.specs.Prelude.{ℕ, zero, suc, Bool, true, false, nat_le, is_some, if◌then◌else◌, List, [], ◌∷◌, length, Option, Some, None, option_map, option_and_then}
use Rattle.query_model.specs.Formulas.{CondForm, column, number, arith, call_form, cond_form, formula}
use Rattle.query_model.specs.declared.query.ArithOp.{ArithOp}
use Rattle.query_model.specs.declared.query.AggOp.{AggOp}
use Rattle.query_model.specs.declared.query.ColumnRef.{ColumnRef}
use Rattle.query_model.specs.declared.query.ArithOp.TheVariants as op
use Rattle.query_model.specs.declared.query.AggOp.TheVariants as agg
use Rattle.query_model.specs.declared.query.CompareOp.TheVariants as order
use Rattle.sql_grammar.specs.Names.{aggregate_of, Expression, CallTree, QueryOperand, plain, text, call, null, compare, both, either, negated, null_test}
use Rattle.sql_grammar.specs.declared.Token.{Token}
use Rattle.sql_grammar.specs.declared.Keyword.{Keyword}
use Rattle.sql_grammar.specs.declared.Sign.{Sign}
use Rattle.sql_grammar.specs.declared.Token.TheVariants as token
use Rattle.sql_grammar.specs.declared.Keyword.TheVariants as keyword
use Rattle.sql_grammar.specs.declared.Sign.TheVariants as sign
use Rattle.sql_text.specs.declared.term.BinaryOperator.{BinaryOperator}
use Rattle.sql_text.specs.declared.term.BinaryOperator.TheVariants as joint
use Rattle.sql_text.specs.declared.term.Operator.{Operator}
use Rattle.sql_text.specs.declared.term.Operator.TheVariants as operator
use Rattle.sql_text.specs.declared.term.RowSide.{RowSide}
use Rattle.sql_text.specs.declared.term.RowSide.TheVariants as row
use Rattle.sql_text.specs.declared.term.GroupSide.{GroupSide}
use Rattle.sql_text.specs.declared.term.GroupSide.TheVariants as group
use Rattle.sql_text.specs.declared.term.Term.{Term}
use Rattle.sql_text.specs.declared.term.Term.TheVariants as part'

-- a part: a side of a comparison or of IS, or a condition
pub data Parsed (S : Type 0) : Type 0 where
  side : S → Parsed S
  truth : CondForm S → Parsed S

-- what is read, and the tokens behind it
abbrev pub Parse : Type 0 → Type 0
Parse A = Option (A × List Token)

-- ---- what stands behind a part

abbrev pub sign_joint : Sign → Option BinaryOperator
sign_joint sign.Plus = Some (joint.Arith op.Add)
sign_joint sign.Minus = Some (joint.Arith op.Sub)
sign_joint sign.Star = Some (joint.Arith op.Mul)
sign_joint sign.Equal = Some (joint.Compare order.Eq)
sign_joint sign.NotEqual = Some (joint.Compare order.Ne)
sign_joint sign.Less = Some (joint.Compare order.Lt)
sign_joint sign.LessEqual = Some (joint.Compare order.Le)
sign_joint sign.Greater = Some (joint.Compare order.Gt)
sign_joint sign.GreaterEqual = Some (joint.Compare order.Ge)
sign_joint _ = None

abbrev pub keyword_operator : Keyword → Option Operator
keyword_operator keyword.And = Some (operator.Binary joint.And)
keyword_operator keyword.Or = Some (operator.Binary joint.Or)
keyword_operator keyword.Is = Some operator.Is
keyword_operator _ = None

abbrev pub operator_of : Token → Option Operator
operator_of (token.Keyword k) = keyword_operator k
operator_of (token.Sign s) = option_map (λ j. operator.Binary j) (sign_joint s)
operator_of _ = None

-- How tightly an operator binds: those of a condition from 1 on, those of a negation from 4 on,
-- since NOT stands at 3, and those of an expression from 5 on.
abbrev pub level : BinaryOperator → ℕ
level joint.Or = 1
level joint.And = 2
level (joint.Compare o) = 4
level (joint.Arith op.Add) = 5
level (joint.Arith op.Sub) = 5
level (joint.Arith op.Mul) = 6

abbrev pub operator_level : Operator → ℕ
operator_level (operator.Binary j) = level j
operator_level operator.Is = 4

abbrev pub if_level : ℕ → List Token → Option Operator → Option (Operator × List Token)
if_level least ts None = None
if_level least ts (Some o) = if nat_le least (operator_level o) then Some (o, ts) else None

-- the operator at the front, where it binds at least so tightly
abbrev pub next_operator : ℕ → List Token → Option (Operator × List Token)
next_operator least [] = None
next_operator least (t ∷ ts) = if_level least ts (operator_of t)

abbrev pub side_of : {S : Type 0} → Parsed S → Option S
side_of (side s) = Some s
side_of (truth c) = None

abbrev pub condition_of : {S : Type 0} → Parsed S → Option (CondForm S)
condition_of (side s) = None
condition_of (truth c) = Some c

-- the two of them joined, where both are there
abbrev pub if_both : {A B : Type 0} → (A → A → B) → Option A → Option A → Option B
if_both join a b = option_and_then (λ l. option_map (λ r. join l r) b) a

abbrev pub behind_bracket : List Token → Option (List Token)
behind_bracket (token.Sign sign.Close ∷ ts) = Some ts
behind_bracket _ = None

abbrev pub negation_at : {S : Type 0} → Parsed S → List Token → Parse (Parsed S)
negation_at (side s) ts = None
negation_at (truth c) ts = Some (truth (negated c), ts)

-- the operand in front of IS, tested by what stands behind that
abbrev pub null_test_of : {S : Type 0} → S → List Token → Parse (Parsed S)
null_test_of s (token.Keyword keyword.Null ∷ ts) = Some (truth (null_test s), ts)
null_test_of s (token.Keyword keyword.Not ∷ token.Keyword keyword.Null ∷ ts) =
    Some (truth (negated (null_test s)), ts)
null_test_of s _ = None

abbrev pub null_test_at : {S : Type 0} → Parsed S → List Token → Parse (Parsed S)
null_test_at part ts = option_and_then (λ s. null_test_of s ts) (side_of part)

-- what reads a part whose operators bind at least so tightly
abbrev pub PartParser : Type 0 → Type 0
PartParser S = ℕ → List Token → Parse (Parsed S)

-- What is told of sides: which one stands at the front, where neither NOT nor a parenthesis does,
-- what arithmetic makes of two, and which may stand in parentheses. The number bounds how deep
-- parts stand in a side.
pub record SideRules (S : Type 0) : Type 0 where
  pub first : ℕ → List Token → Parse S
  pub calculated : ArithOp → S → S → Option S
  pub encloses : S → Bool

module _ {S : Type 0} (rules : SideRules S) where
  abbrev pub binary_of : BinaryOperator → Parsed S → Parsed S → Option (Parsed S)
  binary_of (joint.Arith o) a b = option_and_then (λ l. option_and_then (λ r.
      option_map (λ s. side s) (rules.calculated o l r)) (side_of b)) (side_of a)
  binary_of (joint.Compare o) a b = if_both (λ l r. truth (compare o l r)) (side_of a) (side_of b)
  binary_of joint.And a b = if_both (λ l r. truth (both l r)) (condition_of a) (condition_of b)
  binary_of joint.Or a b = if_both (λ l r. truth (either l r)) (condition_of a) (condition_of b)

  abbrev pub closed_at : Parsed S → List Token → Parse (Parsed S)
  closed_at (side s) ts = if rules.encloses s
      then option_map (λ rest. (side s, rest)) (behind_bracket ts) else None
  closed_at (truth c) ts = option_map (λ rest. (truth c, rest)) (behind_bracket ts)

  -- a part without operators behind it: a side, what stands in parentheses, or a negation
  abbrev pub first_term : ℕ → PartParser S → List Token → Parse (Parsed S)
  first_term depth inner (token.Keyword keyword.Not ∷ ts) =
      option_and_then (λ p. negation_at p.0 p.1) (inner 4 ts)
  first_term depth inner (token.Sign sign.Open ∷ ts) =
      option_and_then (λ p. closed_at p.0 p.1) (inner 1 ts)
  first_term depth inner ts = option_map (λ s. (side s.0, s.1)) (rules.first depth ts)

  -- what the operator makes of the part at the left
  abbrev pub turn_of : PartParser S → Operator → Parsed S → List Token → Parse (Parsed S)
  turn_of inner (operator.Binary j) left ts =
      option_and_then (λ r. option_map (λ p. (p, r.1)) (binary_of j left r.0))
      (inner (suc (level j)) ts)
  turn_of inner operator.Is left ts = null_test_at left ts

  abbrev pub joined_at : PartParser S → (Parsed S → List Token → Parse (Parsed S)) → Parsed S
      → List Token → Option (Operator × List Token) → Parse (Parsed S)
  joined_at inner more left ts None = Some (left, ts)
  joined_at inner more left ts (Some o) =
      option_and_then (λ p. more p.0 p.1) (turn_of inner o.0 left o.1)

  -- What operators as tight as least make of the part at the left, from the left on. The last
  -- number bounds the turns.
  unfoldable pub joined : PartParser S → ℕ → ℕ → Parsed S → List Token → Parse (Parsed S)
  joined inner least zero left ts = None
  joined inner least (suc turns) left ts =
      joined_at inner (joined inner least turns) left ts (next_operator least ts)

  -- A part whose operators bind at least so tightly. The first number bounds how deep parts stand
  -- in parts; the count of the tokens is always enough.
  unfoldable pub part_at : ℕ → PartParser S
  part_at zero least ts = None
  part_at (suc depth) least ts =
      option_and_then (λ p. joined (part_at depth) least (suc (length p.1)) p.0 p.1)
      (first_term depth (part_at depth) ts)

-- a part apart from where its boxes lie
abbrev pub part_form : {S : Type 0} → (S → QueryOperand) → Term S → Parsed QueryOperand
part_form form (part'.Side s) = side (form s)
part_form form (part'.Condition c) = truth (cond_form c.value)

abbrev pub OperandParser : Type 0
OperandParser = PartParser QueryOperand

-- ---- the sides of WHERE and of the items of SELECT

abbrev pub row_form : RowSide → QueryOperand
row_form (row.Plain e) = plain (formula e.value)
row_form (row.Text t) = text t
row_form row.Null = null

abbrev pub plain_side : QueryOperand → Option Expression
plain_side (plain e) = Some e
plain_side (text t) = None
plain_side (call c) = None
plain_side null = None

abbrev pub plain_operand : Parsed QueryOperand → Option Expression
plain_operand part = option_and_then plain_side (side_of part)

-- the column that begins with the name
abbrev pub dotted : List ℕ → List Token → ColumnRef × List Token
dotted name (token.Sign sign.Dot ∷ token.Name c ∷ ts) = (record { table = Some name; name = c }, ts)
dotted name ts = (record { table = None; name = name }, ts)

abbrev pub column_at : List ℕ → List Token → QueryOperand × List Token
column_at name ts = (plain (column (dotted name ts).0), (dotted name ts).1)

-- a side without operators: a column, a number, a string or NULL
abbrev pub row_side_at : List Token → Parse QueryOperand
row_side_at (token.Name w ∷ ts) = Some (column_at w ts)
row_side_at (token.Number n ∷ ts) =
    Some (plain (number (record { negative = false; size = n })), ts)
row_side_at (token.Sign sign.Minus ∷ token.Number n ∷ ts) =
    Some (plain (number (record { negative = true; size = n })), ts)
row_side_at (token.Text t ∷ ts) = Some (text t, ts)
row_side_at (token.Keyword keyword.Null ∷ ts) = Some (null, ts)
row_side_at _ = None

-- arithmetic is of expressions, and an expression stands in parentheses
abbrev pub row_sides : SideRules QueryOperand
row_sides = record {
  first = λ depth ts. row_side_at ts;
  calculated = λ o a b. if_both (λ l r. plain (arith o l r)) (plain_side a) (plain_side b);
  encloses = λ s. is_some (plain_side s);
}

-- ---- calls

abbrev pub call_tree : AggOp → Option Expression → CallTree
call_tree op arg = record { op = op; arg = arg }

-- "count" "(" ["*"] ")", behind the first parenthesis
abbrev pub count_at : List Token → Parse CallTree
count_at (token.Sign sign.Close ∷ ts) = Some (call_tree agg.Count None, ts)
count_at (token.Sign sign.Star ∷ token.Sign sign.Close ∷ ts) = Some (call_tree agg.Count None, ts)
count_at _ = None

-- a call over an expression that was read, of which the parenthesis is left
abbrev pub over : AggOp → Expression → List Token → Parse CallTree
over op e ts = option_map (λ rest. (call_tree op (Some e), rest)) (behind_bracket ts)

abbrev pub call_over : AggOp → Parse (Parsed QueryOperand) → Parse CallTree
call_over op read =
    option_and_then (λ p. option_and_then (λ e. over op e p.1) (plain_operand p.0)) read

-- a call, behind its first parenthesis
abbrev pub call_at : OperandParser → AggOp → List Token → Parse CallTree
call_at inner agg.Count ts = count_at ts
call_at inner op ts = call_over op (inner 5 ts)

-- the aggregate that a word calls, and the tokens behind its parenthesis
abbrev pub called : List ℕ → List Token → Option (AggOp × List Token)
called w (token.Sign sign.Open ∷ ts) = option_map (λ op. (op, ts)) (aggregate_of w)
called w _ = None

-- the aggregate that is called at the front
abbrev pub call_front : List Token → Option (AggOp × List Token)
call_front (token.Name w ∷ ts) = called w ts
call_front _ = None

-- ---- the sides of HAVING

abbrev pub group_form : GroupSide → QueryOperand
group_form (group.Row s) = row_form s
group_form (group.Call c) = call (call_form c.value)

abbrev pub call_or_row : OperandParser → List Token → Option (AggOp × List Token)
    → Parse QueryOperand
call_or_row inner ts None = row_side_at ts
call_or_row inner ts (Some c) = option_map (λ r. (call r.0, r.1)) (call_at inner c.0 c.1)

-- no arithmetic, and nothing in parentheses
abbrev pub group_sides : SideRules QueryOperand
group_sides = record {
  first = λ depth ts. call_or_row (part_at row_sides depth) ts (call_front ts);
  calculated = λ o a b. None;
  encloses = λ s. false;
}
