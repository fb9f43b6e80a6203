-- What is read is spelled so.
use Rattle.sql_text.proofs.Imports.{◌≡◌, ℕ, zero, suc, ◌≤◌, true, List, ◌∷◌, length, Option, Some, None, option_and_then, option_map, IfSome, refl, sym, subst, arith, AggOp, ArithOp, CompareOp, aggregate_of, has_argument, Expression, QueryOperand, plain, text, null, compare, both, Tokens, IsColumn, unqualified, qualified, IsExpr, one_term, sum, difference, IsTerm, one_factor, product, IsFactor, a_column, a_number, negative, enclosed, IsAgg, count_rows, count_star, call_over as called_over, an_expr, a_string, IsOperand, IsGroupOperand, a_key, a_call, a_constant, a_negative, a_text, a_null, a_null_constant, IsComparison, equal, not_equal, less, less_equal, greater, greater_equal, IsCond, one_conj, disjunction, IsConj, one_neg, conjunction, IsNeg, negation, enclosed_cond, comparison, is_null, is_not_null, Token, Sign, BinaryOperator, Operator, Parsed, side, truth, Parse, OperandParser, PartParser, SideRules, CondForm, call, sign_joint, operator_of, level, operator_level, if_level, next_operator, if_both, binary_of, side_of, dotted, row_sides, group_sides, row_side_at, closed_at, count_at, call_at, called, call_front, call_or_row, negation_at, null_test_of, first_term, turn_of, joined_at, joined, part_at, plain_side, is_some}
use Rattle.query_model.specs.Formulas.{arith as arithmetic}
use Rattle.query_model.specs.declared.query.AggOp.TheVariants as agg
use Rattle.query_model.specs.declared.query.ArithOp.TheVariants as op
use Rattle.sql_grammar.specs.declared.Token.TheVariants as token
use Rattle.sql_grammar.specs.declared.Keyword.TheVariants as keyword
use Rattle.sql_grammar.specs.declared.Sign.TheVariants as sign
use Rattle.sql_text.specs.declared.term.BinaryOperator.TheVariants as joint
use Rattle.sql_text.specs.declared.term.Operator.TheVariants as operator
use Rattle.sql_text.specs.Terms.{call_over}
use Rattle.sql_text.proofs.Turns.{level_below, none_above_products, tighter}

pub bind : {A B : Type 0} (P : A → Type 0) (Q : B → Type 0) (f : A → Option B) (o : Option A)
    → IfSome o P → ((x : A) → P x → IfSome (f x) Q) → IfSome (option_and_then f o) Q
bind P Q f o h k = grind arith

pub map_some : {A B : Type 0} (P : A → Type 0) (Q : B → Type 0) (f : A → B) (o : Option A)
    → IfSome o P → ((x : A) → P x → Q (f x)) → IfSome (option_map f o) Q
map_some P Q f o h k = grind arith

-- ---- the operator at the front

-- the token of a binary operator
abbrev pub IsJoint : BinaryOperator → Token → Type 0
IsJoint (joint.Arith op.Add) t = t ≡ token.Sign sign.Plus
IsJoint (joint.Arith op.Sub) t = t ≡ token.Sign sign.Minus
IsJoint (joint.Arith op.Mul) t = t ≡ token.Sign sign.Star
IsJoint (joint.Compare o) t = (s : Sign) × (t ≡ token.Sign s) × IsComparison o s
IsJoint joint.And t = t ≡ token.Keyword keyword.And
IsJoint joint.Or t = t ≡ token.Keyword keyword.Or

sign_is : (s : Sign) → IfSome (sign_joint s) (λ j. IsJoint j (token.Sign s))
sign_is s = grind (arith, equal, not_equal, less, less_equal, greater, greater_equal)

abbrev IsOperator : Operator → Token → Type 0
IsOperator (operator.Binary j) t = IsJoint j t
IsOperator operator.Is t = t ≡ token.Keyword keyword.Is

token_is : (t : Token) → IfSome (operator_of t) (λ o. IsOperator o t)
token_is (token.Sign s) =
    map_some _ _ (λ j. operator.Binary j) (sign_joint s) (sign_is s) (λ j is. is)
token_is t = grind arith

-- the operator at the front, where none binds more tightly than bound
record Joins (least bound : ℕ) (ts mid : Tokens) (o : Operator) : Type 0 where
  token : Token
  front : ts ≡ token ∷ mid
  is : IsOperator o token
  low : least ≤ operator_level o
  high : operator_level o ≤ bound

high_level : (bound : ℕ) (ts : Tokens) (o : Operator)
    → if_level (suc bound) ts (Some o) ≡ None → operator_level o ≤ bound
high_level bound ts o none = grind arith

if_level-joins : (least bound : ℕ) (t : Token) (ts : Tokens) (o : Option Operator)
    → IfSome o (λ o. IsOperator o t) → if_level (suc bound) ts o ≡ None
    → IfSome (if_level least ts o) (λ n. Joins least bound (t ∷ ts) n.1 n.0)
if_level-joins least bound t ts o is none = grind (arith, high_level)

next_joins : (least bound : ℕ) (ts : Tokens) → next_operator (suc bound) ts ≡ None
    → IfSome (next_operator least ts) (λ n. Joins least bound ts n.1 n.0)
next_joins least bound ts none = grind (arith, if_level-joins, token_is, operator_of)

-- ---- parts by how tightly they hold together

pub record AsCond {S : Type 0} (Op : S → Tokens → Tokens → Type 0) (tight : ℕ) (c : CondForm S)
    (ts rest : Tokens) : Type 0 where
  pub cond' : IsCond Op c ts rest
  pub conj : 2 ≤ tight → IsConj Op c ts rest
  pub neg : 3 ≤ tight → IsNeg Op c ts rest

a_neg : {S : Type 0} {Op : S → Tokens → Tokens → Type 0} (tight : ℕ) {c : CondForm S}
    {ts rest : Tokens} → IsNeg Op c ts rest → AsCond Op tight c ts rest
a_neg tight n = record { cond' = one_conj (one_neg n); conj = λ i. one_neg n; neg = λ i. n }

-- Op is what spells a side, and IsSide what spells one that holds together so tightly.
module _ {S : Type 0} (Op : S → Tokens → Tokens → Type 0)
    (IsSide : ℕ → S → Tokens → Tokens → Type 0) where
  -- a part that may stand beside an operator of a lower level
  abbrev pub IsPart : ℕ → Parsed S → Tokens → Tokens → Type 0
  IsPart tight (side s) ts rest = IsSide tight s ts rest
  IsPart tight (truth c) ts rest = AsCond Op tight c ts rest

  -- A part, behind which no operator binds so tightly.
  pub record Found (least : ℕ) (v : Parsed S) (ts rest : Tokens) : Type 0 where
    pub is : IsPart least v ts rest
    pub none : next_operator least rest ≡ None

  abbrev pub AreSpelled : PartParser S → Type 0
  AreSpelled inner = (least : ℕ) (ts : Tokens) → least ≤ 7
      → IfSome (inner least ts) (λ r. Found least r.0 ts r.1)

  -- what is told of the sides that are read
  pub record AreSidesSpelled (rules : SideRules S) : Type 0 where
    pub lower : (p q : ℕ) (s : S) (ts rest : Tokens) → p ≤ q → IsSide q s ts rest
        → IsSide p s ts rest
    pub operand : (tight : ℕ) (s : S) (ts rest : Tokens) → IsSide tight s ts rest → Op s ts rest
    pub first : (depth : ℕ) (ts : Tokens)
        → IfSome (rules.first depth ts) (λ r. IsSide 7 r.0 ts r.1)
    pub enclosed : (s : S) (ts rest : Tokens) → rules.encloses s ≡ true
        → IsSide 1 s ts (token.Sign sign.Close ∷ rest)
        → IsSide 7 s (token.Sign sign.Open ∷ ts) rest
    pub calculated : (o : ArithOp) (a b : S) (ts mid rest : Tokens) (t : Token)
        → IsJoint (joint.Arith o) t → IsSide (level (joint.Arith o)) a ts (t ∷ mid)
        → IsSide (suc (level (joint.Arith o))) b mid rest
        → IfSome (rules.calculated o a b) (λ u. IsSide (level (joint.Arith o)) u ts rest)

module _ {S : Type 0} (Op : S → Tokens → Tokens → Type 0)
    (IsSide : ℕ → S → Tokens → Tokens → Type 0) (rules : SideRules S)
    (sides : AreSidesSpelled Op IsSide rules) where
  abbrev Is : ℕ → Parsed S → Tokens → Tokens → Type 0
  Is tight v ts rest = IsPart Op IsSide tight v ts rest

  lower : (p q : ℕ) (v : Parsed S) (ts rest : Tokens) → p ≤ q → Is q v ts rest → Is p v ts rest
  lower p q (side s) ts rest h is = sides.lower p q s ts rest h is
  lower p q (truth c) ts rest h is = grind arith

  closed_spelled : (v : Parsed S) (ts mid : Tokens) → Is 1 v ts mid
      → IfSome (closed_at rules v mid) (λ r. Is 7 r.0 (token.Sign sign.Open ∷ ts) r.1)
  closed_spelled (side s) ts (token.Sign sign.Close ∷ rest) is =
      grind (arith, sides.enclosed s ts rest)
  closed_spelled (truth c) ts (token.Sign sign.Close ∷ rest) is =
      a_neg 7 (enclosed_cond is.cond')
  closed_spelled v ts mid is = grind arith

  negation_spelled : (v : Parsed S) (ts rest : Tokens) → Is 4 v ts rest
      → IfSome (negation_at v rest) (λ r. Is 7 r.0 (token.Keyword keyword.Not ∷ ts) r.1)
  negation_spelled (truth c) ts rest is = a_neg 7 (negation (is.neg (omega arith)))
  negation_spelled (side s) ts rest is = tt

  first_spelled : (depth : ℕ) (inner : PartParser S) → AreSpelled Op IsSide inner → (ts : Tokens)
      → IfSome (first_term rules depth inner ts) (λ r. Is 7 r.0 ts r.1)
  first_spelled depth inner h ts =
      grind (arith, bind, map_some, closed_spelled, negation_spelled, sides.first depth, h)

  -- a part that may be a side of a comparison
  as_operand : (tight : ℕ) (v : Parsed S) (ts rest : Tokens) → Is tight v ts rest
      → IfSome (side_of v) (λ s. Op s ts rest)
  as_operand tight (side s) ts rest is = sides.operand tight s ts rest is
  as_operand tight (truth c) ts rest is = tt

  sides_compared : (o : CompareOp) (v w : Option S) (ts mid rest : Tokens) (s : Sign)
      → IsComparison o s → IfSome v (λ a. Op a ts (token.Sign s ∷ mid))
      → IfSome w (λ b. Op b mid rest)
      → IfSome (if_both (λ l r. truth (compare o l r)) v w) (λ u. Is 4 u ts rest)
  sides_compared o (Some a) (Some b) ts mid rest s is l r = a_neg 4 (comparison l is r)
  sides_compared o _ _ ts mid rest s is l r = tt

  combined_spelled : (j : BinaryOperator) (bound : ℕ) (v w : Parsed S) (ts mid rest : Tokens)
      (t : Token) → IsJoint j t → level j ≤ bound → Is bound v ts (t ∷ mid)
      → Is (suc (level j)) w mid rest
      → IfSome (binary_of rules j v w) (λ u. Is (level j) u ts rest)
  combined_spelled (joint.Arith o) bound (side a) (side b) ts mid rest t is h l r =
      map_some _ _ _ (rules.calculated o a b)
      (sides.calculated o a b ts mid rest t is
      (sides.lower (level (joint.Arith o)) bound a ts (t ∷ mid) h l) r) (λ u is. is)
  combined_spelled (joint.Arith o) bound _ _ ts mid rest t is h l r = tt
  combined_spelled (joint.Compare o) bound v w ts mid rest t is h l r =
      sides_compared o (side_of v) (side_of w) ts mid rest is.0 is.2
      (subst (λ (x : Token). IfSome (side_of v) (λ a. Op a ts (x ∷ mid))) is.1
      (as_operand bound v ts (t ∷ mid) l))
      (as_operand 5 w mid rest r)
  combined_spelled joint.And bound v w ts mid rest t is h l r =
      grind (arith, both, conjunction, one_conj)
  combined_spelled joint.Or bound v w ts mid rest t is h l r = grind (arith, disjunction)

  -- A part that holds together at least so tightly, and behind which no operator binds more tightly
  -- than it does.
  record IsTurned (low : ℕ) (v : Parsed S) (ts rest : Tokens) : Type 0 where
    tight : ℕ
    high : low ≤ tight
    is : Is tight v ts rest
    none : next_operator (suc tight) rest ≡ None

  tested : {c : CondForm S} {ts : Tokens} (rest : Tokens) → IsNeg Op c ts rest
      → IsTurned 4 (truth c) ts rest
  tested rest n = record {
    tight = 7;
    high = omega arith;
    is = a_neg 7 n;
    none = tighter 7 8 rest (omega arith) (none_above_products rest);
  }

  tested_spelled : (s : S) (ts mid : Tokens) → Op s ts (token.Keyword keyword.Is ∷ mid)
      → IfSome (null_test_of s mid) (λ r. IsTurned 4 r.0 ts r.1)
  tested_spelled s ts (token.Keyword keyword.Null ∷ rest) is = tested rest (is_null is)
  tested_spelled s ts (token.Keyword keyword.Not ∷ token.Keyword keyword.Null ∷ rest) is =
      tested rest (is_not_null is)
  tested_spelled s ts _ is = tt

  -- what the turns keep: the part at the left, behind which none binds more tightly than bound
  abbrev GoOn : (Parsed S → Tokens → Parse (Parsed S)) → ℕ → Type 0
  GoOn more least = (bound : ℕ) (v : Parsed S) (ts mid : Tokens) → least ≤ bound
      → Is bound v ts mid → next_operator (suc bound) mid ≡ None
      → IfSome (more v mid) (λ r. Found Op IsSide least r.0 ts r.1)

  module _ (right : PartParser S) (h : AreSpelled Op IsSide right) where
    turn_spelled : (o : Operator) (bound : ℕ) (v : Parsed S) (ts mid : Tokens) (t : Token)
        → IsOperator o t → operator_level o ≤ bound → Is bound v ts (t ∷ mid)
        → IfSome (turn_of rules right o v mid) (λ r. IsTurned (operator_level o) r.0 ts r.1)
    turn_spelled (operator.Binary j) bound v ts mid t is high left =
        bind _ _ _ (right (suc (level j)) mid)
        (h (suc (level j)) mid (level_below (operator.Binary j)))
        (λ r found. map_some _ _ _ (binary_of rules j v r.0)
        (combined_spelled j bound v r.0 ts mid r.1 t is high left found.is)
        (λ u part. record { tight = level j; high = omega arith; is = part; none = found.none }))
    turn_spelled operator.Is bound v ts mid t is high left =
        bind _ _ _ (side_of v) (as_operand bound v ts (t ∷ mid) left)
        (λ s spelled. tested_spelled s ts mid
        (subst (λ (x : Token). Op s ts (x ∷ mid)) is spelled))

    joined_at-spelled : (more : Parsed S → Tokens → Parse (Parsed S)) (least : ℕ)
        → GoOn more least → (bound : ℕ) (v : Parsed S) (ts mid : Tokens) → least ≤ bound
        → Is bound v ts mid
        → (o : Option (Operator × Tokens)) → next_operator least mid ≡ o
        → IfSome o (λ n. Joins least bound mid n.1 n.0)
        → IfSome (joined_at rules right more v mid o) (λ r. Found Op IsSide least r.0 ts r.1)
    joined_at-spelled more least go bound v ts mid i is None e joins = grind (arith, lower)
    joined_at-spelled more least go bound v ts mid i is (Some n) e joins =
        bind _ _ _ (turn_of rules right n.0 v n.1)
        (turn_spelled n.0 bound v ts n.1 joins.token joins.is joins.high
        (subst (λ (x : Tokens). Is bound v ts x) joins.front is))
        (λ r turned. go turned.tight r.0 ts r.1 (omega (arith, joins.low, turned.high)) turned.is
        turned.none)

    joined_spelled : (least turns : ℕ) → GoOn (joined rules right least turns) least
    unfolding joined
    joined_spelled least zero bound v ts mid i is none = tt
    joined_spelled least (suc turns) bound v ts mid i is none =
        joined_at-spelled (joined rules right least turns) least (joined_spelled least turns)
        bound v ts mid i is (next_operator least mid) refl (next_joins least bound mid none)

  pub part_spelled : (depth : ℕ) → AreSpelled Op IsSide (part_at rules depth)
  unfolding part_at
  part_spelled zero least ts i = tt
  part_spelled (suc depth) least ts i =
      bind _ _ _ (first_term rules depth (part_at rules depth) ts)
      (first_spelled depth (part_at rules depth) (part_spelled depth) ts)
      (λ p is. joined_spelled (part_at rules depth) (part_spelled depth) least
      (suc (length p.1)) 7 p.0 ts p.1 i is
      (tighter 7 8 p.1 (omega arith) (none_above_products p.1)))

-- ---- expressions and calls

pub record AsExpr (tight : ℕ) (e : Expression) (ts rest : Tokens) : Type 0 where
  pub expr : IsExpr e ts rest
  pub term : 6 ≤ tight → IsTerm e ts rest
  pub factor : 7 ≤ tight → IsFactor e ts rest

abbrev pub AsRow : ℕ → QueryOperand → Tokens → Tokens → Type 0
AsRow tight (plain e) ts rest = AsExpr tight e ts rest
AsRow tight (text t) ts rest = ts ≡ token.Text t ∷ rest
AsRow tight (call c) ts rest = ⊥
AsRow tight null ts rest = ts ≡ token.Keyword keyword.Null ∷ rest

abbrev pub AreRows : OperandParser → Type 0
AreRows inner = AreSpelled IsOperand AsRow inner

a_factor : (tight : ℕ) {e : Expression} {ts rest : Tokens} → IsFactor e ts rest
    → AsExpr tight e ts rest
a_factor tight f =
    record { expr = one_term (one_factor f); term = λ k. one_factor f; factor = λ k. f }

pub dotted_spelled : (name : List ℕ) (ts : Tokens)
    → IsColumn (dotted name ts).0 (token.Name name ∷ ts) (dotted name ts).1
dotted_spelled name ts = grind (arith, qualified, unqualified)

row_side_at-spelled : (ts : Tokens) → IfSome (row_side_at ts) (λ r. AsRow 7 r.0 ts r.1)
row_side_at-spelled (token.Name w ∷ ts) = a_factor 7 (a_column (dotted_spelled w ts))
row_side_at-spelled (token.Number n ∷ ts) = a_factor 7 a_number
row_side_at-spelled (token.Sign sign.Minus ∷ token.Number n ∷ ts) = a_factor 7 negative
row_side_at-spelled ts = grind arith

row_enclosed : (s : QueryOperand) (ts rest : Tokens) → is_some (plain_side s) ≡ true
    → AsRow 1 s ts (token.Sign sign.Close ∷ rest) → AsRow 7 s (token.Sign sign.Open ∷ ts) rest
row_enclosed (plain e) ts rest h is = a_factor 7 (enclosed is.expr)
row_enclosed s ts rest h is = grind arith

row_sides-spelled : AreSidesSpelled IsOperand AsRow row_sides
row_sides-spelled = record {
  lower = λ p q s ts rest h is. grind arith;
  operand = λ tight s ts rest is. grind (arith, an_expr, text, a_string, a_null);
  first = λ depth. row_side_at-spelled;
  enclosed = row_enclosed;
  calculated = λ o a b ts mid rest t is l r.
      grind (arith, sum, difference, arithmetic, product, one_term);
}

pub row_spelled : (depth : ℕ) → AreRows (part_at row_sides depth)
row_spelled depth = part_spelled IsOperand AsRow row_sides row_sides-spelled depth

-- ---- calls, and the sides of HAVING

count_spelled : (w : List ℕ) (ts : Tokens) → aggregate_of w ≡ Some agg.Count
    → IfSome (count_at ts) (λ r. IsAgg r.0 (token.Name w ∷ token.Sign sign.Open ∷ ts) r.1)
count_spelled w ts h = grind (arith, count_rows, count_star)

over_spelled : (inner : OperandParser) → AreRows inner → (w : List ℕ) (op : AggOp) (ts : Tokens)
    → aggregate_of w ≡ Some op → has_argument op ≡ true → IfSome (call_over op (inner 5 ts))
    (λ r. IsAgg r.0 (token.Name w ∷ token.Sign sign.Open ∷ ts) r.1)
over_spelled inner h w op ts known has = bind _ _ _ (inner 5 ts) (h 5 ts (omega arith))
    (λ p found. grind (arith, called_over, known, has, found.is))

call_spelled : (inner : OperandParser) → AreRows inner
    → (w : List ℕ) (op : AggOp) (ts : Tokens) → aggregate_of w ≡ Some op
    → IfSome (call_at inner op ts) (λ r. IsAgg r.0 (token.Name w ∷ token.Sign sign.Open ∷ ts) r.1)
call_spelled inner h w op ts known = grind (arith, count_spelled, over_spelled)

-- what is called stands behind a parenthesis
called_is : (w : List ℕ) (ts : Tokens) (c : AggOp × Tokens) → called w ts ≡ Some c
    → (ts ≡ token.Sign sign.Open ∷ c.1) × (aggregate_of w ≡ Some c.0)
called_is w x1 c e = grind arith

-- a call that is found at the front
pub called_spelled : (n : ℕ) (ts : Tokens) (c : AggOp × Tokens) → call_front ts ≡ Some c
    → IfSome (call_at (part_at row_sides n) c.0 c.1) (λ r. IsAgg r.0 ts r.1)
called_spelled n (token.Name w ∷ ts) c e =
    let is = called_is w ts c e in
    subst (λ (x : Tokens). IfSome (call_at (part_at row_sides n) c.0 c.1)
    (λ r. IsAgg r.0 (token.Name w ∷ x) r.1)) (sym is.0)
    (call_spelled (part_at row_sides n) (row_spelled n) w c.0 c.1 is.1)
called_spelled n _ c e = absurd cc

abbrev pub AsGroup : ℕ → QueryOperand → Tokens → Tokens → Type 0
AsGroup tight s ts rest = IsGroupOperand s ts rest

group_row : (ts : Tokens) → IfSome (row_side_at ts) (λ r. IsGroupOperand r.0 ts r.1)
group_row (token.Name w ∷ ts) = a_key (dotted_spelled w ts)
group_row ts = grind (arith, a_constant, a_negative, a_text, a_null_constant)

group_side : (n : ℕ) (ts : Tokens)
    → IfSome (group_sides.first n ts) (λ r. IsGroupOperand r.0 ts r.1)
group_side n ts = go (call_front ts) refl
  where
    go : (o : Option (AggOp × Tokens)) → call_front ts ≡ o
        → IfSome (call_or_row (part_at row_sides n) ts o) (λ r. IsGroupOperand r.0 ts r.1)
    go None e = group_row ts
    go (Some c) e = map_some _ _ _ (call_at (part_at row_sides n) c.0 c.1)
        (called_spelled n ts c e) (λ r is. a_call is)

group_sides-spelled : AreSidesSpelled IsGroupOperand AsGroup group_sides
group_sides-spelled = record {
  lower = λ p q s ts rest h is. is;
  operand = λ tight s ts rest is. is;
  first = group_side;
  enclosed = λ s ts rest is. absurd cc;
  calculated = λ o a b ts mid rest t is l r. tt;
}

pub group_spelled : (depth : ℕ) → AreSpelled IsGroupOperand AsGroup (part_at group_sides depth)
group_spelled depth = part_spelled IsGroupOperand AsGroup group_sides group_sides-spelled depth
