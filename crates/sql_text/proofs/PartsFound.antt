-- What is spelled is read.
use Rattle.sql_text.proofs.Imports.{◌≡◌, ℕ, suc, ◌≤◌, true, List, ◌∷◌, length, Some, None, option_and_then, refl, ap, ◌∙◌, arith, column, AggOp, ColumnRef, CompareOp, aggregate_of, has_argument, Expression, CallTree, QueryOperand, plain, call, Tokens, IsOperand, IsGroupOperand, IsColumn, unqualified, IsExpr, one_term, sum, difference, IsTerm, one_factor, product, IsFactor, a_column, a_number, negative, enclosed, IsAgg, count_rows, count_star, call_over as over, an_expr, a_key, a_call, IsComparison, IsCond, one_conj, disjunction, IsConj, one_neg, conjunction, IsNeg, negation, enclosed_cond, comparison, is_null, is_not_null, Sign, Parsed, side, truth, OperandParser, SideRules, CondForm, row_sides, group_sides, operator_of, if_level, next_operator, dotted, closed_at, call_at, called, negation_at, first_term, part_at}
use Rattle.query_model.specs.declared.query.ArithOp.TheVariants as op
use Rattle.sql_grammar.specs.declared.Token.TheVariants as token
use Rattle.sql_grammar.specs.declared.Sign.TheVariants as sign
use Rattle.sql_text.specs.declared.term.BinaryOperator.TheVariants as joint
use Rattle.sql_text.specs.declared.term.Operator.TheVariants as operator
use Rattle.sql_text.specs.Terms.{call_over}
use Rattle.sql_text.proofs.Behind.{IsShorter, expr_shorter, term_shorter, factor_shorter, operand_shorter, group_shorter, cond_shorter, conj_shorter, neg_shorter}
use Rattle.sql_text.proofs.Turns.{ends_name, if_level-none, none_above_products, tighter, Goes, from_first, onward, turned, deeper}

-- ---- expressions

pub dotted_found : (name : List ℕ) (ts : Tokens) → ends_name ts ≡ true
    → dotted name ts ≡ (record { table = None; name = name }, ts)
dotted_found name ts h = grind arith

-- nothing is called where no parenthesis stands behind the word
pub nothing_called : (w : List ℕ) (ts : Tokens) → ends_name ts ≡ true → called w ts ≡ None
nothing_called w ts h = grind arith

row_column : (n : ℕ) {c : ColumnRef} {ts rest : Tokens} → IsColumn c ts rest
    → ends_name rest ≡ true → first_term row_sides n (part_at row_sides n) ts
    ≡ Some (side (plain (column c)), rest)
row_column n (unqualified {name = name} {rest = rest}) h = grind (arith, dotted_found)
row_column n a h = grind (arith, dotted_found)

group_column : (n : ℕ) {c : ColumnRef} {ts rest : Tokens} → IsColumn c ts rest
    → ends_name rest ≡ true → first_term group_sides n (part_at group_sides n) ts
    ≡ Some (side (plain (column c)), rest)
group_column n (unqualified {name = name} {rest = rest}) h =
    grind (arith, dotted_found, nothing_called)
group_column n a h = grind (arith, dotted_found, nothing_called)

-- What is spelled so is read at each level up to top, where no operator of bar or above follows.
abbrev pub ReadsAs : {S : Type 0} → SideRules S → ℕ → ℕ → Parsed S → Tokens → Tokens → Type 0
ReadsAs rules top bar v ts rest = (n least : ℕ) → least ≤ top → ends_name rest ≡ true
    → next_operator bar rest ≡ None → length ts ≤ suc n → Goes rules n least v ts rest

-- what stands in parentheses
inside_found : {S : Type 0} (rules : SideRules S) (n : ℕ) (v : Parsed S) (ts rest : Tokens)
    → part_at rules n 1 ts ≡ Some (v, token.Sign sign.Close ∷ rest)
    → closed_at rules v (token.Sign sign.Close ∷ rest) ≡ Some (v, rest)
    → first_term rules n (part_at rules n) (token.Sign sign.Open ∷ ts) ≡ Some (v, rest)
inside_found rules n v ts rest read close =
    ap (option_and_then (λ p. closed_at rules p.0 p.1)) read ∙ close

mutual
  factor_found : {e : Expression} {ts rest : Tokens} → IsFactor e ts rest → (n : ℕ)
      → ends_name rest ≡ true → length ts ≤ suc n
      → first_term row_sides n (part_at row_sides n) ts ≡ Some (side (plain e), rest)
  factor_found (a_column c) n h l = row_column n c h
  factor_found a_number n h l = refl
  factor_found negative n h l = refl
  factor_found (enclosed {e = e} {ts = ts} {rest = rest} a) n h l =
      inside_found row_sides n (side (plain e)) ts rest
      (deeper row_sides n (omega arith) (expr_shorter a)
      (λ m i. expr_found a m 1 (omega arith) refl refl i) refl) refl

  term_found : {e : Expression} {ts rest : Tokens} → IsTerm e ts rest
      → ReadsAs row_sides 6 7 (side (plain e)) ts rest
  term_found (one_factor a) n least k h none l = from_first row_sides (factor_found a n h l)
  term_found (product left right) n least k h none l =
      onward row_sides (joint.Arith op.Mul) (term_found left n least k refl refl l) refl k
      (term_shorter left) l (factor_shorter right)
      (λ m i. from_first row_sides (factor_found right m h i)) none refl

  pub expr_found : {e : Expression} {ts rest : Tokens} → IsExpr e ts rest
      → ReadsAs row_sides 5 6 (side (plain e)) ts rest
  expr_found (one_term a) n least k h none l =
      term_found a n least (omega arith) h (none_above_products _) l
  expr_found (sum left right) n least k h none l =
      onward row_sides (joint.Arith op.Add) (expr_found left n least k refl refl l) refl k
      (expr_shorter left) l (term_shorter right)
      (λ m i. term_found right m 6 (omega arith) h (none_above_products _) i) none refl
  expr_found (difference left right) n least k h none l =
      onward row_sides (joint.Arith op.Sub) (expr_found left n least k refl refl l) refl k
      (expr_shorter left) l (term_shorter right)
      (λ m i. term_found right m 6 (omega arith) h (none_above_products _) i) none refl

-- ---- calls

-- a call at the front, and what it is read as behind its parenthesis
pub record Calls (n : ℕ) (c : CallTree) (ts rest : Tokens) : Type 0 where
  pub word : List ℕ
  pub op : AggOp
  pub inside : Tokens
  pub front : ts ≡ token.Name word ∷ token.Sign sign.Open ∷ inside
  pub known : aggregate_of word ≡ Some op
  pub read : call_at (part_at row_sides n) op inside ≡ Some (c, rest)

over_read : (inner : OperandParser) (op : AggOp) (ts : Tokens) → has_argument op ≡ true
    → call_at inner op ts ≡ call_over op (inner 5 ts)
over_read inner op ts h = grind arith

pub agg_found : {c : CallTree} {ts rest : Tokens} → IsAgg c ts rest → (n : ℕ) → length ts ≤ suc n
    → Calls n c ts rest
agg_found (count_rows {w = w} {rest = rest} h) n l = grind arith
agg_found (count_star {w = w} {rest = rest} h) n l = grind arith
agg_found (over {w = w} {op = op} {e = e} {ts = ts} {rest = rest} h k is) n l = record {
  word = w;
  op = op;
  inside = ts;
  front = refl;
  known = h;
  read = over_read (part_at row_sides n) op ts k ∙ ap (call_over op) (deeper row_sides n
      (omega arith) (expr_shorter is) (λ m i. expr_found is m 5 (omega arith) refl refl i) refl);
}

-- a call is read as one in HAVING
call_found : (n : ℕ) (c : CallTree) (ts rest : Tokens) → Calls n c ts rest
    → first_term group_sides n (part_at group_sides n) ts ≡ Some (side (call c), rest)
call_found n c ts rest it = grind arith

-- ---- conditions

operand_found : (s : QueryOperand) (ts rest : Tokens) → IsOperand s ts rest
    → ReadsAs row_sides 5 6 (side s) ts rest
operand_found s ts rest (an_expr e) n least k h none l = expr_found e n least k h none l
operand_found s ts rest _ n least k h none l = from_first row_sides refl

group_found : (s : QueryOperand) (ts rest : Tokens) → IsGroupOperand s ts rest
    → ReadsAs group_sides 5 6 (side s) ts rest
group_found s ts rest (a_key c) n least k h none l = from_first group_sides (group_column n c h)
group_found s ts rest (a_call c) n least k h none l =
    from_first group_sides (call_found n _ _ _ (agg_found c n l))
group_found s ts rest _ n least k h none l = from_first group_sides refl

-- the binary operator of a comparison, behind which a name may stand
comparison_joint : {o : CompareOp} {s : Sign} → IsComparison o s
    → (operator_of (token.Sign s) ≡ Some (operator.Binary (joint.Compare o)))
    × ((ts : Tokens) → ends_name (token.Sign s ∷ ts) ≡ true)
comparison_joint a = grind arith

-- what is told of the sides of comparisons: each is read, and takes a token
pub record AreRead {S : Type 0} (rules : SideRules S)
    (Op : S → Tokens → Tokens → Type 0) : Type 0 where
  pub found : (s : S) (ts rest : Tokens) → Op s ts rest → ReadsAs rules 5 6 (side s) ts rest
  pub shorter : (s : S) (ts rest : Tokens) → Op s ts rest → IsShorter rest ts

module _ {S : Type 0} (rules : SideRules S)
    (Op : S → Tokens → Tokens → Type 0) (sides : AreRead rules Op) where
  mutual
    neg_found : {v : CondForm S} {ts rest : Tokens} → IsNeg Op v ts rest
        → ReadsAs rules 4 4 (truth v) ts rest
    neg_found (negation a) n least k h none l =
        from_first rules (ap (option_and_then (λ p. negation_at p.0 p.1)) (deeper rules n
        (omega arith) (neg_shorter Op sides.shorter a)
        (λ m i. neg_found a m 4 (omega arith) h none i) none))
    neg_found (enclosed_cond {c = v} {ts = ts} {rest = rest} a) n least k h none l =
        from_first rules (inside_found rules n (truth v) ts rest (deeper rules n (omega arith)
        (cond_shorter Op sides.shorter a)
        (λ m i. cond_found a m 1 (omega arith) refl refl i) refl) refl)
    neg_found (comparison {o = o} {s = s} {a = a} {b = b} {ts = ts} {mid = mid} {rest = rest}
        left is right) n least k h none l =
        let joins = comparison_joint is in
        let less = sides.shorter a ts (token.Sign s ∷ mid) left in
        onward rules (joint.Compare o) (sides.found a ts (token.Sign s ∷ mid) left n least
        (omega arith) (joins.1 mid) (ap (if_level 6 mid) joins.0
        ∙ if_level-none 6 mid (operator.Binary (joint.Compare o)) (omega arith)) l)
        joins.0 k less l (sides.shorter b mid rest right)
        (λ m i. sides.found b mid rest right m 5 (omega arith) h
        (tighter 4 6 rest (omega arith) none) i)
        (tighter 4 5 rest (omega arith) none) refl
    neg_found (is_null left) n least k h none l =
        turned rules operator.Is (sides.found _ _ _ left n least (omega arith) refl refl l) refl k
        (omega arith) refl
    neg_found (is_not_null left) n least k h none l =
        turned rules operator.Is (sides.found _ _ _ left n least (omega arith) refl refl l) refl k
        (omega arith) refl

    conj_found : {v : CondForm S} {ts rest : Tokens} → IsConj Op v ts rest
        → ReadsAs rules 2 3 (truth v) ts rest
    conj_found (one_neg a) n least k h none l =
        neg_found a n least (omega arith) h (tighter 3 4 _ (omega arith) none) l
    conj_found (conjunction left right) n least k h none l =
        onward rules joint.And (conj_found left n least k refl refl l) refl k
        (conj_shorter Op sides.shorter left) l (neg_shorter Op sides.shorter right)
        (λ m i. neg_found right m 3 (omega arith) h (tighter 3 4 _ (omega arith) none) i) none refl

    pub cond_found : {v : CondForm S} {ts rest : Tokens} → IsCond Op v ts rest
        → ReadsAs rules 1 2 (truth v) ts rest
    cond_found (one_conj a) n least k h none l =
        conj_found a n least (omega arith) h (tighter 2 3 _ (omega arith) none) l
    cond_found (disjunction left right) n least k h none l =
        onward rules joint.Or (cond_found left n least k refl refl l) refl k
        (cond_shorter Op sides.shorter left) l (conj_shorter Op sides.shorter right)
        (λ m i. conj_found right m 2 (omega arith) h (tighter 2 3 _ (omega arith) none) i) none refl

pub row_sides-read : AreRead row_sides IsOperand
row_sides-read = record { found = operand_found; shorter = operand_shorter }

pub group_sides-read : AreRead group_sides IsGroupOperand
group_sides-read = record { found = group_found; shorter = group_shorter }
