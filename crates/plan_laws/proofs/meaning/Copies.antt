-- Expressions and conditions of one form have the same values and the same types.
use Rattle.plan_laws.proofs.Imports.{All-cons, All-head, All-tail, AreComparable, ColumnType, Cond, Expr, IsItem, IsTyped, IsTypedCond, IsTypedOperand, Operand, Row, cond_form, formula, is_null_operand, is_text, item_row, operand_form, operand_type, operand_value, plain_of, truth_of, type_of, value_of, All, List, [], ap, ap₂, arith, map, refl, sym, ℕ, ◌∙◌, ◌∷◌, ◌≡◌}
use Rattle.query_model.specs.declared.query.ExprOf.TheVariants as expr
use Rattle.query_model.specs.declared.query.Operand.TheVariants as operand
use Rattle.query_model.specs.declared.query.CondOf.TheVariants as cond'

-- ---- expressions

pub record SameExpr (a b : Expr) : Type 0 where
  pub value : (row : Row) → value_of a row ≡ value_of b row
  pub type : (types : List ColumnType) → type_of a types ≡ type_of b types
  pub plain : plain_of a ≡ plain_of b
  pub typed : (types : List ColumnType) → IsTyped types a → IsTyped types b

itself : (a b : Expr) → a ≡ b → SameExpr a b
itself a b e = search (arith)

pub exprs-same : (a b : Expr) → formula a ≡ formula b → SameExpr a b
unfolding value_of type_of
exprs-same (expr.Column c) (expr.Column d) e = itself _ _ (let same : c ≡ d = cc in cc)
exprs-same (expr.Number m) (expr.Number n) e = itself _ _ (let same : m ≡ n = cc in cc)
exprs-same (expr.Arith' o p a q b) (expr.Arith' u r c s d) e =
    search (arith, exprs-same a c cc, exprs-same b d cc)
exprs-same a b e = absurd (cc)

-- ---- items

pub record SameItems (xs ys : List Expr) : Type 0 where
  pub row : (row : Row) → item_row xs row ≡ item_row ys row
  pub types : (types : List ColumnType)
      → map (λ e. type_of e types) xs ≡ map (λ e. type_of e types) ys
  pub typed : (types : List ColumnType) → All (IsItem types) xs → All (IsItem types) ys

pub items-same : (xs ys : List Expr) → map formula xs ≡ map formula ys → SameItems xs ys
items-same [] [] e = record { row = λ row. refl; types = λ types. refl; typed = λ types h. h }
items-same (x ∷ xs) (y ∷ ys) e =
    let first : SameExpr x y = exprs-same x y cc in
    let rest : SameItems xs ys = items-same xs ys cc in
    record {
      row = λ row. ap₂ (λ v vs. v ∷ vs) (first.value row) (rest.row row);
      types = λ types. ap₂ (λ v vs. v ∷ vs) (first.type types) (rest.types types);
      typed = λ types h.
          let here = All-head (IsItem types) x xs h in
          let plain = first.plain in
          let not_plain = here.not_plain in
          All-cons (IsItem types) y ys
          (record { typed = first.typed types here.typed; not_plain = cc })
          (rest.typed types (All-tail (IsItem types) x xs h));
    }
items-same xs ys e = absurd (cc)

-- ---- conditions

record SameOperand (a b : Operand ℕ) : Type 0 where
  pub value : (row : Row) → operand_value a row ≡ operand_value b row
  pub type : (types : List ColumnType) → operand_type a types ≡ operand_type b types
  pub null : is_null_operand a ≡ is_null_operand b
  pub typed : (types : List ColumnType) → IsTypedOperand types a → IsTypedOperand types b

operands-same : (a b : Operand ℕ) → operand_form a ≡ operand_form b → SameOperand a b
unfolding operand_value
operands-same (operand.Plain x) (operand.Plain y) e = grind (arith, exprs-same x y cc)
operands-same (operand.Text x) (operand.Text y) e = search (arith)
operands-same (operand.Agg x) (operand.Agg y) e = search (arith)
operands-same operand.Null operand.Null e = search (arith)
operands-same a b e = absurd (cc)

comparable-same : (types : List ColumnType) (a b c d : Operand ℕ) → SameOperand a c
    → SameOperand b d → AreComparable types a b → AreComparable types c d
comparable-same types a b c d s t h m n =
    sym (ap is_text (s.type types)) ∙ h (s.null ∙ m) (t.null ∙ n) ∙ ap is_text (t.type types)

pub record SameCond (a b : Cond) : Type 0 where
  pub truth : (row : Row) → truth_of a row ≡ truth_of b row
  pub typed : (types : List ColumnType) → IsTypedCond types a → IsTypedCond types b

pub conds-same : (a b : Cond) → cond_form a ≡ cond_form b → SameCond a b
unfolding truth_of
conds-same (cond'.Compare o a b) (cond'.Compare u c d) e =
    let s = operands-same a c cc in
    let t = operands-same b d cc in
    record {
      truth = λ row. grind (arith, s.value row, t.value row);
      typed = λ types h.
          (s.typed types h.0, t.typed types h.1, comparable-same types a b c d s t h.2);
    }
conds-same (cond'.And' p a q b) (cond'.And' r c s d) e =
    search (arith, conds-same a c cc, conds-same b d cc)
conds-same (cond'.Or' p a q b) (cond'.Or' r c s d) e =
    search (arith, conds-same a c cc, conds-same b d cc)
conds-same (cond'.Not' p a) (cond'.Not' r c) e = search (arith, conds-same a c cc)
conds-same (cond'.IsNull a) (cond'.IsNull c) e = grind (arith, operands-same a c cc)
conds-same a b e = absurd (cc)
