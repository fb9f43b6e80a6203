-- What analysis asks of a query holds of each query that is read: WHERE has no call, HAVING has the
-- operands of groups, and each call has its argument.
use Rattle.sql_text.proofs.Imports.{◌≡◌, List, [], ◌∷◌, map, flat_map, Option, None, Some, option_map, is_some, All, All-nil, All-cons, All-head, All-tail, All-append, All-weaker, operands_of, item_calls, calls_of, IsNoCall, HasItsArgument, IsAnalysable, AggCall, ColumnRef, CondOf, ExprOf, Operand, Item, Items, Query, CallTree, QueryOperand, Condition, ItemTree, ItemWhat, Selection, QueryTree, item_tree, Tokens, IsAgg, IsOperand, IsGroupOperand as IsGroupSide, IsCond, one_conj, disjunction, IsConj, one_neg, conjunction, IsNeg, negation, enclosed_cond, comparison, is_null, is_not_null, AreListed, last_one, one_more, IsSelectItem, IsSelection, all_columns, some_items, IsFilter, IsHaving, no_clause, clause_of, source_of, shaping_of, IsQuery, select_query, IsText, bare, with_semicolon, IsReadFrom, ℕ, ◌∙◌, arith}
use Rattle.query_model.specs.Formulas.{argument_form, call, call_form, column, cond_form, null, number, operand_form, plain, sides_in, sides_of, text}
use Rattle.query_model.specs.Formulas.{arith as calculated}
use Rattle.query_model.specs.Names.{cond_operands, listed, takes_argument, MayBeGroupOperand}
use Rattle.query_model.specs.Trees.{call_item, items_in, plain_item, selection}
use Rattle.query_model.specs.declared.query.Items.TheVariants as items
use Rattle.query_model.proofs.TypedQueries.{forms-are-sides}
use Rattle.std.specs.Prelude.{⊤}
use Rattle.sql_grammar.specs.declared.Sign.TheVariants as sign
use Rattle.sql_grammar.specs.declared.Token.TheVariants as token

-- ---- the tree that is spelled

abbrev HasArgument : CallTree → Type 0
HasArgument c = is_some c.arg ≡ takes_argument c.op

abbrev IsRowForm : QueryOperand → Type 0
IsRowForm (plain e) = ⊤
IsRowForm (text t) = ⊤
IsRowForm (call c) = ⊥
IsRowForm null = ⊤

abbrev IsGroupForm : QueryOperand → Type 0
IsGroupForm (plain (column c)) = ⊤
IsGroupForm (plain (number n)) = ⊤
IsGroupForm (plain (calculated op a b)) = ⊥
IsGroupForm (text t) = ⊤
IsGroupForm (call c) = HasArgument c
IsGroupForm null = ⊤

abbrev IsItemForm : ItemWhat → Type 0
IsItemForm (plain_item e) = ⊤
IsItemForm (call_item c) = HasArgument c

abbrev IsItemTree : ItemTree → Type 0
IsItemTree i = IsItemForm i.what

agg_argument : {c : CallTree} {ts rest : Tokens} → IsAgg c ts rest → HasArgument c
agg_argument is = grind arith

row_side : (s : QueryOperand) (ts rest : Tokens) → IsOperand s ts rest → IsRowForm s
row_side s ts rest a = grind arith

group_side : (s : QueryOperand) (ts rest : Tokens) → IsGroupSide s ts rest → IsGroupForm s
group_side s ts rest a = grind (arith, agg_argument)

module _ (Op : QueryOperand → Tokens → Tokens → Type 0) (P : QueryOperand → Type 0)
    (each : (s : QueryOperand) (ts rest : Tokens) → Op s ts rest → P s) where
  mutual
    unfolding sides_of

    cond_sides : {c : Condition} {ts rest : Tokens} → IsCond Op c ts rest → All P (sides_of c)
    cond_sides (one_conj a) = conj_sides a
    cond_sides (disjunction a b) = All-append P _ _ (cond_sides a) (conj_sides b)

    conj_sides : {c : Condition} {ts rest : Tokens} → IsConj Op c ts rest → All P (sides_of c)
    conj_sides (one_neg a) = neg_sides a
    conj_sides (conjunction a b) = All-append P _ _ (conj_sides a) (neg_sides b)

    neg_sides : {c : Condition} {ts rest : Tokens} → IsNeg Op c ts rest → All P (sides_of c)
    neg_sides (negation a) = neg_sides a
    neg_sides (enclosed_cond a) = cond_sides a
    neg_sides (comparison {a = a} {b = b} l o r) =
        All-cons P a (b ∷ []) (each _ _ _ l) (All-cons P b [] (each _ _ _ r) (All-nil P))
    neg_sides (is_null l) = All-cons P _ [] (each _ _ _ l) (All-nil P)
    neg_sides (is_not_null l) = All-cons P _ [] (each _ _ _ l) (All-nil P)

item_argument : {i : ItemTree} {ts rest : Tokens} → IsSelectItem i ts rest → IsItemTree i
item_argument a = grind (arith, agg_argument)

items_arguments : {is : List ItemTree} {ts rest : Tokens}
    → AreListed IsSelectItem (token.Sign sign.Comma) is ts rest → All IsItemTree is
items_arguments (last_one i) = All-cons IsItemTree _ [] (item_argument i) (All-nil IsItemTree)
items_arguments (one_more i is) = All-cons IsItemTree _ _ (item_argument i) (items_arguments is)

record IsAnalysableTree (t : QueryTree) : Type 0 where
  items : All IsItemTree (items_in t.items)
  filter : All IsRowForm (sides_in t.filter)
  having : All IsGroupForm (sides_in t.having)

query_sides : {t : QueryTree} {ts rest : Tokens} → IsQuery t ts rest → IsAnalysableTree t
query_sides (select_query items (source_of t j f) (shaping_of k h o l)) =
    record { items = of_items items; filter = of_filter f; having = of_having h }
  where
    of_items : {s : Selection} {ts rest : Tokens} → IsSelection s ts rest
        → All IsItemTree (items_in s)
    of_items all_columns = All-nil IsItemTree
    of_items (some_items is) = items_arguments is

    of_filter : {f : Option Condition} {ts rest : Tokens} → IsFilter f ts rest
        → All IsRowForm (sides_in f)
    of_filter no_clause = All-nil IsRowForm
    of_filter (clause_of c) = cond_sides IsOperand IsRowForm row_side c

    of_having : {f : Option Condition} {ts rest : Tokens} → IsHaving f ts rest
        → All IsGroupForm (sides_in f)
    of_having no_clause = All-nil IsGroupForm
    of_having (clause_of c) = cond_sides IsGroupSide IsGroupForm group_side c

text_sides : {t : QueryTree} {ts : Tokens} → IsText t ts → IsAnalysableTree t
text_sides (bare q) = query_sides q
text_sides (with_semicolon q) = query_sides q

-- ---- a query of the tree

-- the calls of an item
abbrev HasArguments : Item → Type 0
HasArguments i = All HasItsArgument (item_calls i.what)

-- an operand of HAVING whose call has its argument
abbrev IsGroupWith : Operand ColumnRef → Type 0
IsGroupWith o = MayBeGroupOperand o × All HasItsArgument (calls_of o)

-- what holds of what is seen of elements
of_seen : {A C : Type 0} (g : A → C) (P : C → Type 0) (Q : A → Type 0)
    → ((x : A) → P (g x) → Q x) → (xs : List A) → All P (map g xs) → All Q xs
of_seen g P Q back [] all = All-nil Q
of_seen g P Q back (x ∷ xs) all =
    All-cons Q x xs (back x (All-head P (g x) (map g xs) all))
    (of_seen g P Q back xs (All-tail P (g x) (map g xs) all))

of_operands : (P : QueryOperand → Type 0) (Q : Operand ColumnRef → Type 0)
    → ((o : Operand ColumnRef) → P (operand_form o) → Q o) → (c : Option (CondOf ColumnRef))
    → All P (sides_in (option_map cond_form c)) → All Q (operands_of c)
of_operands P Q back None all = All-nil Q
of_operands P Q back (Some c) all =
    of_seen operand_form P Q back (cond_operands c) (rw (forms-are-sides c) all)

no_call : (o : Operand ColumnRef) → IsRowForm (operand_form o) → IsNoCall o
no_call o h = grind arith

one : (c : AggCall ColumnRef) → HasItsArgument c → All HasItsArgument (c ∷ [])
one c h = All-cons HasItsArgument c [] h (All-nil HasItsArgument)

argument : (c : AggCall ColumnRef) → HasArgument (call_form c) → HasItsArgument c
argument c h = same c.arg ∙ h
  where
    same : (a : Option (ExprOf ColumnRef)) → is_some a ≡ is_some (argument_form a)
    same a = grind arith

group_operand : (o : Operand ColumnRef) → IsGroupForm (operand_form o) → IsGroupWith o
group_operand o h = grind (arith, one, argument, call_form)

item_calls_are : (i : Item) → IsItemTree (item_tree i) → HasArguments i
item_calls_are i h = grind (arith, one, argument, call_form)

of_items : (s : Items) → All IsItemTree (items_in (selection s)) → All HasArguments (listed s)
of_items items.Star all = All-nil HasArguments
of_items (items.Listed is) all = of_seen item_tree IsItemTree HasArguments item_calls_are is all

flattened : {A : Type 0} (f : A → List (AggCall ColumnRef)) (xs : List A)
    → All (λ x. All HasItsArgument (f x)) xs → All HasItsArgument (flat_map f xs)
flattened f [] h = All-nil HasItsArgument
flattened f (x ∷ xs) h =
    All-append HasItsArgument (f x) (flat_map f xs)
    (All-head (λ x. All HasItsArgument (f x)) x xs h)
    (flattened f xs (All-tail (λ x. All HasItsArgument (f x)) x xs h))

-- what is read may be analysed
pub analysable_of_read : (q : Query) (bytes : List ℕ) → IsReadFrom q bytes → IsAnalysable q
analysable_of_read q bytes read =
    let t = text_sides read.spells.text in
    let having = of_operands IsGroupForm IsGroupWith group_operand q.having t.having in
    record {
      filter = of_operands IsRowForm IsNoCall no_call q.filter t.filter;
      having = All-weaker IsGroupWith MayBeGroupOperand (λ o h. h.0) (operands_of q.having) having;
      calls = All-append HasItsArgument _ _
          (flattened (λ (i : Item). item_calls i.what) (listed q.items) (of_items q.items t.items))
          (flattened calls_of (operands_of q.having)
          (All-weaker IsGroupWith _ (λ o h. h.1) (operands_of q.having) having));
    }
