-- The types of the columns and arguments of a query's groups.
use Rattle.plan_laws.proofs.Imports.{List, None, Option, Some, StateCall, [], ap, false, length, map, refl, sums_texts, ℕ, ◌<◌, ◌∷◌, ◌≡◌, AggCall, AggOp, All, All-cons, All-head, All-nil, All-tail, AllByRecursion, ColumnType, Expr, Grouped, HasCalls, IsCall, IsItem, IsTypedArgument, IsTypedCall, IsTypedShape, Plain, Shape, argument_types, call_arguments, column_items, state_call, type_of, type_at}
use Rattle.query_model.specs.declared.query.AggOp.TheVariants as agg
use Rattle.query_model.specs.declared.query.ExprOf.TheVariants as expr

-- ---- calls

-- Each call has an argument unless it is `count`. The arguments are items, and have the types that
-- a partial aggregate takes.
abbrev pub CallsFit : List ColumnType → List (AggCall ℕ) → Type 0
CallsFit types calls = AllByRecursion IsCall calls × All (IsItem types) (call_arguments calls)
    × (argument_types (map (state_call types) calls)
    ≡ map (λ e. type_of e types) (call_arguments calls))

pub calls-fit : (types : List ColumnType) (calls : List (AggCall ℕ)) → All (IsTypedCall types) calls
    → CallsFit types calls
calls-fit types [] h = (tt, All-nil (IsItem types), refl)
calls-fit types (call ∷ calls) h =
    go call.op call.arg (All-head (IsTypedCall types) call calls h)
    (calls-fit types calls (All-tail (IsTypedCall types) call calls h))
  where
    more : (e : Expr) → IsItem types e → All (IsItem types) (call_arguments calls)
        → All (IsItem types) (e ∷ call_arguments calls)
    more e t m = All-cons (IsItem types) e (call_arguments calls) t m

    go : (op : AggOp) (arg : Option Expr) → IsTypedArgument types op arg → CallsFit types calls
        → CallsFit types (record { op = op; arg = arg } ∷ calls)
    go agg.Count None t m = ((refl, m.0), m.1, m.2)
    go agg.Count (Some e) t m = absurd t
    go agg.Sum (Some e) t m = ((refl, m.0), more e t.0 m.1, ap (λ l. type_of e types ∷ l) m.2)
    go op None t m = absurd t
    go op (Some e) t m = ((refl, m.0), more e t m.1, ap (λ l. type_of e types ∷ l) m.2)

-- no typed call sums texts
pub sums-no-texts : (types : List ColumnType) (calls : List (AggCall ℕ))
    → All (IsTypedCall types) calls
    → All (λ (call : StateCall). sums_texts call ≡ false) (map (state_call types) calls)
sums-no-texts types [] h = All-nil (λ (call : StateCall). sums_texts call ≡ false)
sums-no-texts types (call ∷ calls) h =
    All-cons (λ (call : StateCall). sums_texts call ≡ false) (state_call types call) _
    (go call.op call.arg (All-head (IsTypedCall types) call calls h))
    (sums-no-texts types calls (All-tail (IsTypedCall types) call calls h))
  where
    go : (op : AggOp) (arg : Option Expr) → IsTypedArgument types op arg
        → sums_texts (state_call types (record { op = op; arg = arg })) ≡ false
    go agg.Sum (Some e) t = t.1
    go agg.Sum None t = absurd t
    go agg.Count arg t = refl
    go agg.Min arg t = refl
    go agg.Max arg t = refl

pub has-calls : (types : List ColumnType) (s : Shape) → IsTypedShape types s → HasCalls s
has-calls types (Plain items) t = tt
has-calls types (Grouped g) t = (calls-fit types g.calls t.calls).0

-- ---- columns

pub columns-fit : (types : List ColumnType) (cs : List ℕ) → All (λ c. c < length types) cs
    → All (IsItem types) (column_items cs)
columns-fit types [] h = All-nil (IsItem types)
columns-fit types (c ∷ cs) h =
    let P : ℕ → Type 0 = (λ c. c < length types) in
    All-cons (IsItem types) (expr.Column c) _
    (record { typed = All-head P c cs h; not_plain = refl })
    (columns-fit types cs (All-tail P c cs h))

pub columns-are : (types : List ColumnType) (cs : List ℕ)
    → map (type_at types) cs ≡ map (λ e. type_of e types) (column_items cs)
unfolding type_of
columns-are types [] = refl
columns-are types (c ∷ cs) = ap (λ l. type_at types c ∷ l) (columns-are types cs)
