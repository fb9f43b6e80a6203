-- Nodes of one form make the same graph and give the same.
use Rattle.plan_laws.proofs.Imports.{List, Some, [], ap, arith, drop, get_or, length, map, refl, subst, suc, sym, ℕ, ◌+◌, ◌∙◌, ◌∷◌, ◌≡◌, ◌≤◌, AllFitEnds, ColumnType, Draft, DraftNode, FitsInput, NodePort, Spec, SpecForm, cond_form, every-weaker, formula, kind_of, ports_of, ranks_after, ranks_with, spec_form, unboxed, with_node, with_nodes, RowsOfSources, Stream, Gives, Types, FitFrom, MakesType, GivesIf, EachGivesIf, NodeForm, node_form, forms}
use Rattle.query_model.specs.declared.processor_spec.Spec.TheVariants as spec
use Rattle.plan_laws.proofs.meaning.Copies.{conds-same, items-same}

-- ---- specs

abbrev pub SameSpec : Spec → Spec → Type 0
SameSpec (spec.Filter c) (spec.Filter d) = cond_form c ≡ cond_form d
SameSpec (spec.Expression items) (spec.Expression others) = map formula items ≡ map formula others
SameSpec s t = s ≡ t

-- the spec of a form that has no box, or else this one
spec_of : Spec → SpecForm → Spec
spec_of other = λ f. elim f as (λ g. Spec) [ unboxed s ↦ s | _ ↦ other ]

pub same-spec : (s t : Spec) → spec_form s ≡ spec_form t → SameSpec s t
unfolding spec_of
same-spec s t e = grind (arith, spec_of s)

-- copies are of one kind
pub kind-same : (s t : Spec) → spec_form s ≡ spec_form t → kind_of s ≡ kind_of t
kind-same s t e = grind (arith, same-spec)

gives-same : (parts : RowsOfSources) (s t : Spec) (ins outs : List Stream) → SameSpec s t
    → Gives parts s ins outs → Gives parts t ins outs
gives-same parts (spec.Filter c) (spec.Filter d) ins outs e g = grind (arith, conds-same c d e)
gives-same parts (spec.Expression items) (spec.Expression others) ins outs e g =
    grind (arith, items-same items others e)
gives-same parts s t ins outs e g = subst (λ x. Gives parts x ins outs) e g

fits-same : (s t : Spec) (i : ℕ) (types : List ColumnType) → SameSpec s t
    → FitsInput (Some s) i types → FitsInput (Some t) i types
fits-same (spec.Filter c) (spec.Filter d) i types e h = (conds-same c d e).typed types h
fits-same (spec.Expression items) (spec.Expression others) i types e h =
    (items-same items others e).typed types h
fits-same s t i types e h = subst (λ x. FitsInput (Some x) i types) e h

makes-same : (s t : Spec) (ins : List Types) (types : Types) → SameSpec s t
    → MakesType s ins types → MakesType t ins types
makes-same (spec.Filter c) (spec.Filter d) ins types e h = h
makes-same (spec.Expression items) (spec.Expression others) ins types e h =
    grind (arith, items-same items others e)
makes-same s t ins types e h = subst (λ x. MakesType x ins types) e h

all-fit-same : (s t : Spec) (i : ℕ) (ins : List Stream) → SameSpec s t → FitFrom s i ins
    → FitFrom t i ins
all-fit-same s t i [] e h = tt
all-fit-same s t i (x ∷ ins) e h =
    grind (arith, every-weaker, fits-same, all-fit-same s t (suc i) ins e h.1)

gives-if-same : (parts : RowsOfSources) (s t : Spec) (ins outs : List Stream) → spec_form s
    ≡ spec_form t → GivesIf parts s ins outs → GivesIf parts t ins outs
gives-if-same parts s t ins outs e g =
    search (arith, same-spec, gives-same, all-fit-same, every-weaker, makes-same)

-- ---- nodes

-- what is true of lists of nodes of the same forms: it is of none, and stays so with a node more
pub by-forms : (P : List DraftNode → List DraftNode → Type 0) → P [] []
    → ((x y : DraftNode) (xs ys : List DraftNode) → node_form x ≡ node_form y → P xs ys
    → P (x ∷ xs) (y ∷ ys))
    → (xs ys : List DraftNode) → forms xs ≡ forms ys → P xs ys
by-forms P none more [] [] e = none
by-forms P none more (x ∷ xs) (y ∷ ys) e = more x y xs ys (ap (λ l. get_or l 0 (node_form x)) e)
    (by-forms P none more xs ys (ap (λ l. drop 1 l) e))
by-forms P none more xs ys e = absurd (cc)

-- a node of the form, with this spec
abbrev bare : Spec → NodeForm → DraftNode
bare s f =
    record { spec = s; rank = f.rank; offset = f.offset; takes = f.takes; gives = f.gives }

-- the nodes make the same graph
pub graphs-same : (xs ys : List DraftNode) (d : Draft) → forms xs ≡ forms ys
    → with_nodes xs d ≡ with_nodes ys d
graphs-same xs ys d e =
    by-forms (λ xs ys. (d : Draft) → with_nodes xs d ≡ with_nodes ys d) (λ d. refl)
    (λ x y xs ys same rest d. ap (λ f. with_nodes xs (with_node (bare x.spec f) d)) same
    ∙ rest (with_node y d)) xs ys e d

-- and fit the same ends
pub fit-same : (xs ys : List DraftNode) (rs : List ℕ) → forms xs ≡ forms ys → AllFitEnds ys rs
    → AllFitEnds xs rs
fit-same xs ys rs e h =
    by-forms (λ xs ys. (rs : List ℕ) → AllFitEnds ys rs → AllFitEnds xs rs) (λ rs h. tt)
    (λ x y xs ys same rest rs h. (
      record {
        in_range = subst (λ (f : NodeForm). f.offset + f.takes ≤ length rs) (sym same) h.0.in_range;
        ranked = grind arith;
        few_inputs = subst (λ (f : NodeForm). f.takes ≤ 32) (sym same) h.0.few_inputs;
        few_outputs = subst (λ (f : NodeForm). f.gives ≤ 16) (sym same) h.0.few_outputs;
      },
      grind arith,
    )) xs ys e rs h

-- and leave the same ranks
pub after-same : (xs ys : List DraftNode) (rs : List ℕ) → forms xs ≡ forms ys
    → ranks_after xs rs ≡ ranks_after ys rs
after-same xs ys rs e =
    by-forms (λ xs ys. (rs : List ℕ) → ranks_after xs rs ≡ ranks_after ys rs) (λ rs. refl)
    (λ x y xs ys same rest rs. ap (λ f. ranks_after xs (ranks_with (bare x.spec f) rs)) same
    ∙ rest (ranks_with y rs)) xs ys e rs

-- and keep the same promises
pub each-same : (parts : RowsOfSources) (pulled pushed : NodePort → Stream) (n : ℕ)
    (xs ys : List DraftNode) → forms xs ≡ forms ys
    → EachGivesIf parts n xs pulled pushed → EachGivesIf parts n ys pulled pushed
each-same parts pulled pushed n xs ys e g =
    let ins = (λ (n k : ℕ). map pulled (ports_of n 0 k)) in
    let outs = (λ (n k : ℕ). map pushed (ports_of n 0 k)) in
    by-forms (λ xs ys. (n : ℕ) → EachGivesIf parts n xs pulled pushed
    → EachGivesIf parts n ys pulled pushed) (λ n g. tt)
    (λ x y xs ys same rest n g. (
      grind (arith, gives-if-same),
      rest (suc n) g.1,
    )) xs ys e n g
