-- Specs and growths apart from where their boxes lie, since a copy has boxes of its own.
use Rattle.proc_api.specs.Prelude.{Edge, ExprOf, Formula, GrowNode, Growth, Kind, List, Spec, formula, kind_of, map, ℕ}
use Rattle.query_model.specs.Formulas.{CondForm, OperandForm, cond_form}

-- what has boxes by its form, and every other spec as it is
pub data SpecForm : Type 0 where
  filter : CondForm (OperandForm ℕ) → SpecForm
  expression : List (Formula ℕ) → SpecForm
  unboxed : Spec → SpecForm

abbrev pub spec_form : Spec → SpecForm
spec_form (Spec.Filter c) = filter (cond_form c)
spec_form (Spec.Expression items) = expression (map (λ (e : ExprOf ℕ). formula e) items)
spec_form s = unboxed s

abbrev pub form_kind : SpecForm → Kind
form_kind (filter c) = Kind.Filter
form_kind (expression items) = Kind.Expression
form_kind (unboxed s) = kind_of s

pub record GrowthForm : Type 0 where
  pub specs : List SpecForm
  pub ranks : List ℕ
  pub edges : List Edge

abbrev pub growth_form : Growth → GrowthForm
growth_form g = record {
  specs = map (λ (n : GrowNode). spec_form n.spec) g.nodes;
  ranks = map (λ (n : GrowNode). n.rank) g.nodes;
  edges = g.edges;
}
