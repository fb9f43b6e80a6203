-- Nodes apart from where the boxes of their specs lie: each lane has a copy of a condition or of
-- expressions.
use Rattle.std.specs.Prelude.{List, map, ℕ}
use Rattle.plan_laws.specs.declared.nodes.DraftNode.{DraftNode}
use Rattle.plan_laws.specs.Prelude.{SpecForm, spec_form}

pub record NodeForm : Type 0 where
  pub spec : SpecForm
  pub rank : ℕ
  pub offset : ℕ
  pub takes : ℕ
  pub gives : ℕ

abbrev pub node_form : DraftNode → NodeForm
node_form n = record {
  spec = spec_form n.spec;
  rank = n.rank;
  offset = n.offset;
  takes = n.takes;
  gives = n.gives;
}

abbrev pub forms : List DraftNode → List NodeForm
forms nodes = map node_form nodes
