-- The meaning of a list of nodes: what passes where nobody closes an input.
use Rattle.std.specs.Prelude.{List, [], length, true, ℕ, ◌++◌, ◌+◌, ◌<◌, ◌∷◌, ◌≡◌}
use Rattle.plan_laws.specs.Prelude.{AllZip, Kind, Row}
use Rattle.plan_laws.specs.declared.nodes.DraftNode.{DraftNode}
use Rattle.plan_laws.specs.Drafts.{given_by, taken_by}
use Rattle.plan_laws.specs.Runs.{AllInputsDone, PlanRuns, if_kind, pulled_by_nodes}
use Rattle.plan_laws.specs.Streams.{Flow, RowsOfSources, Stream, flow_rows, flows_of, rows_together}
use Rattle.plan_laws.specs.Roles.{MakesRows, is_certain, is_needed}

-- ---- the meaning of a list of nodes

pub record MeansNode (parts : RowsOfSources) (node : DraftNode) (before after : List Flow) : Type
    0 where
  pub outs : List (List Row)
  pub makes : MakesRows parts node.spec (flow_rows (taken_by node before)) outs
  pub count : length outs ≡ node.gives
  pub are : after ≡ given_by node (flows_of (is_certain parts node.spec (taken_by node before))
      (is_needed parts node.spec (taken_by node before)) outs) before

abbrev pub NodesMean : RowsOfSources → List DraftNode → List Flow → List Flow → Type 0
NodesMean parts [] before after = after ≡ before
NodesMean parts (node ∷ nodes) before after =
    (middle : List Flow) × MeansNode parts node before middle
    × NodesMean parts nodes middle after

-- What passed is the first of what could pass. It is all of it where it was finished, and then it
-- is certain. Where a row passed, what that needs is there.
pub record IsFront (s : Stream) (f : Flow) : Type 0 where
  pub rest : List Row
  pub is : s.rows ++ rest ≡ f.rows
  pub all : s.done ≡ true → s.rows ≡ f.rows
  pub certain : s.done ≡ true → f.certain ≡ true
  pub needs : 0 < length s.rows → f.needs ≡ true

abbrev pub meant_by : (parts : RowsOfSources) → Kind
    → (nodes : List DraftNode) (before after : List Flow)
    → NodesMean parts nodes before after → ℕ
meant_by parts k [] before after m = 0
meant_by parts k (node ∷ nodes) before after m =
    if_kind k node (length (rows_together (flow_rows (taken_by node before)))) + meant_by parts k
    nodes
    m.0 after m.2

-- One moment of a run as a part of the plan's meaning.
pub record Completes (parts : RowsOfSources) (nodes : List DraftNode) (before : List Flow)
    (start after : List Stream) (r : PlanRuns parts nodes start after) : Type 0 where
  pub flows : List Flow
  pub means : NodesMean parts nodes before flows
  pub fronts : AllZip IsFront after flows
  pub counted : AllInputsDone parts nodes start after r → (k : Kind)
      → pulled_by_nodes parts k nodes start after r ≡ meant_by parts k nodes before flows means
