-- A run of a list of nodes, over what stands at the open ends.
use Rattle.std.specs.Prelude.{List, [], cond, length, map, suc, true, ℕ, ⊤, ◌++◌, ◌+◌, ◌<◌, ◌∷◌, ◌≡◌}
use Rattle.plan_laws.specs.Prelude.{All, AllZip, ColumnType, Kind, Row, Wire, kind_of, same_kind}
use Rattle.plan_laws.specs.declared.nodes.DraftNode.{DraftNode}
use Rattle.plan_laws.specs.declared.nodes.NodePort.{NodePort}
use Rattle.plan_laws.specs.Drafts.{consumer_of, given_by, no_draft, ports_of, producer_of, taken_by, with_nodes}
use Rattle.plan_laws.specs.Roles.{Gives}
use Rattle.proc_api.specs.SpecContracts.{IsNoLimit}
use Rattle.plan_laws.specs.Streams.{RowsOfSources, Stream, all_done, rows_together, stream_rows}

-- ---- a run of a list of nodes, over what stands at the open ends

-- an input has the first of what was pushed, and is done only where the port was finished and all
-- was pulled
pub record Pulls (i s : Stream) : Type 0 where
  pub rest : List Row
  pub is : i.rows ++ rest ≡ s.rows
  pub all : i.done ≡ true → i.rows ≡ s.rows
  pub finished : i.done ≡ true → s.done ≡ true
  pub later : List (List ColumnType)
  pub types_are : i.types ++ later ≡ s.types

pub record RunsNode (parts : RowsOfSources) (node : DraftNode) (before after : List Stream) : Type
    0 where
  pub ins : List Stream
  pub outs : List Stream
  pub pulls : AllZip Pulls ins (taken_by node before)
  pub gives : Gives parts node.spec ins outs
  pub count : length outs ≡ node.gives
  pub are : after ≡ given_by node outs before

abbrev pub PlanRuns : RowsOfSources → List DraftNode → List Stream → List Stream → Type 0
PlanRuns parts [] before after = after ≡ before
PlanRuns parts (node ∷ nodes) before after =
    (middle : List Stream) × RunsNode parts node before middle
    × PlanRuns parts nodes middle after

-- each node has an output, and none is a limit
abbrev pub IsOpenNode : DraftNode → Type 0
IsOpenNode node = (0 < node.gives) × IsNoLimit node.spec

abbrev pub if_kind : Kind → DraftNode → ℕ → ℕ
if_kind k node n = cond (same_kind (kind_of node.spec) k) n 0

-- by the nodes of a kind together, in a run and where nobody closes an input
abbrev pub pulled_by_nodes : (parts : RowsOfSources) → Kind
    → (nodes : List DraftNode) (before after : List Stream) → PlanRuns parts nodes before after → ℕ
pulled_by_nodes parts k [] before after r = 0
pulled_by_nodes parts k (node ∷ nodes) before after r =
    if_kind k node (length (rows_together (stream_rows r.1.ins))) + pulled_by_nodes parts k nodes
    r.0 after r.2

-- each input of each node is done
abbrev pub AllInputsDone : (parts : RowsOfSources)
    → (nodes : List DraftNode) (before after : List Stream)
    → PlanRuns parts nodes before after → Type 0
AllInputsDone parts [] before after r = ⊤
AllInputsDone parts (node ∷ nodes) before after r = (all_done r.1.ins ≡ true)
    × AllInputsDone parts nodes r.0 after r.2

-- ---- the lists of a graph

-- What was pulled at each input and pushed at each output of the nodes, the first of which is node
-- n: each node gives what its kind gives.
abbrev pub EachGives : RowsOfSources → ℕ → List DraftNode → (pulled pushed : NodePort → Stream)
    → Type 0
EachGives parts n [] pulled pushed = ⊤
EachGives parts n (node ∷ nodes) pulled pushed =
    Gives parts node.spec (map pulled (ports_of n 0 node.takes))
    (map pushed (ports_of n 0 node.gives)) × EachGives parts (suc n) nodes pulled pushed

-- at each wire, what was pulled is the first of what was pushed
abbrev pub AllPull : (pulled pushed : NodePort → Stream) → List Wire → Type 0
AllPull pulled pushed wires =
    All (λ (w : Wire). Pulls (pulled (consumer_of w)) (pushed (producer_of w))) wires

-- The rows that the nodes of a kind pulled together; the first node is node n.
abbrev pub pulled_rows : Kind → ℕ → List DraftNode → (NodePort → Stream) → ℕ
pulled_rows k n [] pulled = 0
pulled_rows k n (node ∷ nodes) pulled =
    if_kind k node (length (rows_together (stream_rows (map pulled (ports_of n 0 node.takes)))))
    + pulled_rows k (suc n) nodes pulled

-- One moment of a run: what each node gave, and what was pulled along each wire.
pub record HasRun (parts : RowsOfSources) (nodes : List DraftNode) (pulled pushed : NodePort
    → Stream) : Type 0 where
  pub each : EachGives parts 0 nodes pulled pushed
  pub along : AllPull pulled pushed (with_nodes nodes no_draft).wires
