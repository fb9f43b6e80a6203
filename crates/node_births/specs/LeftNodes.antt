-- All nodes as a run of a graph that may have grown leaves them, each by itself, and the graph that
-- they make together.
use Rattle.std.specs.Prelude.{List, None, Option, Some, [], false, flat_map, length, slice_index_or, slice_set, true, ℕ, ◌++◌, ◌<◌, ◌==◌, ◌≡◌, ◌≢◌}
use Rattle.std.specs.List.{list_any, range_with_len}
use Rattle.exec_laws.specs.Births.{AreAllBorn, AreBirths, Birth, births_of, blanks_of, grown_ranks, grown_wires, left_of, reserve_of}
use Rattle.exec_laws.specs.Growths.{growth_flaw}
use Rattle.exec_laws.specs.Names.{HasEdge, IsBorn}
use Rattle.exec_laws.specs.Prelude.{BoxPicture, GrowthForm, Reserve, Wire, holds_node}
use Rattle.exec_laws.specs.declared.growth.Blank.{Blank}
use Rattle.exec_laws.specs.declared.growth.GrowthFlaw.{GrowthFlaw}
use Rattle.graph_checks.specs.Flaws.{flaw_over}
use Rattle.graph_checks.specs.OwnWires.{own_wires}
use Rattle.growth_notes.specs.Rules.{AreFirst}
use Rattle.node_births.specs.OwnBirths.{IsBoxLeft, StandsAmong, born_edges}
use Rattle.node_births.specs.Left.{ReserveForm}
use Rattle.node_cells.specs.Ends.{HasPlaces}
use Rattle.node_cells.specs.declared.stop_cause.StopCause.{StopCause}
use Rattle.node_cells.specs.declared.stop_cause.StopCause.TheVariants as cause
use Rattle.node_ports.specs.Ports.{PortsHold, PortsPicture}
use Rattle.port_word.specs.declared.flags.Port.{Port}
use Rattle.proc_api.specs.Graphs.{IsGraph}
use Rattle.proc_api.specs.Reserves.{AreReserves, AreStarting, reserve_at}
unfoldable use Rattle.exec_laws.specs.Names.{box_at}
unfoldable use Rattle.proc_api.specs.Names.{rank_at, wire_at}

-- ---- the graph before the run

pub record GraphBefore : Type 0 where
  pub ranks : List ℕ
  pub wires : List Wire
  pub reserves : List Reserve
  pub boxes : List BoxPicture

pub record IsGraphBefore (g : GraphBefore) : Type 0 where
  pub graph : IsGraph g.ranks g.wires g.reserves
  pub one_each : length g.boxes ≡ length g.ranks
  pub fit : AreReserves (length g.ranks) (length g.wires) g.wires g.reserves
  pub starting : AreStarting g.reserves g.boxes

-- what node n might grow by
abbrev pub reserve_before : GraphBefore → ℕ → ReserveForm
reserve_before g n = let r : Reserve = reserve_of g.reserves n in record {
  rank = rank_at g.ranks n;
  nodes = length g.boxes;
  left = record { blanks = blanks_of g.boxes [] r.first_node r.nodes; edges = r.edges };
  next_edge = r.first_edge;
}

-- ---- the nodes after it

-- what is left of a node, with the births that it knows of
pub record NodeLeft : Type 0 where
  pub births : List Birth
  pub box : BoxPicture
  pub ports : PortsPicture
  pub reserve : ReserveForm
  pub stopped : Option StopCause

module _ (g : GraphBefore) (nodes : ℕ → NodeLeft) (n : ℕ) where
  -- it stands among the wires of births that have the table's edges from this one on
  abbrev pub StandsFrom : ℕ → Type 0
  StandsFrom first = StandsAmong g.wires first (nodes n).births n (reserve_before g n)
      (nodes n).ports (nodes n).reserve (nodes n).box

  -- It grows by this reserve, and knows of its own births alone.
  pub record GrowsBy (r : Reserve) : Type 0 where
    pub stands : StandsFrom r.first_edge
    pub own : births_of n (nodes n).births ≡ (nodes n).births

  -- The reserve holds it. It knows of the first births of the node that grows, and is born, or
  -- among the blanks that are left to that.
  pub record IsHeldBy (r : Reserve) : Type 0 where
    pub stands : StandsFrom r.first_edge
    pub first : AreFirst (nodes n).births (nodes r.node).births
    pub unborn : (nodes n).box.spec ≡ None
        → list_any (λ (b : Blank). b.node == n) (nodes r.node).reserve.left.blanks ≡ true

  -- No reserve is its, and none holds it: it knows of no births.
  pub record IsAlone : Type 0 where
    pub none : (nodes n).births ≡ []
    pub stands : StandsFrom 0

  pub record IsNodeLeft : Type 0 where
    pub grows : (k : ℕ) → k < length g.reserves → (reserve_at g.reserves k).node ≡ n
        → GrowsBy (reserve_at g.reserves k)
    pub held : (k : ℕ) → k < length g.reserves → holds_node n (reserve_at g.reserves k) ≡ true
        → IsHeldBy (reserve_at g.reserves k)
    pub alone : ((k : ℕ) → k < length g.reserves
        → ((reserve_at g.reserves k).node ≢ n) × (holds_node n (reserve_at g.reserves k) ≡ false))
        → IsAlone
    pub leaves : IsBoxLeft (nodes n).stopped (nodes n).births n (box_at g.boxes n) (nodes n).box
    pub whole : (nodes n).stopped ≢ Some cause.Memory

-- all nodes, with their boxes in order
pub record AreNodesLeft (g : GraphBefore) (nodes : ℕ → NodeLeft) (after : List BoxPicture)
    : Type 0 where
  pub before : IsGraphBefore g
  pub count : length after ≡ length g.boxes
  pub boxes : (n : ℕ) → n < length g.boxes → box_at after n ≡ (nodes n).box
  pub each : (n : ℕ) → n < length g.boxes → IsNodeLeft g nodes n

-- ---- the graph that they make

-- the births of all reserves, in order of these
abbrev pub all_births : GraphBefore → (ℕ → NodeLeft) → List Birth
all_births g nodes = flat_map (λ (r : Reserve). (nodes r.node).births) g.reserves

abbrev pub wires_left : GraphBefore → (ℕ → NodeLeft) → List Wire
wires_left g nodes = grown_wires g.wires (all_births g nodes)

-- the numbers that the wires of the grown graph have in the table, in order
abbrev pub table_edges : GraphBefore → (ℕ → NodeLeft) → List ℕ
table_edges g nodes = range_with_len 0 (length g.wires)
    ++ flat_map (λ (r : Reserve). range_with_len r.first_edge (born_edges (nodes r.node).births))
    g.reserves

-- the number that the wire at this place has in the table
abbrev pub edge_in_table : GraphBefore → (ℕ → NodeLeft) → ℕ → ℕ
edge_in_table g nodes e = slice_index_or (table_edges g nodes) e 0

-- the wires at the ports of node n, once it is born, are at these places among those of the grown
-- graph
pub record HasPortPlaces (g : GraphBefore) (nodes : ℕ → NodeLeft) (n : ℕ) : Type 0 where
  pub inputs : List ℕ
  pub outputs : List ℕ
  pub are : n < length g.boxes → IsBorn (nodes n).box
      → HasPlaces (wires_left g nodes) (edge_in_table g nodes) n inputs outputs (nodes n).ports

-- the node's box keeps a growth with that flaw, by the nodes at its ports and by its reserve
pub record KeepsOwnFlaw (n : ℕ) (f : GrowthFlaw) (growth : GrowthForm) (x : NodeLeft) : Type 0 where
  pub kept : x.box.growth ≡ Some growth
  pub ports : PortsHold x.ports
  pub flawed : flaw_over x.reserve.rank x.reserve.nodes
      (own_wires n x.ports.sources x.ports.targets) x.reserve.left n growth ≡ Some f

-- the boxes, without the last growth of node n's
abbrev pub ungrown_at : List BoxPicture → ℕ → List BoxPicture
ungrown_at boxes n = slice_set boxes n (record (box_at boxes n) { growth = None })

-- The births are those that the boxes keep, and, where the run was stopped for a flaw at a node,
-- those before it. The flaw of a growth, by what its node knows, is that over the grown graph.
pub record IsGraphLeft (g : GraphBefore) (nodes : ℕ → NodeLeft) (after : List BoxPicture)
    : Type 0 where
  pub are : AreBirths g.reserves g.boxes after (all_births g nodes)
  pub graph : IsGraph (grown_ranks g.ranks (all_births g nodes)) (wires_left g nodes) []
  pub all : ((n : ℕ) (f : GrowthFlaw) → n < length g.boxes
      → (nodes n).stopped ≢ Some (cause.Flaw f))
      → AreAllBorn g.boxes after (all_births g nodes)
  pub ungrown : (n : ℕ) (f : GrowthFlaw) → n < length g.boxes
      → (nodes n).stopped ≡ Some (cause.Flaw f)
      → AreBirths g.reserves g.boxes (ungrown_at after n) (all_births g nodes)
  pub flaw : (n : ℕ) (f : GrowthFlaw) (growth : GrowthForm) → n < length g.boxes
      → IsBorn (nodes n).box → KeepsOwnFlaw n f growth (nodes n)
      → growth_flaw (grown_ranks g.ranks (all_births g nodes)) (wires_left g nodes)
      (left_of g.reserves after (all_births g nodes) n) n growth ≡ Some f
  pub ends_born : (e n : ℕ) (p : Port) → HasEdge (wires_left g nodes) n p e → IsBorn (nodes n).box
  pub places : (n : ℕ) → HasPortPlaces g nodes n

abbrev pub GraphLeftLaw : Type 0
GraphLeftLaw = (g : GraphBefore) (nodes : ℕ → NodeLeft) (after : List BoxPicture)
    → AreNodesLeft g nodes after → IsGraphLeft g nodes after
