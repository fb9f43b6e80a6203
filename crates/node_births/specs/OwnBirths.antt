-- What a node knows of how the graph grew: the births of its reserve, or the first ones of the
-- reserve that holds it.
use Rattle.std.specs.Prelude.{IsTrue, List, None, Some, [], filter, length, map, not, slice_index_or, sum_by, ⊤, ℕ, ◌+◌, ◌++◌, ◌-◌, ◌<◌, ◌∷◌, ◌≡◌, ◌≢◌, ◌⊎◌}
use mathlib.Core.Option.{some}
use lib.ListN.{get_elem?}
use Rattle.exec_laws.specs.Births.{Birth, HasForm, births_of, form_at, grown_wires, growths_of, is_place, kept_growths}
use Rattle.exec_laws.specs.Growths.{Left, form_kind, places_for}
use Rattle.exec_laws.specs.Names.{HasEdge, IsBorn, IsPort, StaysBox, peer, port_edge}
use Rattle.exec_laws.specs.Prelude.{BoxPicture, GrowthForm, Loads, MayGrow, Wire, input_count, output_count}
use Rattle.exec_laws.specs.declared.growth.Blank.{Blank}
use Rattle.graph_checks.specs.Flaws.{flaw_over}
use Rattle.graph_checks.specs.OwnWires.{own_wires}
use Rattle.node_births.specs.Left.{ReserveForm}
use Rattle.node_births.specs.TableEdges.{EdgeRange, HasWiresOf}
use Rattle.node_cells.specs.declared.stop_cause.StopCause.{StopCause}
use Rattle.node_cells.specs.declared.stop_cause.StopCause.TheVariants as cause
use Rattle.node_ports.specs.Ports.{PortsPicture}
use Rattle.port_word.specs.declared.flags.Port.{Port}
use Rattle.query_model.specs.declared.processor_spec.Spec.{Spec}
use Rattle.std.specs.Prelude.{Option}
unfoldable use Rattle.proc_api.specs.Names.{wire_at}

-- how many edges births have
abbrev pub born_edges : List Birth → ℕ
born_edges births = sum_by (λ (b : Birth). length b.growth.edges) births

-- ---- what is left of a reserve

abbrev pub left_without : Left → List Birth → Left
left_without l births = record {
  blanks = filter (λ (b : Blank). not (is_place births b.node)) l.blanks;
  edges = l.edges - born_edges births;
}

-- the same after births of the node
abbrev pub reserve_after : ReserveForm → List Birth → ReserveForm
reserve_after r births = record {
  rank = r.rank;
  nodes = r.nodes;
  left = left_without r.left births;
  next_edge = r.next_edge + born_edges births;
}

-- ---- births in order

-- another node is at the other end of a wire at that port of node n
pub record HasPeer (wires : List Wire) (n : ℕ) (p : Port) (other : ℕ) : Type 0 where
  pub edge : ℕ
  pub at_port : HasEdge wires n p edge
  pub is : other ≡ peer (wire_at wires edge) p
  pub apart : other ≢ n

-- the nodes at the other ends of all wires at node n, by its inputs and by its outputs
pub record ArePeers (wires : List Wire) (n : ℕ) (sources targets : List ℕ) : Type 0 where
  pub inputs : length sources ≡ input_count wires n
  pub outputs : length targets ≡ output_count wires n
  pub each : (p : Port) → IsPort (length sources) (length targets) p
      → HasPeer wires n p (port_edge sources targets p)

-- The growth of node n had no flaw after the births before it, by the nodes at the ports that it
-- had then in a graph with these wires, and its new nodes took the first blanks that were left.
pub record IsSoundBirth (wires : List Wire) (n : ℕ) (r : ReserveForm) (earlier : List Birth)
    (b : Birth) : Type 0 where
  pub expander : b.expander ≡ n
  pub ranked : length b.growth.ranks ≡ length b.growth.specs
  pub sources : List ℕ
  pub targets : List ℕ
  pub peers : ArePeers (grown_wires wires earlier) n sources targets
  pub none : flaw_over r.rank r.nodes (own_wires n sources targets) (left_without r.left earlier) n
      b.growth ≡ None
  pub places : b.places
      ≡ places_for (map form_kind b.growth.specs) (left_without r.left earlier).blanks r.nodes

abbrev pub AreSoundBirths : List Wire → ℕ → ReserveForm → (earlier births : List Birth) → Type 0
AreSoundBirths wires n r earlier [] = ⊤
AreSoundBirths wires n r earlier (b ∷ births) =
    IsSoundBirth wires n r earlier b × AreSoundBirths wires n r (earlier ++ b ∷ []) births

-- ---- the node's box

-- one of the births made a new node node n, whose box was loaded by what that names, and visits
-- left it so
pub record WasBorn (births : List Birth) (n : ℕ) (p q : BoxPicture) : Type 0 where
  pub number : ℕ
  pub birth : Birth
  pub among : get_elem? births number ≡ some birth
  pub place : ℕ
  pub in_range : place < length birth.places
  pub at_place : slice_index_or birth.places place 0 ≡ n
  pub spec : Spec
  pub loaded : BoxPicture
  pub loads : Loads p spec loaded
  pub form : HasForm (Some spec) (form_at birth.growth.specs place)
  pub stays : StaysBox loaded q

-- What visits leave of the growths that a lawful box keeps: those of its births, and no other,
-- unless the run was stopped for a flaw, before which it had grown by nothing.
abbrev pub GrowthsLeft : Option StopCause → List GrowthForm → BoxPicture → BoxPicture → Type 0
GrowthsLeft None own p q = IsTrue q.lawful → kept_growths q ≡ kept_growths p ++ own
GrowthsLeft (Some (cause.Fault f)) own p q =
    IsTrue q.lawful → kept_growths q ≡ kept_growths p ++ own
GrowthsLeft (Some (cause.Flaw f)) own p q = IsTrue q.lawful → kept_growths p ++ own ≡ []
GrowthsLeft (Some cause.Memory) own p q = ⊤

-- what visits leave of the box of node n, which knows of these births
pub record IsBoxLeft (o : Option StopCause) (births : List Birth) (n : ℕ)
    (p q : BoxPicture) : Type 0 where
  pub born : IsBorn p → StaysBox p q
  pub unborn : p.spec ≡ None → (q ≡ p) ⊎ WasBorn births n p q
  pub growth : GrowthsLeft o (growths_of n births) p q
  pub may_grow : (k : ℕ) (b : Birth) → get_elem? births k ≡ some b → b.expander ≡ n
      → IsTrue q.lawful → MayGrow q.spec q.files (Some b.growth)

-- ---- the node's ports and its reserve

-- The wires of the table that may end at a node: those of the graph, and those of births that
-- follow each other from an edge on.
abbrev pub graph_range : List Wire → EdgeRange
graph_range wires = record { first = 0; wires = wires }

abbrev pub births_range : ℕ → List Birth → EdgeRange
births_range first births =
    record { first = first; wires = grown_wires [] births }

-- The ports of node n have the wires of the graph and of the births that it knows of, in a table
-- in which these have the edges from `first` on, and once it is born it has all of these wires that
-- end at it. What is left of its reserve is what its own births leave.
pub record StandsAmong (wires : List Wire) (first : ℕ) (births : List Birth) (n : ℕ)
    (named : ReserveForm) (ports : PortsPicture) (reserve : ReserveForm) (box : BoxPicture)
    : Type 0 where
  pub number : ports.node.number ≡ n
  pub wired : HasWiresOf (graph_range wires) (births_range first births) ports
  pub ins : IsBorn box → length ports.inputs ≡ input_count (grown_wires wires births) n
  pub outs : IsBorn box → length ports.outputs ≡ output_count (grown_wires wires births) n
  pub reserve_is : reserve ≡ reserve_after named (births_of n births)
  pub sound : AreSoundBirths wires n named [] (births_of n births)
