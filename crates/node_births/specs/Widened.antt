-- A node gets new ports, and one that grew is due once it has all of them.
use Rattle.std.specs.Prelude.{Bool, List, length, ℕ, ◌+◌, ◌≡◌}
use Rattle.std.specs.List.{count_by}
use Rattle.exec_laws.specs.Names.{Grew}
use Rattle.exec_laws.specs.Prelude.{BoxPicture, GrowthForm}
use Rattle.exec_table.specs.Seats.{Identity, IsSeatOf, view}
use Rattle.exec_laws.specs.declared.edges.DueCall.TheVariants as call
use Rattle.exec_laws.specs.declared.edges.NodeMark.{NodeMark}
use Rattle.exec_laws.specs.declared.edges.NodeStatus.TheVariants as node
use Rattle.node_births.specs.MorePorts.{Gains, GainsPorts, end_count}
use Rattle.node_cells.specs.Cells.{cell_ports}
use Rattle.node_cells.specs.Stored.{AwaitsBirth}
use Rattle.node_cells.specs.Turns.{IsAtWork, IsDue}
use Rattle.node_cells.specs.declared.cell.NodeCell.{NodeCell}
use Rattle.port_word.specs.declared.flags.Wire.{Wire}
use Rattle.proc_api.specs.Ports.{is_me}
use Rattle.proc_api.specs.declared.growth.Edge.{Edge}

-- how many of the growth's edges begin at the node that grows
abbrev pub grown_outputs : GrowthForm → ℕ
grown_outputs g = count_by (λ (e : Edge). is_me e.from.who) g.edges

module _ {P : Type 0} (seen : P → BoxPicture) (t : Identity) where
  -- the node c, whose box was asked by what the graph grows, grew by g, and has got new ports
  pub record IsGrowing (g : GrowthForm) (c d : NodeCell P) : Type 0 where
    pub asked : IsAtWork seen t call.Expand c
    pub grew : Grew g (seen c.processor) (seen d.processor)
    pub seat : IsSeatOf t d.seat
    pub gains : Gains (cell_ports c) (cell_ports d)

  -- The node got all its inputs among the wires, or all its outputs. One that waits for its birth
  -- waits on, and one that grows grows on.
  pub record GetsPorts (consumer : Bool) (first : ℕ) (wires : List Wire) (old new : NodeCell P)
      : Type 0 where
    pub gains : GainsPorts consumer first wires (end_count consumer wires (view old.seat).number)
        (cell_ports old) (cell_ports new)
    pub awaits : AwaitsBirth seen t old → AwaitsBirth seen t new
    pub grows : (g : GrowthForm) (c : NodeCell P) → IsGrowing g c old → IsGrowing g c new

  -- it has all of its growth
  pub record HasWidened (g : GrowthForm) (c d : NodeCell P) : Type 0 where
    pub growing : IsGrowing g c d
    pub inputs : length d.ports.inputs.items
        ≡ length c.ports.inputs.items + count_by (λ (e : Edge). is_me e.to.who) g.edges
    pub outputs : length d.ports.outputs.items
        ≡ length c.ports.outputs.items + grown_outputs g

  -- then it may be prepared again
  abbrev pub WidenedLaw : Type 0
  WidenedLaw = (g : GrowthForm) (c d : NodeCell P) (k : NodeMark) → HasWidened g c d
      → k.state ≡ node.Due → IsDue seen t (record d { mark = k })
