-- The law of a cell, which speaks of this cell and its seat alone.
use Rattle.std.specs.Prelude.{IsTrue, [], false, length, true, ◌≡◌}
use Rattle.node_cells.specs.Prelude.{Identity, BoxHolds, BoxPicture, FollowsKept, IsSeatOf, MarkHolds, NodeCell, NodeMark, Begun, is_over_stage, is_unborn_stage, is_waiting}
use Rattle.node_ports.specs.Ports.{PortsHold, PortsPicture, ports_picture, pulled_by, pushed_by}
use Rattle.exec_laws.specs.declared.edges.NodeStatus.TheVariants as node

-- The ports are those of the seat. The box keeps its contract of the chunks that this end pulled
-- and pushed on the edges, with those that wait to be carried out, and may be prepared against its
-- view. Its last answer is borne out as the mark says.
pub record CellNodeHolds (p : BoxPicture) (m : NodeMark) (c : PortsPicture) : Type 0 where
  pub ports : PortsHold c
  pub box : BoxHolds (length c.inputs) (length c.outputs) p (pulled_by c) (pushed_by c)
  pub kept : (m.state ≡ node.Over → IsTrue p.lawful) → FollowsKept p c.view
  pub mark : MarkHolds m.state m.last (length c.inputs) (length c.outputs) p c.view

-- A node at home: nothing waits to be carried out or told, and it has no token. A node that rests
-- has looked at all its updated ports; one that is due a call is held.
pub record IsHome (mark : NodeMark) (c : PortsPicture) : Type 0 where
  pub actions : c.view.actions ≡ []
  pub tokens : c.node.state.tokens ≡ 0
  pub owes : c.node.state.owes ≡ []
  pub waits : is_waiting mark.state ≡ true → c.node.state.held ≡ true
  pub idle : mark.state ≡ node.Resting → c.node.state.held ≡ false
  pub begun : mark.state ≡ node.Resting → c.node.stage ≡ Begun
  pub looked : mark.state ≡ node.Resting → c.node.state.unlooked ≡ []
  pub over : is_over_stage c.node.stage ≡ true → mark.state ≡ node.Over
  pub unborn : is_unborn_stage c.node.stage ≡ true → mark.state ≡ node.Unborn

abbrev pub cell_ports : {P : Type 0} → NodeCell P → PortsPicture
cell_ports c = ports_picture c.ports c.seat

-- the cell of a born node of the table, whether it is at home or in a turn
pub record CellHolds {P : Type 0} (seen : P → BoxPicture) (t : Identity) (c : NodeCell P)
    : Type 0 where
  pub seat : IsSeatOf t c.seat
  pub node : CellNodeHolds (seen c.processor) c.mark (cell_ports c)
