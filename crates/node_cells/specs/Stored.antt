-- The cell of a node between two visits of a worker, by what comes next with the node.
use Rattle.std.specs.Prelude.{None, [], false, length, true, ℕ, ◌≡◌}
use Rattle.node_cells.specs.Prelude.{BoxPicture, Identity, IsSeatOf, NodeCell, is_unborn_stage, view}
use Rattle.node_cells.specs.Cells.{cell_ports}
use Rattle.node_cells.specs.Turns.{AtHome, IsAtWork, MayBegin}
use Rattle.node_ports.specs.Ports.{PortsHold, pulled_by, pushed_by}
use Rattle.port_word.specs.Names.{new_picture}
use Rattle.exec_laws.specs.declared.edges.DueCall.TheVariants as call
use Rattle.exec_laws.specs.declared.edges.NodeStatus.{NodeStatus}
use Rattle.exec_laws.specs.declared.edges.NodeStatus.TheVariants as node

-- the cell of a node that is kept for the growth of another, with the ports that it got so far, at
-- which nothing was seen
pub record AwaitsBirth {P : Type 0} (seen : P → BoxPicture) (t : Identity) (c : NodeCell P)
    : Type 0 where
  pub seat : IsSeatOf t c.seat
  pub blank : (seen c.processor).spec ≡ None
  pub ports : PortsHold (cell_ports c)
  pub new_view : c.ports.view
      ≡ new_picture (length c.ports.inputs.items) (length c.ports.outputs.items)
  pub pulled : (i : ℕ) → pulled_by (cell_ports c) i ≡ []
  pub pushed : (o : ℕ) → pushed_by (cell_ports c) o ≡ []
  pub unborn : is_unborn_stage (view c.seat).stage ≡ true
  pub tokens : (view c.seat).state.tokens ≡ 0
  pub owes : (view c.seat).state.owes ≡ []
  pub free : (view c.seat).state.held ≡ false

-- A node that never began may begin. One that rests, or is over, is at home. One between two steps
-- of work with its device, or by which the graph is to grow, is at home and held.
abbrev pub StoredAs : {P : Type 0} → (P → BoxPicture) → Identity → NodeStatus → NodeCell P → Type 0
StoredAs seen t node.Unborn c = AwaitsBirth seen t c
StoredAs seen t node.Due c = MayBegin seen t c
StoredAs seen t node.Resting c = AtHome seen t c
StoredAs seen t (node.AtWork call.Work) c = ⊥
StoredAs seen t (node.AtWork call.Schedule) c = AtHome seen t c × IsAtWork seen t call.Schedule c
StoredAs seen t (node.AtWork call.Expand) c = AtHome seen t c × IsAtWork seen t call.Expand c
StoredAs seen t node.Over c = AtHome seen t c

abbrev pub IsStored : {P : Type 0} → (P → BoxPicture) → Identity → NodeCell P → Type 0
IsStored seen t c = StoredAs seen t c.mark.state c
