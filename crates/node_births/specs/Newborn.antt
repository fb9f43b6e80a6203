-- A node that was just born.
use Rattle.std.specs.Prelude.{None, ◌≡◌}
use Rattle.exec_laws.specs.Prelude.{BoxPicture}
use Rattle.exec_laws.specs.declared.edges.NodeStatus.TheVariants as node
use Rattle.exec_table.specs.Seats.{Identity}
use Rattle.node_cells.specs.Cells.{cell_ports}
use Rattle.node_cells.specs.Turns.{MayBegin}
use Rattle.node_cells.specs.declared.cell.NodeCell.{NodeCell}
use Rattle.node_ports.specs.Actions.{SamePorts}
use Rattle.proc_api.specs.Names.{Loads}
use Rattle.query_model.specs.declared.processor_spec.Spec.{Spec}

-- its box was loaded by this spec, and it may begin, with the ports and the reserve that it has
pub record IsNewborn {P : Type 0} (seen : P → BoxPicture) (t : Identity) (s : Spec)
    (old new : NodeCell P) : Type 0 where
  pub loads : Loads (seen old.processor) s (seen new.processor)
  pub begins : MayBegin seen t new
  pub ports : new.ports ≡ old.ports
  pub same : SamePorts (cell_ports old) (cell_ports new)
  pub reserve : new.reserve ≡ old.reserve
  pub mark : new.mark ≡ record { state = node.Due; last = None }
