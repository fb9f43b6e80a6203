use Rattle.node_cells.proofs.Imports.{subst, sym}
use Rattle.node_cells.proofs.new_cells.ends_of.Goals as goal
use Rattle.node_cells.specs.NewCells.{HasEdgeAt}

pub edge_at-e-requires : goal.edge_at-e-requires
edge_at-e-requires c = subst (HasEdgeAt c.args.wires.now c.args.n)
    (sym c.port_of_side-port.ensures) (c.requires.each c.loop-k.k c.loop-k-test.true)
