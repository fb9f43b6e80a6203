use Rattle.node_cells.proofs.Imports.{arith}
use Rattle.node_cells.proofs.NewCells.{edge-found}
use Rattle.node_cells.proofs.new_cells.edge_at.Goals as goal

pub returns : goal.returns
returns c = absurd (edge-found c.args.wires.now c.args.n c.args.port c.requires
    (λ d lt. c.loop-e.invariant d (omega (arith, lt))))
