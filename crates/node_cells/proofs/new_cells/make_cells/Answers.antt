use Rattle.exec_table.specs.Made.{IsNewTable}
use Rattle.node_cells.proofs.Imports.{arith, length, length-map, subst, ℕ, ◌∙◌}
use Rattle.node_cells.proofs.NewCells.{cells-made, cells-reserve, graph-ports}
use Rattle.node_cells.proofs.NewReserves.{blank-reserve}
use Rattle.node_cells.proofs.new_cells.make_cells.Goals as goal
use Rattle.node_cells.specs.NewCells.{sizes_of}
use Rattle.std.specs.Prelude.{map}

pub new_nodes-requires-clause-ports : goal.new_nodes-requires-clause-ports
new_nodes-requires-clause-ports g c κs within = rw c.as_slice-2.ensures
    (graph-ports (length c.args.boxes.items) c.args.wires.now c.args.reserves.now c.requires.graph)

pub new_nodes-requires-clause-blank : goal.new_nodes-requires-clause-blank
new_nodes-requires-clause-blank g c κs within = grind (arith, blank-reserve, length-map)

pub returns-in-Ok-new_table-clause-cells : goal.returns-in-Ok-new_table-clause-cells
returns-in-Ok-new_table-clause-cells g c = cells-made g.P.Processor.seen c.args.boxes.items
    c.args.ranks.now c.args.wires.now c.args.reserves.now c.args.workers c.in-Ok.nodes.items
    c.in-Ok-new_table.made c.cells_of_table.result c.requires.graph c.requires.starting
    (rw (c.as_slice.ensures, c.as_slice-2.ensures, c.as_slice-3.ensures) at c.in-Ok.ensures.1)
    (subst (λ (n : ℕ). IsNewTable (sizes_of n c.args.wires.now c.args.reserves.now c.args.workers)
    c.in-Ok-new_table.made) (c.len-2.ensures ∙ c.args.boxes.ok.0) c.in-Ok-new_table.ensures)
    c.cells_of_table.ensures.table c.cells_of_table.ensures.root c.cells_of_table.ensures.cells

pub returns-in-Ok-new_table-clause-reserves : goal.returns-in-Ok-new_table-clause-reserves
returns-in-Ok-new_table-clause-reserves g c = grind (
  arith,
  cells-reserve c.args.ranks.now c.args.wires.now c.args.reserves.now
      (map g.P.Processor.seen c.args.boxes.items) c.args.boxes.items c.in-Ok.nodes.items
      c.in-Ok-new_table.made.nodes.items c.cells_of_table.result.cells.items
      (rw (c.as_slice.ensures, c.as_slice-2.ensures, c.as_slice-3.ensures) at c.in-Ok.ensures.1)
      c.cells_of_table.ensures.cells,
)
