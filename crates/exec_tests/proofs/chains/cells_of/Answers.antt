use Rattle.std.proofs.Common.{ap, length, rules, ◌∙◌, ◌≡◌}
use Rattle.core_laws.specs.declared.types.Sizes.{Sizes}
use Rattle.std.proofs.lemmas.List.{nil_from_length}
use Rattle.exec_tests.proofs.EndedCells.{graph-of}
use Rattle.node_ends.proofs.NewCells.{new-cells}
use Rattle.node_workers.proofs.NewCells.{new-stored}
use Rattle.exec_tests.proofs.chains.cells_of.Goals as goal

pub returns-in-Ok-into_cells-clause-stored : goal.returns-in-Ok-into_cells-clause-stored
returns-in-Ok-into_cells-clause-stored g c =
    let graph = c.in-Ok.graph in
    new-stored _ graph.boxes.items graph.ranks graph.wires graph.reserves c.args.workers _
    (graph-of _ graph.ranks graph.wires graph.reserves graph.well_formed graph.one_each
    graph.reserves_fit) c.in-Ok-into_cells.ensures.cells c.in-Ok-into_cells.ensures.reserves

pub returns-in-Ok-into_cells-clause-bare : goal.returns-in-Ok-into_cells-clause-bare
returns-in-Ok-into_cells-clause-bare g c =
    let none : length c.in-Ok.graph.reserves ≡ 0 = search rules in
    ap (λ (z : Sizes). z.reserves) c.in-Ok-into_cells.ensures.cells.key
    ∙ nil_from_length c.in-Ok.graph.reserves none

pub returns-in-Ok-into_cells-clause-cells : goal.returns-in-Ok-into_cells-clause-cells
returns-in-Ok-into_cells-clause-cells g c =
    let graph = c.in-Ok.graph in
    let none : length graph.reserves ≡ 0 = search rules in (
      _,
      new-cells _ graph.boxes.items graph.wires graph.reserves c.args.workers _
          (graph-of _ graph.ranks graph.wires graph.reserves graph.well_formed graph.one_each
          graph.reserves_fit) (nil_from_length graph.reserves none)
          c.in-Ok-into_cells.ensures.cells,
    )
