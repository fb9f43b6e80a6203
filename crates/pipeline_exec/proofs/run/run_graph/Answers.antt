use Rattle.pipeline_exec.proofs.Imports.{map, subst, sym}
use Rattle.exec_laws.specs.Ends.{GivenBack}
use Rattle.pipeline_exec.proofs.Completeness.{lawful_ends_done}
use Rattle.pipeline_exec.proofs.WorkerEnds.{moved, of-graph}
use Rattle.pipeline_exec.proofs.run.run_graph.Goals as goal

pub run_new_cells-end-requires-clause-unrun : goal.run_new_cells-end-requires-clause-unrun
run_new_cells-end-requires-clause-unrun g c κs within = (
  _,
  of-graph (λ b. (goal.Processor-dyn g (b.vtable, b.value)).seen b.value) c.args.workers
      c.args.graph.boxes.items c.args.graph.ranks c.args.graph.wires c.args.graph.reserves
      c.in-Ok-into_cells.new c.args.graph.one_each c.args.graph.well_formed
      c.args.graph.reserves_fit c.requires.starting c.in-Ok-into_cells.ensures.cells
      c.in-Ok-into_cells.ensures.reserves,
)

pub returns-in-Ok-into_cells-clause-back : goal.returns-in-Ok-into_cells-clause-back
returns-in-Ok-into_cells-clause-back g c =
    subst (λ l. GivenBack l (map (λ b. (goal.Processor-dyn g (b.vtable, b.value)).seen b.value)
    c.run_new_cells-end.new.boxes.items))
    (moved (λ b. (goal.Processor-dyn g (b.vtable, b.value)).seen b.value)
    c.in-Ok-into_cells.new.cells.items c.args.graph.boxes.items
    (sym c.in-Ok-into_cells.ensures.cells.processors)) c.run_new_cells-end.ensures.back

pub returns-in-Ok-into_cells-clause-end : goal.returns-in-Ok-into_cells-clause-end
returns-in-Ok-into_cells-clause-end g c = c.run_new_cells-end.ensures.end _
    (of-graph (λ b. (goal.Processor-dyn g (b.vtable, b.value)).seen b.value) c.args.workers
    c.args.graph.boxes.items c.args.graph.ranks c.args.graph.wires c.args.graph.reserves
    c.in-Ok-into_cells.new c.args.graph.one_each c.args.graph.well_formed
    c.args.graph.reserves_fit c.requires.starting c.in-Ok-into_cells.ensures.cells
    c.in-Ok-into_cells.ensures.reserves)

pub returns-in-Ok-into_cells-clause-completes : goal.returns-in-Ok-into_cells-clause-completes
returns-in-Ok-into_cells-clause-completes g c = lawful_ends_done c.run_new_cells-end.result _ _
    (returns-in-Ok-into_cells-clause-back g c) (returns-in-Ok-into_cells-clause-end g c)
