use Rattle.node_workers.proofs.Imports.{CellFits, GrowNode, HasNewOutputs, IsGrowthOf, List, NamedCell, NotedStep, get_elem?, length, place_at, some, ℕ, ◌++◌, ◌<◌, ◌≡◌, ◌≤◌}
use Rattle.node_workers.proofs.births.bear_all.Given as goal

abbrev pub invariant-loop-node : goal.invariant-loop-node
invariant-loop-node g l = record {
  step : NotedStep;
  growth_of : IsGrowthOf g.J.Naming.names step l.wires l.first l.places;
  taken : List GrowNode;
  nodes_are : l.nodes.items ++ taken ≡ step.noted.growth.nodes;
  few : length l.nodes.items ≤ length l.places;
  many : length l.new.items ≡ length l.places;
  waiting : (i : ℕ) (d : NamedCell g.row.P.Denot g.row.J.Denot)
      → get_elem? l.new.items i ≡ some d → i < length l.nodes.items
      → HasNewOutputs g.J.Naming.names g.P.Processor.seen step (place_at l.places i) d;
  born : (i : ℕ) (d : NamedCell g.row.P.Denot g.row.J.Denot)
      → get_elem? l.new.items i ≡ some d → length l.nodes.items ≤ i
      → CellFits g.J.Naming.names g.P.Processor.seen (place_at l.places i) d.cell d.stopped d.note;
}

abbrev pub decreases-loop-node : goal.decreases-loop-node
decreases-loop-node g l = length l.nodes.items
