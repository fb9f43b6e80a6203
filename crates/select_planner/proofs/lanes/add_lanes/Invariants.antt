use Rattle.select_planner.proofs.Imports.{forms, lane_nodes, ◌++◌, ◌≡◌}
use Rattle.select_planner.specs.Lanes.{lane_spec}
use Rattle.select_planner.proofs.lanes.add_lanes.Given as goal

abbrev pub invariant-loop-lane : goal.invariant-loop-lane
invariant-loop-lane l =
    forms l.nodes ≡ forms l.initial.nodes ++ forms (lane_nodes (lane_spec l.step) l.rank 0 l.lane)
