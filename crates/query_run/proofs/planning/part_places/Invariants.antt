use Rattle.query_run.proofs.Imports.{flat_map, map, node_specs, part_place, take, ◌++◌, ◌≡◌}
use Rattle.query_run.proofs.Kept.{kept_of}
use Rattle.query_run.proofs.planning.part_places.Given as goal

abbrev pub invariant-loop-node : goal.invariant-loop-node
invariant-loop-node l = l.places.items ≡ map part_place (node_specs (take l.node-index l.nodes))

abbrev pub invariant-loop-reserve : goal.invariant-loop-reserve
invariant-loop-reserve l = l.places.items ≡ map part_place (node_specs l.nodes)
    ++ flat_map (kept_of (node_specs l.nodes)) (take l.reserve-index l.plan.reserves)
