use Rattle.node_ends.proofs.Imports.{arith, length, refl, ◌<◌, ◌≤◌}
use Rattle.node_ends.proofs.Lists.{each-all, each-more}
use Rattle.node_ends.proofs.Visits.{RestsOn}
use Rattle.node_ends.proofs.node_ends.are_at_rest.Goals as goal

pub loop-n-preserved : goal.loop-n-preserved
loop-n-preserved g c =
    let lt : c.loop-n.n < length c.args.cells.now.items = omega arith in
    each-more RestsOn c.args.cells.now.items c.loop-n.n c.index.result.now c.loop-n.invariant lt
    c.index.ensures (c.if-not-is_at_rest.ensures refl)

pub returns : goal.returns
returns g c = λ _.
    let past : length c.args.cells.now.items ≤ c.loop-n.n = omega arith in
    each-all RestsOn c.args.cells.now.items c.loop-n.n c.loop-n.invariant past
