use Rattle.node_cells.proofs.Imports.{BoxPicture, List, arith, subst, sym}
use Rattle.node_cells.proofs.NewCells.{more-nodes}
use Rattle.node_cells.proofs.new_cells.new_nodes.Goals as goal
use Rattle.node_cells.specs.NewCells.{AreNewNodes, IsNewNodeAt}
use Rattle.std.specs.Prelude.{map}

pub new_node-requires-clause-ports : goal.new_node-requires-clause-ports
new_node-requires-clause-ports g c κs within = c.requires.ports c.loop-n.n

pub loop-n-preserved : goal.loop-n-preserved
loop-n-preserved g c =
    let len = c.loop-n.invariant.len in
    let ranks = c.args.ranks.now in
    let wires = c.args.wires.now in
    let rs = c.args.reserves.now in
    let boxes : List BoxPicture = map g.P.Processor.seen c.args.boxes.now.items in
    record {
      len = omega (arith, len, c.in_ok-push.ensures.len);
      new = subst (AreNewNodes ranks wires rs boxes) (sym c.in_ok-push.ensures.items)
          (more-nodes ranks wires rs boxes c.loop-n.all.items c.in_ok-node.node
          c.loop-n.invariant.new (subst (λ n. IsNewNodeAt ranks wires rs boxes n c.in_ok-node.node)
          (sym len) c.in_ok-node.ensures));
    }
