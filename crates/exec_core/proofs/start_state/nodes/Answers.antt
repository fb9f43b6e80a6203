use Rattle.exec_core.proofs.Imports.{arith, map-range_with_len_more, start_node}
use Rattle.exec_core.proofs.start_state.nodes.Goals as goal

pub loop-n-preserved : goal.loop-n-preserved
loop-n-preserved c = let i = c.loop-n.invariant in let p = c.in_ok-push.ensures.items in
    let s = c.in_ok-start_node.ensures in let f = start_node c.args.sizes.now in
    cc (map-range_with_len_more f 0 c.loop-n.n c.loop-n.n (omega arith), p, i, s)
