use Rattle.exec_core.proofs.Imports.{arith, map-range_with_len_more, start_port}
use Rattle.exec_core.proofs.start_state.ports.Goals as goal

pub loop-e-preserved : goal.loop-e-preserved
loop-e-preserved c = let i = c.loop-e.invariant in let p = c.in_ok-push.ensures.items in
    let f = start_port c.args.sizes.now in
    cc (map-range_with_len_more f 0 c.loop-e.e c.loop-e.e (omega arith), p, i)
