use Rattle.exec_core.proofs.Imports.{arith, marks-of, set-set}
use Rattle.exec_core.proofs.Replaced.{untold}
use Rattle.exec_core.proofs.node_steps.mark.Goals as goal

pub returns : goal.returns
returns c = let x = marks-of c.args.core c.args.n c.args.e c.requires.may c.requires.laws.edges
    c.requires.laws.nodes in
    let u = untold c.args.core c.args.n _ c.bit_at_end.result x.apart in
    let a = c.tell-core.ensures.exact in let b = c.swap_node-core.ensures in
    let d = c.swap_node.ensures in let o = c.without.ensures in let s = c.spent-spends.ensures in
    let q = c.peer_in-peer.ensures in let r = c.bit_at_end.ensures in
    grind (arith, set-set, u, a, b, d, o, s, q, r)
