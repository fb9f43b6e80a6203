use Rattle.node_births.proofs.Imports.{GainsPorts, ap, arith, end_count, ports_picture, subst, view, ◌∙◌, ◌≡◌}
use Rattle.node_births.proofs.GainLaws.{ports-both}
use Rattle.node_births.proofs.more_ports.add_ports.Goals as goal

pub loop-port-preserved : goal.loop-port-preserved
loop-port-preserved c = record {
  seat = c.add_next_port.ensures.seat;
  number = c.add_next_port.ensures.number ∙ c.loop-port.invariant.number;
  gains = ports-both _ _ _ _ _ _ _ _ c.requires.may c.loop-port.invariant.gains c.in-Ok.ensures.ok;
}

pub returns-clause-ok : goal.returns-clause-ok
returns-clause-ok c = let l = c.loop-port-test.false in let u = c.loop-port.auto._port-end in
    let n = c.count_ends-port-end.ensures in
    let e = ap (end_count c.args.consumer c.args.wires.now) c.requires.seat.number in
    let at : c.loop-port._port ≡ end_count c.args.consumer c.args.wires.now (view
    c.args.seat.now).number = omega (arith, l, u, n, e) in
    subst (λ k. GainsPorts c.args.consumer c.args.first c.args.wires.now k (ports_picture
    c.args.ports.now c.args.seat.now) (ports_picture c.loop-port.ports c.loop-port.seat)) at
    c.loop-port.invariant.gains
