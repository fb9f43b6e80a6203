use Rattle.node_ports.proofs.Imports.{ap, arith, length, ports_picture, subst, ◌+◌, ◌∙◌, ◌≡◌}
use Rattle.node_ports.specs.Sights.{LookedAt, LookedBelow, nth_port}
use Rattle.node_ports.proofs.LoopLaws.{looked-all, looked-more, looked-none}
use Rattle.node_ports.proofs.sights.look_at_updated.Goals as goal

pub loop-k-init : goal.loop-k-init
loop-k-init c = record {
  seat = c.requires.seat;
  looked = looked-none (ports_picture c.args.ports.now c.args.seat.now) c.requires.may;
}

pub loop-k-preserved : goal.loop-k-preserved
loop-k-preserved c = let d = ports_picture c.loop-k.ports c.loop-k.seat in
    let e = ports_picture c.look_if_updated.new.ports c.look_if_updated.new.seat in
    let n = c.len-inputs.ensures in
    let is : c.len-inputs.result ≡ length c.args.ports.now.inputs.items = omega (arith, n) in
    record {
      seat = c.look_if_updated.ensures.seat;
      looked = looked-more c.loop-k.k (ports_picture c.args.ports.now c.args.seat.now) d e
          c.loop-k.invariant.looked (subst (λ p. LookedAt p d e) (c.nth_port.ensures
          ∙ ap (λ n. nth_port n c.loop-k.k) is) c.look_if_updated.ensures.looked);
    }

pub returns-clause-looked : goal.returns-clause-looked
returns-clause-looked c = let p = ports_picture c.args.ports.now c.args.seat.now in
    let l = c.loop-k-test.false in let u = c.loop-k.auto.k-end in
    let m = c.len-inputs.ensures in let n = c.len.ensures in
    let at : c.loop-k.k ≡ length p.inputs + length p.outputs = omega (arith, l, u, m, n) in
    looked-all p c.loop-k.ports c.loop-k.seat _ (subst (λ k. LookedBelow k p
    (ports_picture c.loop-k.ports c.loop-k.seat)) at c.loop-k.invariant.looked)
