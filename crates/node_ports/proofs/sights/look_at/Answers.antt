use Rattle.node_ports.proofs.Imports.{IsSound, ap, ports_picture, subst, sym, ◌∙◌}
use Rattle.node_ports.specs.Sights.{LookedAt, is_lift_due}
use Rattle.node_ports.proofs.LookLaws.{lift-ready, looked-here, see-ready}
use Rattle.node_ports.proofs.sights.look_at.Goals as goal

pub lift_if-chunk-requires-clause-slot : goal.lift_if-chunk-requires-clause-slot
lift_if-chunk-requires-clause-slot c = lift-ready c.args.ports.now c.requires.seat c.requires.may
    c.args.port c.requires.own c.edge_at-e.ensures (c.is_lift_due.ensures
    ∙ ap (λ b. is_lift_due c.args.port b c.look-flags.result) c.has_chunk-had.ensures)
    c.look-flags.ensures

pub see-requires : goal.see-requires
see-requires c = see-ready c.args.ports.now c.requires.seat c.requires.may c.args.port
    c.requires.own c.edge_at-e.ensures (c.is_lift_due.ensures
    ∙ ap (λ b. is_lift_due c.args.port b c.look-flags.result) c.has_chunk-had.ensures)
    c.look-flags.ensures c.lift_if-chunk.ensures

pub returns-clause-looked : goal.returns-clause-looked
returns-clause-looked c = let p = ports_picture c.args.ports.now c.args.seat.now in
    subst (λ v. LookedAt c.args.port p (record (ports_picture c.args.ports.now
    c.lift_if-chunk.new.seat) { view = v })) (sym c.see.ensures.after)
    (looked-here c.args.ports.now c.requires.seat c.requires.may c.args.port c.requires.own
    c.edge_at-e.ensures (c.is_lift_due.ensures
    ∙ ap (λ b. is_lift_due c.args.port b c.look-flags.result) c.has_chunk-had.ensures)
    c.look-flags.ensures c.lift_if-chunk.ensures
    (subst IsSound c.see.ensures.after c.see.ensures.sound))
