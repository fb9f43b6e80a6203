use Rattle.node_births.proofs.Imports.{AddsPort, arith, ports_picture, subst, sym, ◌∙◌}
use Rattle.node_births.proofs.MorePorts.{gains-port, none-unknown}
use Rattle.node_births.proofs.more_ports.add_port.Goals as goal

pub learn_edge-requires-clause-unknown : goal.learn_edge-requires-clause-unknown
learn_edge-requires-clause-unknown c =
    none-unknown _ _ c.requires.may.holds (sym c.has_edge.ensures ∙ c.if-has_edge.false)

pub returns-in-Ok-clause-ok : goal.returns-in-Ok-clause-ok
returns-in-Ok-clause-ok c = gains-port _ _ _ _ _ _ _ c.requires.may (none-unknown (ports_picture
    c.args.ports.now c.args.seat.now) c.args.e c.requires.may.holds (sym c.has_edge.ensures ∙
    c.if-has_edge.false)) c.requires.at_port (grind (arith, c.if-wire.false))
    (c.is_next_port.ensures c.if-not-is_next_port.false) (c.learn_edge.ensures.learns
    c.if-not-learn_edge.false) (subst (λ n. AddsPort c.args.port c.args.e n c.args.ports.now
    c.push_port.new.ports) c.peer_of.ensures c.in-Ok.ensures)
