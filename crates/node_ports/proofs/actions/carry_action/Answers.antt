use Rattle.node_ports.proofs.Imports.{Acted, edge_of, identity_of, port_edge, ports_picture, subst, sym, ◌∙◌, refl, false, ap}
use Rattle.node_ports.specs.Peers.{TellsIfDue, carry_of}
use Rattle.node_ports.proofs.ActLaws.{own-port}
use Rattle.node_ports.proofs.NextLaws.{carried-free, carries-told}
use Rattle.node_ports.proofs.actions.carry_action.Goals as goal

pub returns-then-not-carry_out-clause-carries : goal.returns-then-not-carry_out-clause-carries
returns-then-not-carry_out-clause-carries c =
    let p = ports_picture c.args.ports.now c.args.seat.now in
    let d = ports_picture c.carry_out.new.ports c.carry_out.new.seat in
    let a = subst (Acted c.args.action p d) c.if-not-carry_out.true c.carry_out.ensures.acted in
    record {
      carried = carried-free c.args.action p d a;
      fewer = a.view;
      own = own-port c.args.action p c.requires.may;
      charged = false;
      tells = subst (λ b. TellsIfDue b (identity_of c.args.table.now) c.args.action false p
          c.carry_out.new.ports c.carry_out.new.seat)
          (sym c.if-not-carry_out.true ∙ c.carry_out.ensures.told) refl;
      answer = refl;
    }

pub returns-then-tell_peer-clause-carries : goal.returns-then-tell_peer-clause-carries
returns-then-tell_peer-clause-carries c =
    let p = ports_picture c.args.ports.now c.args.seat.now in
    let d = ports_picture c.carry_out.new.ports c.carry_out.new.seat in
    let is = c.if-not-carry_out.false in
    carries-told c.carry_out.new.ports c.requires.may
    (subst (Acted c.args.action p d) is c.carry_out.ensures.acted)
    (sym is ∙ c.carry_out.ensures.told) c.tell_peer.ensures
    (c.edge_at-e.ensures ∙ ap (edge_of p) c.port_of-port.ensures)
    (c.peer_at-peer.ensures ∙ ap (port_edge p.sources p.targets) c.port_of-port.ensures)
    (ap (carry_of c.peer_at-peer.result) (sym c.if-tell_peer.true))

pub returns-else-tell_peer-clause-carries : goal.returns-else-tell_peer-clause-carries
returns-else-tell_peer-clause-carries c =
    let p = ports_picture c.args.ports.now c.args.seat.now in
    let d = ports_picture c.carry_out.new.ports c.carry_out.new.seat in
    let is = c.if-not-carry_out.false in
    carries-told c.carry_out.new.ports c.requires.may
    (subst (Acted c.args.action p d) is c.carry_out.ensures.acted)
    (sym is ∙ c.carry_out.ensures.told) c.tell_peer.ensures
    (c.edge_at-e.ensures ∙ ap (edge_of p) c.port_of-port.ensures)
    (c.peer_at-peer.ensures ∙ ap (port_edge p.sources p.targets) c.port_of-port.ensures)
    (ap (carry_of c.peer_at-peer.result) (sym c.if-tell_peer.false))
