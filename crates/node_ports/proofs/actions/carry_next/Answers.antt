use Rattle.node_ports.proofs.Imports.{PortsHold, ports_picture, subst, sym}
use Rattle.node_ports.specs.Peers.{HasCarriedOut}
use Rattle.node_ports.proofs.NextLaws.{not-done, untaken-is}
use Rattle.node_ports.proofs.actions.carry_next.Goals as goal

pub carry_action-requires-clause-may : goal.carry_action-requires-clause-may
carry_action-requires-clause-may c = let p = ports_picture c.args.ports.now c.args.seat.now in
    record {
      holds = subst PortsHold (sym (untaken-is p c.next_action.new.self c.in-Some.action
          c.in-Some.ensures.taken)) c.requires.may.holds;
      sound = c.in-Some.ensures.sound;
      turn = c.requires.may.turn;
    }

pub returns-in-Some-clause-carries : goal.returns-in-Some-clause-carries
returns-in-Some-clause-carries c = let p = ports_picture c.args.ports.now c.args.seat.now in
    let d = ports_picture c.carry_action.new.ports c.carry_action.new.seat in
    let is = untaken-is p c.next_action.new.self c.in-Some.action c.in-Some.ensures.taken in
    let r = c.carry_action.ensures.carries in record {
      carried = subst (λ q. HasCarriedOut q d) is r.carried;
      done = λ e. absurd (not-done _ r.charged r.answer e);
      first = λ e. record { action = c.in-Some.action; taken = _; is = is; carries = r };
    }
