use Rattle.node_cells.proofs.Imports.{MakesStep, None, ap, false, identity_of, is_waiting, refl, subst, true, ◌∙◌, ◌≡◌}
use Rattle.node_cells.proofs.StayLaws.{number-ports, wires-still}
use Rattle.exec_table.proofs.Ends.{number-made}
use Rattle.node_cells.proofs.RestLaws.{left-home, rested-due}
use Rattle.exec_table.specs.Seats.{is_idle as says_idle}
use Rattle.core_laws.specs.Steps.{is_idle}
use Rattle.core_laws.specs.declared.types.Step.TheVariants as step
use Rattle.exec_table.specs.declared.types.Stage.TheVariants.{Begun}
use Rattle.node_cells.proofs.node_word.rest.Goals as goal

pub returns-in-Idle-clause-rests : goal.returns-in-Idle-clause-rests
returns-in-Idle-clause-rests g c = left-home g.P.Processor.seen (identity_of c.args.table.now)
    c.args.cell.now c.args.status
    c.requires.carried c.rest.new.seat c.token_out.new.seat
    (subst (λ r. MakesStep (identity_of c.args.table.now) c.args.cell.now.seat c.rest.new.seat
    step.Rest None
    (is_idle (says_idle r))) c.in-Idle.is c.rest.ensures) refl (λ _. refl) refl c.token_out.ensures
    Begun refl (ap is_waiting c.requires.rests) (λ _. refl)
    (λ o. absurd (let z : false ≡ true = o in cc)) refl

pub returns-in-UpdatedAgain-clause-rests : goal.returns-in-UpdatedAgain-clause-rests
returns-in-UpdatedAgain-clause-rests g c = rested-due g.P.Processor.seen (identity_of
    c.args.table.now) c.args.cell.now
    c.args.status c.requires.carried c.rest.new.seat c.again-updated.new.seat
    c.merge_updated-cell.result c.again-updated.result _
    (subst (λ r. MakesStep (identity_of c.args.table.now) c.args.cell.now.seat c.rest.new.seat
    step.Rest None
    (is_idle (says_idle r))) c.in-UpdatedAgain.is c.rest.ensures) c.again-updated.ensures
    c.merge_updated-cell.ensures c.requires.rests refl

pub returns-in-Idle-clause-keeps : goal.returns-in-Idle-clause-keeps
returns-in-Idle-clause-keeps g c = record {
  processor = refl;
  reserve = refl;
  ports = number-ports c.args.cell.now.ports _ c.args.cell.now.seat c.token_out.new.seat
      (number-made c.rest.ensures.seat c.token_out.ensures
      ∙ number-made c.requires.carried.prepared.holds.cell.seat c.rest.ensures)
      (λ e. wires-still c.rest.ensures.seat c.token_out.ensures (λ _. refl) e
      ∙ wires-still c.requires.carried.prepared.holds.cell.seat c.rest.ensures (λ _. refl) e);
}

pub returns-in-UpdatedAgain-clause-keeps : goal.returns-in-UpdatedAgain-clause-keeps
returns-in-UpdatedAgain-clause-keeps g c = record {
  processor = refl;
  reserve = refl;
  ports = number-ports c.args.cell.now.ports _ c.args.cell.now.seat
      c.again-updated.new.seat
      (number-made c.rest.ensures.seat c.again-updated.ensures.makes
      ∙ number-made c.requires.carried.prepared.holds.cell.seat c.rest.ensures)
      (λ e. wires-still c.rest.ensures.seat c.again-updated.ensures.makes (λ _. refl) e
      ∙ wires-still c.requires.carried.prepared.holds.cell.seat c.rest.ensures (λ _. refl) e);
}
