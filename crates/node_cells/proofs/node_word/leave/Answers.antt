use Rattle.node_cells.proofs.Imports.{ap, identity_of, is_waiting, refl, sym, ◌∙◌, ◌≡◌}
use Rattle.node_cells.proofs.StayLaws.{number-ports, wires-still}
use Rattle.exec_table.proofs.Ends.{number-made}
use Rattle.node_cells.proofs.RestLaws.{left-home}
use Rattle.exec_table.specs.declared.types.Stage.TheVariants.{Over}
use Rattle.exec_laws.specs.declared.edges.NodeStatus.TheVariants as node
use Rattle.node_cells.proofs.node_word.leave.Goals as goal

pub returns-clause-home : goal.returns-clause-home
returns-clause-home g c = left-home g.P.Processor.seen (identity_of c.args.table.now)
    c.args.cell.now c.args.status
    c.requires.carried c.over.new.seat c.token_out.new.seat c.over.ensures refl
    (λ _. refl) refl c.token_out.ensures Over refl (ap is_waiting c.requires.over)
    (λ q. absurd (let z : node.Over ≡ node.Resting = sym c.requires.over ∙ q in cc))
    (λ _. c.requires.over) refl

pub returns-clause-keeps : goal.returns-clause-keeps
returns-clause-keeps g c = record {
  processor = refl;
  reserve = refl;
  ports = number-ports c.args.cell.now.ports _ c.args.cell.now.seat c.token_out.new.seat
      (number-made c.over.ensures.seat c.token_out.ensures
      ∙ number-made c.requires.carried.prepared.holds.cell.seat c.over.ensures)
      (λ e. wires-still c.over.ensures.seat c.token_out.ensures (λ _. refl) e
      ∙ wires-still c.requires.carried.prepared.holds.cell.seat c.over.ensures (λ _. refl) e);
}
