use Rattle.node_cells.proofs.Imports.{identity_of, refl, subst, sym, ◌∙◌}
use Rattle.node_cells.specs.Turns.{TakesBack}
use Rattle.node_cells.proofs.BeginLaws.{begun-due, begun-number, begun-tokens, begun-wires}
use Rattle.node_cells.proofs.StayLaws.{number-ports}
use Rattle.node_cells.proofs.node_word.begin.Goals as goal

pub take_back-requires-clause-one : goal.take_back-requires-clause-one
take_back-requires-clause-one g c = λ due. begun-tokens g.P.Processor.seen (identity_of
    c.args.table.now)
    c.args.cell.now c.requires c.token_in.new.seat c.begin-updated.new.seat c.token_in.ensures
    c.begin-updated.result c.begin-updated.ensures (sym c.is_named_by.ensures ∙ due)

pub returns-clause-due : goal.returns-clause-due
returns-clause-due g c = begun-due g.P.Processor.seen (identity_of c.args.table.now) c.args.cell.now
    c.requires
    c.token_in.new.seat c.begin-updated.new.seat c.token_in.ensures c.begin-updated.result
    c.begin-updated.ensures c.take_back.new.seat
    (subst (λ b. TakesBack (identity_of c.args.table.now) b c.begin-updated.new.seat
    c.take_back.new.seat)
    c.is_named_by.ensures c.take_back.ensures) c.merge_updated-cell.result
    c.merge_updated-cell.ensures _ refl

pub returns-clause-keeps : goal.returns-clause-keeps
returns-clause-keeps g c = record {
  processor = refl;
  reserve = refl;
  ports = number-ports c.args.cell.now.ports _ c.args.cell.now.seat c.take_back.new.seat
      (begun-number g.P.Processor.seen (identity_of c.args.table.now) c.args.cell.now c.requires
      c.token_in.new.seat c.begin-updated.new.seat c.token_in.ensures c.begin-updated.result
      c.begin-updated.ensures c.take_back.new.seat
      (subst (λ b. TakesBack (identity_of c.args.table.now) b c.begin-updated.new.seat
      c.take_back.new.seat) c.is_named_by.ensures c.take_back.ensures))
      (begun-wires g.P.Processor.seen (identity_of c.args.table.now) c.args.cell.now c.requires
      c.token_in.new.seat c.begin-updated.new.seat c.token_in.ensures c.begin-updated.result
      c.begin-updated.ensures c.take_back.new.seat
      (subst (λ b. TakesBack (identity_of c.args.table.now) b c.begin-updated.new.seat
      c.take_back.new.seat) c.is_named_by.ensures c.take_back.ensures));
}
