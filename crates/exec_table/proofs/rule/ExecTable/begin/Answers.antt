use Rattle.exec_table.proofs.Imports.{ap, arith, refl, sym, updated, ◌∙◌}
use Rattle.exec_table.proofs.Wording.{read-node}
use Rattle.exec_table.proofs.Seating.{node-asks, quiet-makes}
use Rattle.exec_table.proofs.rule.ExecTable.begin.Goals as goal

pub swap-requires : goal.swap-requires
swap-requires c = node-asks c.args.self.now c.requires.seat refl c.requires.ready refl
    (λ _ _ _. (refl, refl))

pub returns : goal.returns
returns c = let d = c.swap.ensures.2 in let g = d.may in record {
  word = c.swap.result;
  ports = c.updated_of.ensures;
  makes = quiet-makes refl c.requires.seat d c.swap.ensures.0 refl refl
      (ap updated (sym (d.word ∙ read-node d.before.core _ (grind arith))));
}
