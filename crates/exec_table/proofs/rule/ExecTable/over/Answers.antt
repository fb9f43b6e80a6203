use Rattle.exec_table.proofs.Imports.{refl}
use Rattle.exec_table.proofs.Seating.{node-asks, quiet-makes}
use Rattle.exec_table.proofs.rule.ExecTable.over.Goals as goal

pub swap-requires : goal.swap-requires
swap-requires c = node-asks c.args.self.now c.requires.seat refl c.requires.ready refl
    (λ _ _ _. (refl, refl))

pub returns : goal.returns
returns c = quiet-makes refl c.requires.seat c.swap.ensures.2 c.swap.ensures.0 refl refl refl
