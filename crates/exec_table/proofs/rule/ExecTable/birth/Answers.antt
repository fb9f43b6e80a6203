use Rattle.exec_table.proofs.Imports.{refl}
use Rattle.exec_table.proofs.Seating.{node-asks, quiet-makes}
use Rattle.exec_table.proofs.rule.ExecTable.birth.Goals as goal

pub fetch_xor-requires : goal.fetch_xor-requires
fetch_xor-requires c = node-asks c.args.self.now c.requires.seat refl c.requires.ready refl
    (λ _ _ _. (refl, refl))

pub returns : goal.returns
returns c =
    quiet-makes refl c.requires.seat c.fetch_xor.ensures.2 c.fetch_xor.ensures.0 refl refl refl
