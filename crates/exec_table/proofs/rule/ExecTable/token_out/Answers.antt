use Rattle.exec_table.proofs.Imports.{arith, refl}
use Rattle.exec_table.proofs.Seating.{quiet-makes, word-asks}
use Rattle.exec_table.proofs.rule.ExecTable.token_out.Goals as goal

pub fetch_sub-requires : goal.fetch_sub-requires
fetch_sub-requires c = let o = c.requires.seat in
    word-asks c.args.self.now c.args.seat.now.seat o refl o.single
    (let w = c.args.self.now.words in omega arith) c.requires.ready refl
    (λ b h is sizes can. (refl, (λ _. refl)))

pub returns : goal.returns
returns c =
    quiet-makes refl c.requires.seat c.fetch_sub.ensures.2 c.fetch_sub.ensures.0 refl refl refl
