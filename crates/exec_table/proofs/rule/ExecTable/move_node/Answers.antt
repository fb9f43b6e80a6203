use Rattle.exec_table.proofs.Imports.{ap, arith, ◌∙◌}
use Rattle.exec_table.proofs.Starting.{peels}
use Rattle.exec_table.proofs.Surveying.{joins}
use Rattle.exec_table.proofs.rule.ExecTable.move_node.Goals as goal

pub split_seat-piece-requires : goal.split_seat-piece-requires
split_seat-piece-requires c = let w = c.args.self.now.words in
    (c.requires.from, omega arith, peels _ _ _ _ _ c.requires.node.2)

pub join_seat-requires : goal.join_seat-requires
join_seat-requires c = let w = c.args.self.now.words in (
  c.requires.to,
  c.split_seat-piece.ensures.3 ∙ c.requires.from,
  ap (λ m. m.1) c.split_seat-piece.ensures.4,
  omega arith,
  joins _ _ _ _ _,
)
