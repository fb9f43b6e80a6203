use Rattle.exec_table.proofs.Imports.{arith}
use Rattle.exec_table.proofs.Working.{worker-splits}
use Rattle.exec_table.proofs.rule.ExecTable.worker.Goals as goal

pub split_seat-requires : goal.split_seat-requires
split_seat-requires c = let w = c.args.self.now.words in (
  c.requires.root.table,
  omega arith,
  worker-splits _ _ c.args.root.now.seat.me.0 c.requires.spare,
)
