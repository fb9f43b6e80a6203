use Rattle.std.proofs.Common.{arith}
use Rattle.node_cells.proofs.NewReserves.{more-blanks}
use Rattle.node_cells.proofs.new_reserves.new_blanks.Goals as goal

pub loop-k-preserved : goal.loop-k-preserved
loop-k-preserved g c = grind (arith, more-blanks)
