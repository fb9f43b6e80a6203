use Rattle.std.proofs.Common.{arith}
use Rattle.node_cells.proofs.SizeLaws.{sizes-fit}
use Rattle.node_cells.proofs.new_cells.new_table.Goals as goal

pub make-requires : goal.make-requires
make-requires c = grind (arith, sizes-fit)
