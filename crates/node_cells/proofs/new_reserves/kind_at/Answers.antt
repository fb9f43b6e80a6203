use Rattle.std.proofs.Common.{arith}
use Rattle.node_cells.proofs.NewReserves.{box-read}
use Rattle.node_cells.proofs.new_reserves.kind_at.Goals as goal

pub returns : goal.returns
returns g c = grind (arith, box-read)
