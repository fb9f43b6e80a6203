use Rattle.std.proofs.Common.{arith}
use Rattle.std.proofs.lemmas.List.{length-map}
use Rattle.node_cells.proofs.NewReserves.{few-blanks}
use Rattle.node_cells.proofs.new_reserves.new_reserve.Goals as goal

pub invariant_of-result : goal.invariant_of-result
invariant_of-result g c = grind (arith, length-map, few-blanks)
