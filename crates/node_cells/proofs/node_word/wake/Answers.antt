use Rattle.node_cells.proofs.Imports.{arith}
use Rattle.node_cells.proofs.BeginLaws.{home-begins}
use Rattle.node_cells.proofs.node_word.wake.Goals as goal

pub begin-requires-after_bounds : goal.begin-requires-after_bounds
begin-requires-after_bounds g c κs within = grind (arith, home-begins)
