use Rattle.join_proc.proofs.Imports.{arith}
use Rattle.join_proc.proofs.LeftLaws.{joins-some}
use Rattle.join_proc.proofs.left_rows.LeftRows.next_chunk.Goals as goal

pub returns-in-Ok-clause-joins : goal.returns-in-Ok-clause-joins
returns-in-Ok-clause-joins c = grind (arith, joins-some)
