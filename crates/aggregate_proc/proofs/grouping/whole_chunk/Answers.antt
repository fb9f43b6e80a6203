use Rattle.aggregate_proc.proofs.Imports.{arith}
use Rattle.aggregate_proc.proofs.BuilderLaws.{table-types}
use Rattle.aggregate_proc.proofs.grouping.whole_chunk.Goals as goal

pub returns-clause-types : goal.returns-clause-types
returns-clause-types c = grind (arith, table-types)
