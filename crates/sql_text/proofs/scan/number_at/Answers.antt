use Rattle.sql_text.proofs.Imports.{arith}
use Rattle.sql_text.proofs.Bytes.{number_is}
use Rattle.sql_text.proofs.scan.number_at.Goals as goal

pub returns : goal.returns
returns c = grind (arith, number_is)
