use Rattle.chunk_data.proofs.Imports.{arith, take_all}
use Rattle.chunk_data.proofs.Cuts.{length-cut}
use Rattle.chunk_data.proofs.text_column.Texts.truncate.Goals as goal

pub returns-then-len-n : goal.returns-then-len-n
returns-then-len-n c = search (arith, length-cut, take_all)
