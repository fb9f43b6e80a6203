use Rattle.sql_text.proofs.Readings.{one_tree}
use Rattle.sql_text.proofs.texts.one_reading.Goals as goal

pub returns : goal.returns
returns c = one_tree
