use Rattle.sql_text.proofs.AnalysableQueries.{analysable_of_read}
use Rattle.data_tests.proofs.literals.analysed.Goals as goal

pub analyse-requires : goal.analyse-requires
analyse-requires c = analysable_of_read c.in-Ok.query c.as_bytes.result.now c.in-Ok.ensures.read
