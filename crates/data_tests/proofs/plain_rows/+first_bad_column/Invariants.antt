use Rattle.std.proofs.Common.{length}
use Rattle.data_tests.proofs.plain_rows.+first_bad_column.Given as goal

abbrev pub decreases-first_bad_column : goal.decreases-first_bad_column
decreases-first_bad_column l = length l.types.now
