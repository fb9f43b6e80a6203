use Rattle.std.proofs.Common.{length}
use Rattle.data_tests.proofs.plain_rows.+row_spelled.Given as goal

abbrev pub decreases-row_spelled : goal.decreases-row_spelled
decreases-row_spelled l = length l.types.now
