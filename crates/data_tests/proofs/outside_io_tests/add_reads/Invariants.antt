use Rattle.std.proofs.Common.{IsSome}
use Rattle.data_tests.proofs.outside_io_tests.add_reads.Given as goal

abbrev pub invariant-loop : goal.invariant-loop
invariant-loop g l = IsSome (g.F.FileReader.reader l.reader).position
