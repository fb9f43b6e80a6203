use Rattle.flow_procs.proofs.CountingLaws.{begins}
use Rattle.flow_procs.proofs.numbers.CountingKernel.begin.Goals as goal

pub returns-clause-begins : goal.returns-clause-begins
returns-clause-begins c = begins c.args.spec c.in-Numbers.end c.in-Numbers.rows c.in-Numbers.is
