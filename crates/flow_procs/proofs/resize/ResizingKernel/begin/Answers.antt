use Rattle.flow_procs.proofs.Imports.{begins-resized}
use Rattle.flow_procs.proofs.resize.ResizingKernel.begin.Goals as goal

pub returns-clause-begins : goal.returns-clause-begins
returns-clause-begins c = begins-resized c.args.spec c.in-Resize.is
