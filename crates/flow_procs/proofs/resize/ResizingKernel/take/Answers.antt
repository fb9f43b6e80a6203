use Rattle.flow_procs.proofs.Imports.{takes-resized}
use Rattle.flow_procs.proofs.resize.ResizingKernel.take.Goals as goal

pub returns-clause-takes : goal.returns-clause-takes
returns-clause-takes c = λ wanted. takes-resized _ c.args._input c.args.chunk c.requires
