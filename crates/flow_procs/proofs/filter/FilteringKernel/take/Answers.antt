use Rattle.flow_procs.proofs.Imports.{eqb-true, rules, ◌∙◌}
use Rattle.flow_procs.proofs.FilterLaws.{takes}
use Rattle.flow_procs.proofs.filter.FilteringKernel.take.Goals as goal

pub returns-in-Ok-clause-takes : goal.returns-in-Ok-clause-takes
returns-in-Ok-clause-takes c = λ wanted. takes c.args.self.now.cond c.args._input c.args.chunk
    c.keep.new.self c.as_slice-in-Ok.result.now (eqb-true c.args._input 0 wanted) (search rules)
    (c.as_slice-in-Ok.ensures.value ∙ c.in-Ok.ensures) c.keep.ensures.types c.keep.ensures.rows
