use Rattle.std.proofs.Common.{subst, sym}
use Rattle.query_model.specs.declared.processor_spec.Spec.TheVariants as spec
use Rattle.sort_procs.proofs.Imports.{Begins, merging_own}
use Rattle.sort_procs.proofs.MergeLaws.{begins, blank-fits}
use Rattle.sort_procs.proofs.merge.MergingKernel.begin.Goals as goal

pub invariant_of-result : goal.invariant_of-result
invariant_of-result c =
    record { are = blank-fits c.in-MergeSorted.order c.in-Ok.heads.items c.in-Ok.ensures }

pub returns-in-Ok-clause-begins : goal.returns-in-Ok-clause-begins
returns-in-Ok-clause-begins c =
    let order = c.in-MergeSorted.order in
    subst (λ s. Begins s (spec.MergeSorted order) (merging_own c.in-Ok.heads.items))
    (sym c.in-MergeSorted.is) (begins order c.in-Ok.heads.items c.in-Ok.ensures)
