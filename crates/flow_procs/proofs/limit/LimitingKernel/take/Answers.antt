use Rattle.flow_procs.proofs.Imports.{Some, Spec, Takes, arith, eqb-true, length, min, read_own, rules, subst, sym, ◌+◌, ◌-◌, ◌^◌, ◌≡◌}
use Rattle.flow_procs.proofs.LimitLaws.{takes}
use Rattle.flow_procs.proofs.limit.LimitingKernel.take.Goals as goal

pub returns-clause-takes : goal.returns-clause-takes
returns-clause-takes c = λ wanted.
    let k = c.args.self.now in
    let read : c.saturating_add-self.result
    ≡ min (k.read + length c.args.chunk.rows) (2 ^ 128 - 1) = search rules in
    subst (λ n. Takes (Spec.Limit k.span) (read_own k.read) c.args._input c.args.chunk
    (read_own n) (Some c.remove_front.new.self)) (sym read)
    (takes k.span k.read c.args._input c.args.chunk c.remove_front.new.self
    (eqb-true c.args._input 0 wanted) (omega arith) (omega arith) (search rules)
    (cc (
      c.remove_front.ensures.rows,
      c.truncate.ensures.rows,
      c.rows_before.ensures,
      c.rows_before-2.ensures,
      c.rows-rows.ensures.count,
    )))
