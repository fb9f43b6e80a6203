use Rattle.flow_procs.proofs.Imports.{arith, max, min, rules, ◌-◌, ◌<◌, ◌≡◌}
use Rattle.flow_procs.proofs.CountingLaws.{makes-some}
use Rattle.flow_procs.proofs.numbers.CountingKernel.make.Goals as goal

pub returns-in-Ok-clause-makes : goal.returns-in-Ok-clause-makes
returns-in-Ok-clause-makes c =
    let count : c.min-count.result ≡ min (c.args.self.now.end - c.args.self.now.next)
    (max c.args.self.now.rows 1) = search rules in
    let some : 0 < c.min-count.result = omega (arith, c.if-count-eq0.false) in
    makes-some c.args.self.now.next c.args.self.now.end c.args.self.now.rows c.min-count.result
    c.in-Ok.chunk count some c.in-Ok.ensures.types c.in-Ok.ensures.rows
