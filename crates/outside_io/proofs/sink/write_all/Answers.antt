use Rattle.std.proofs.Common.{rules, arith}
use Rattle.outside_io.proofs.Growing.{GrewBy-rest}
use Rattle.outside_io.proofs.sink.write_all.Goals as goal

pub loop-at-preserved : goal.loop-at-preserved
loop-at-preserved g c = record {
  within = grind arith;
  grew = GrewBy-rest _ _ _ _ _ _ c.loop-at.invariant.grew c.in-Ok.ensures.grew;
  faultless = search rules;
}
