use Rattle.std.proofs.Common.{arith, append_assoc}
use Rattle.plan_laws.proofs.graph.Building.{ports-more}
use Rattle.plan_laws.proofs.builder.add_outputs.Goals as goal

pub loop-port-preserved : goal.loop-port-preserved
loop-port-preserved c = grind (arith, ports-more, append_assoc)
