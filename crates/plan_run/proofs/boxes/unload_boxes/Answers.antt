use Rattle.plan_run.proofs.Imports.{arith}
use Rattle.plan_run.proofs.Loading.{all-changed, map-len, none-changed, one-changed, unloaded-blank}
use Rattle.plan_run.proofs.boxes.unload_boxes.Goals as goal

pub loop-i-init : goal.loop-i-init
loop-i-init g c = none-changed _ _

pub loop-i-preserved : goal.loop-i-preserved
loop-i-preserved g c = one-changed c.loop-i.i _ _ _ _ c.loop-i.invariant c.unload_at.ensures

pub returns-clause-unloaded : goal.returns-clause-unloaded
returns-clause-unloaded g c = grind (arith, all-changed, map-len)

pub returns-clause-blank : goal.returns-clause-blank
returns-clause-blank g c = unloaded-blank _ _ (returns-clause-unloaded g c)
