use Rattle.std.proofs.Common.{◌≡◌, ◌∙◌, length, sym, arith}
use Rattle.proc_api.specs.Clauses.{Unloads}
use Rattle.plan_run.proofs.Loading.{all-changed, map-len, none-changed, one-changed, unloaded-blank}
use Rattle.qrun.proofs.racks.unload_boxes.Goals as goal

pub loop-i-init : goal.loop-i-init
loop-i-init g c = none-changed _ _

pub loop-i-preserved : goal.loop-i-preserved
loop-i-preserved g c = one-changed c.loop-i.i _ _ _ _ c.loop-i.invariant c.unload_at.ensures

pub returns : goal.returns
returns g c =
    let end : c.loop-i.i ≡ length c.args.boxes.now.items = omega arith in
    unloaded-blank _ _ (all-changed c.loop-i.i Unloads _ _
    (map-len _ c.args.boxes.now.items ∙ sym end) c.loop-i.invariant)
