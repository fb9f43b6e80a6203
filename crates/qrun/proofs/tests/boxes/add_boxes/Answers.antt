use Rattle.std.proofs.Common.{arith}
use Rattle.qrun.proofs.Stocking.{adds_all, adds_more, adds_none}
use Rattle.qrun.proofs.tests.boxes.add_boxes.Goals as goal

pub loop-n-init : goal.loop-n-init
loop-n-init g c = λ files. adds_none c.args.kind files _

pub loop-n-preserved : goal.loop-n-preserved
loop-n-preserved g c = λ files. adds_more c.args.kind c.loop-n.n 1 files _ _ _
    (c.loop-n.invariant files) (c.in_ok-add_box.ensures files)

pub returns : goal.returns
returns g c = λ files. adds_all c.args.kind c.loop-n.n c.args.count files _ _ (omega arith)
    (c.loop-n.invariant files)
