use Rattle.std.proofs.Common.{rules, arith}
use Rattle.qrun.proofs.Stocking.{adds_every, adds_next}
use Rattle.qrun.proofs.tests.boxes.add_each.Goals as goal

pub loop-i-init : goal.loop-i-init
loop-i-init g c = λ files stock s. s

pub loop-i-preserved : goal.loop-i-preserved
loop-i-preserved g c = adds_next c.args.stock.now c.loop-i.i _ _ _ _ (omega arith)
    (search rules) c.loop-i.invariant c.in_ok-add_boxes.ensures

pub returns : goal.returns
returns g c = adds_every c.args.stock.now c.loop-i.i _ _ (omega arith) c.loop-i.invariant
