use Rattle.std.proofs.Common.{Some, arith}
use Rattle.outside_io.specs.Told.{files_of}
use Rattle.qrun.proofs.Stocking.{adds_all, adds_more}
use Rattle.qrun.proofs.tests.add_told_sources.Goals as goal

pub loop-n-preserved : goal.loop-n-preserved
loop-n-preserved g c = adds_more c.args.kind c.loop-n.n 1
    (Some (files_of c.args.files.now)) _ _ _
    c.loop-n.invariant c.in_ok-add_told.ensures

pub returns : goal.returns
returns g c = adds_all c.args.kind c.loop-n.n c.args.count
    (Some (files_of c.args.files.now)) _ _ (omega arith) c.loop-n.invariant
