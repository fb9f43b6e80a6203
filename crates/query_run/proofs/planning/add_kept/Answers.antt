use Rattle.query_run.proofs.Imports.{rules}
use Rattle.query_run.proofs.NextKept.{place-pushed}
use Rattle.query_run.proofs.planning.add_kept.Goals as goal

pub loop-part-preserved : goal.loop-part-preserved
loop-part-preserved c = place-pushed c.args.places.now.items c.loop-part.places.items _ c.args.table
    c.loop-part.part c.place_of.result c.loop-part.invariant (search rules)
    c.place_of.ensures.table c.place_of.ensures.part
