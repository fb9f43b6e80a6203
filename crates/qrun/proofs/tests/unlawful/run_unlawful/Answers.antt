use Rattle.qrun.proofs.Stocking.{all_blank, stocked_none}
use Rattle.qrun.proofs.tests.unlawful.run_unlawful.Goals as goal

pub run_shown-requires-clause-blank : goal.run_shown-requires-clause-blank
run_shown-requires-clause-blank g c κs lives = c.in_ok-put_unlawful.ensures
    (all_blank _ _ _ (c.in_ok-add_each.ensures _ _ (c.in_ok-add_told_sources.ensures _
    (stocked_none _ _ _ c.new-rack.ensures))))
