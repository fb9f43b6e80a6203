use Rattle.std.proofs.Common.{Some, List, ◌≡◌, ℕ, sym, subst}
use Rattle.outside_io.specs.Told.{files_of}
use Rattle.qrun.proofs.Stocking.{all_blank, is_honest, standard_when, stocked_none}
use Rattle.qrun.proofs.tests.run_stocked.Goals as goal

pub run_shown-requires-clause-blank : goal.run_shown-requires-clause-blank
run_shown-requires-clause-blank g c κs lives =
    let files = Some (files_of c.args.files.now) in
    all_blank files _ _ (c.in_ok-add_each.ensures files _ (c.in_ok-add_told_sources-2.ensures _
    (c.in_ok-add_told_sources.ensures _ (stocked_none files _ _ c.new-rack.ensures))))

pub run_shown-requires-clause-honest : goal.run_shown-requires-clause-honest
run_shown-requires-clause-honest g c κs lives = λ t.
    let files = Some (files_of c.args.files.now) in
    let same = c.requires t in
    is_honest (files_of c.args.files.now) _
    (standard_when files c.args.sources.0 c.args.sources.1 c.args.others.now _ same.0 same.1 same.2
    (c.in_ok-add_each.ensures files _ (c.in_ok-add_told_sources-2.ensures _
    (c.in_ok-add_told_sources.ensures _ (stocked_none files _ _ c.new-rack.ensures)))))
