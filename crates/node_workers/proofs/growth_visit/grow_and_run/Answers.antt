use Rattle.node_workers.proofs.Imports.{Fault, Identity, IsStopped, LiesAs, Memory, None, grows_once, grows_turns, identity_of, offers-both, offers-none, refl, subst, turns-offer}
use Rattle.node_workers.proofs.GrowthVisits.{asked-fits, grown-fits, keeps-itself, run-lies, stored-expand}
use Rattle.node_workers.proofs.growth_visit.grow_and_run.Goals as goal

pub ask_flawless-requires-after_bounds : goal.ask_flawless-requires-after_bounds
ask_flawless-requires-after_bounds g c κs within = rw c.requires.shared.table (stored-expand
    g.P.Processor.seen g.J.Naming.names.identity c.args.named.now.cell c.requires.grows
    c.requires.fits.lies)

pub returns-in-Err-clause-offers : goal.returns-in-Err-clause-offers
returns-in-Err-clause-offers g c = offers-none _ _

pub returns-in-Err-clause-shelf : goal.returns-in-Err-clause-shelf
returns-in-Err-clause-shelf g c = keeps-itself c.args.shelf.now

pub returns-in-Err-clause-fits : goal.returns-in-Err-clause-fits
returns-in-Err-clause-fits g c = let cell = c.args.named.now.cell in let x = g.J.Naming.names in
    let seen = g.P.Processor.seen in
    asked-fits seen x c.args.n cell c.ask_flawless.new.cell c.args.named.now.note c.in-Err.stop
    c.requires.fits (stored-expand seen x.identity cell c.requires.grows c.requires.fits.lies)
    c.in-Err.ensures.stays (rw c.requires.shared.table at c.in-Err.ensures.stop)

pub returns-in-Err-clause-grows : goal.returns-in-Err-clause-grows
returns-in-Err-clause-grows g c = grows_once c.in-Err.stop refl c.in-Err.ensures.stop.holds refl

pub grow_by-requires-clause-asked : goal.grow_by-requires-clause-asked
grow_by-requires-clause-asked g c κs within = let cell = c.args.named.now.cell in
    let x = g.J.Naming.names in let seen = g.P.Processor.seen in record {
      stored = cell;
      fits = c.requires.fits;
      at_work = stored-expand seen x.identity cell c.requires.grows c.requires.fits.lies;
      flawless = rw c.requires.shared.table at c.in-Ok.ensures.ok;
    }

pub returns-in-Err-grow_by-clause-grows : goal.returns-in-Err-grow_by-clause-grows
returns-in-Err-grow_by-clause-grows g c =
    grows_once Memory refl tt c.in-Err-grow_by.ensures.offers_none

pub run_node-requires-clause-cell : goal.run_node-requires-clause-cell
run_node-requires-clause-cell g c κs within = rw c.requires.shared.table
    c.in-Ok-grow_by.ensures.grown.due

pub returns-in-Ok-run_node-clause-offers : goal.returns-in-Ok-run_node-clause-offers
returns-in-Ok-run_node-clause-offers g c =
    offers-both _ _ _ _ c.grow_by.ensures.offers (turns-offer c.in-Ok-run_node.ensures.turns)

pub returns-in-Ok-run_node-clause-fits : goal.returns-in-Ok-run_node-clause-fits
returns-in-Ok-run_node-clause-fits g c = let seen = g.P.Processor.seen in
    grown-fits seen _ _ _ _ _ _ c.in-Ok-grow_by.ensures.grown c.in-Ok-run_node.ensures.stays (subst
    (λ (t : Identity). LiesAs seen t None c.run_node.new.cell) c.requires.shared.table (run-lies
    seen (identity_of c.args.shared.now.table) c.in-Ok-run_node.end c.run_node.new.cell
    c.in-Ok-run_node.ensures.ok))

pub returns-in-Ok-run_node-clause-grows : goal.returns-in-Ok-run_node-clause-grows
returns-in-Ok-run_node-clause-grows g c = grows_turns c.grow_by.new.named.cell c.grow_by.new.tasks
    c.in-Ok-grow_by.ensures.grown.acted c.grow_by.ensures.offers record {
      due = rw c.requires.shared.table c.in-Ok-grow_by.ensures.grown.due;
      turns = c.in-Ok-run_node.ensures.turns;
    }

pub returns-in-Err-run_node-clause-offers : goal.returns-in-Err-run_node-clause-offers
returns-in-Err-run_node-clause-offers g c =
    offers-both _ _ _ _ c.grow_by.ensures.offers (turns-offer c.in-Err-run_node.ensures.turns)

pub returns-in-Err-run_node-clause-fits : goal.returns-in-Err-run_node-clause-fits
returns-in-Err-run_node-clause-fits g c = let stop = Fault c.in-Err-run_node.fault in
    grown-fits g.P.Processor.seen _ _ _ _ _ _ c.in-Ok-grow_by.ensures.grown
    c.in-Err-run_node.ensures.stays (subst (λ (t : Identity). IsStopped g.P.Processor.seen t stop
    c.run_node.new.cell) c.requires.shared.table c.in-Err-run_node.ensures.fault)

pub returns-in-Err-run_node-clause-grows : goal.returns-in-Err-run_node-clause-grows
returns-in-Err-run_node-clause-grows g c = grows_turns c.grow_by.new.named.cell c.grow_by.new.tasks
    c.in-Ok-grow_by.ensures.grown.acted c.grow_by.ensures.offers record {
      due = rw c.requires.shared.table c.in-Ok-grow_by.ensures.grown.due;
      turns = c.in-Err-run_node.ensures.turns;
    }
