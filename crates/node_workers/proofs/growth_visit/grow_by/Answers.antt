use Rattle.node_workers.proofs.Imports.{Err, Ok, OnErr, Result, offers-none, refl, ◌≡◌}
use Rattle.node_workers.proofs.GrowthVisits.{keeps-itself}
use Rattle.node_workers.proofs.growth_visit.grow_by.Goals as goal

on-err : {A E X : Type 0} (r : Result A E) → X → OnErr r X
on-err (Ok a) x = tt
on-err (Err e) x = x

pub returns-in-Bare : goal.returns-in-Bare
returns-in-Bare g c = record {
  pass = c.requires.pass;
  offers = offers-none _ _;
  offers_none = on-err {X = c.args.tasks.now ≡ c.args.tasks.now} c.grow_by_nothing.result refl;
  shelf = keeps-itself c.args.shelf.now;
  grown = c.grow_by_nothing.ensures.grown;
  lost = c.grow_by_nothing.ensures.lost;
}
