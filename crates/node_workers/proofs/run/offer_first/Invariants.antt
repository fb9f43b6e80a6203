use Rattle.node_workers.proofs.Imports.{IsPassOf, OffersNumbers}
use Rattle.node_workers.proofs.run.offer_first.Given as goal

abbrev pub invariant-loop-k : goal.invariant-loop-k
invariant-loop-k g l = IsPassOf l.queue l.tasks.pass × OffersNumbers l.queue l.initial.tasks l.tasks
