use Rattle.node_workers.proofs.Imports.{AwaitGrowth, HoldsMore, IsSameSeat, length, vec_capacity, ◌≡◌, ◌≤◌}
use Rattle.node_workers.proofs.births.take_all.Given as goal

abbrev pub invariant-loop-k : goal.invariant-loop-k
invariant-loop-k g l = record {
  seat : IsSameSeat l.initial.shelf l.shelf;
  held : HoldsMore l.new.items l.initial.shelf l.shelf;
  waiting : AwaitGrowth g.J.Naming.names g.P.Processor.seen l.places l.new.items;
  many : length l.new.items ≡ l.k;
  room : length l.places ≤ vec_capacity l.new;
}
