use Rattle.node_workers.proofs.Imports.{All, IsLostThere, IsSameSeat, held, length, map, number_of, times, ℕ, ◌+◌, ◌≡◌, ◌≤◌}
use Rattle.node_workers.proofs.births.put_lost.Given as goal

abbrev pub invariant-loop-named : goal.invariant-loop-named
invariant-loop-named g l = record {
  seat : IsSameSeat l.initial.shelf l.shelf;
  lost : All (IsLostThere g.J.Naming.names g.P.Processor.seen) l.new.items;
  holds : (q : ℕ) → times q (map number_of l.new.items) ≤ times q (held l.shelf);
  left : (q : ℕ) → times q (held l.initial.shelf) + times q (map number_of l.new.items)
      ≡ times q (held l.shelf) + times q (map number_of l.fn.new.items);
}

abbrev pub decreases-loop-named : goal.decreases-loop-named
decreases-loop-named g l = length l.new.items
