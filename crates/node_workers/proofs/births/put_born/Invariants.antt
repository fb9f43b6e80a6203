use Rattle.node_workers.proofs.Imports.{All, AreOffered, FitsOwnPlace, IsPassOf, IsSameSeat, List, held, length, map, number_of, reverse, times, ℕ, ◌++◌, ◌+◌, ◌≡◌, ◌≤◌}
use Rattle.node_workers.proofs.births.put_born.Given as goal

abbrev pub invariant-loop-named : goal.invariant-loop-named
invariant-loop-named g l = record {
  pass : IsPassOf l.shared.queue l.tasks.pass;
  seat : IsSameSeat l.initial.shelf l.shelf;
  fit : All (FitsOwnPlace g.J.Naming.names g.P.Processor.seen) l.new.items;
  holds : (q : ℕ) → times q (map number_of l.new.items) ≤ times q (held l.shelf);
  left : (q : ℕ) → times q (held l.initial.shelf) + times q (map number_of l.new.items)
      ≡ times q (held l.shelf) + times q (map number_of l.fn.new.items);
  numbers : List ℕ;
  offered : AreOffered l.shared.queue l.initial.tasks numbers l.tasks;
  all : numbers ++ reverse (map number_of l.new.items) ≡ reverse (map number_of l.fn.new.items);
}

abbrev pub decreases-loop-named : goal.decreases-loop-named
decreases-loop-named g l = length l.new.items
