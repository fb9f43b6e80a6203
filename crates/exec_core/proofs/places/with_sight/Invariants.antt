use Rattle.exec_core.proofs.Imports.{drop, seeing, take, ◌++◌, ◌≡◌}
use Rattle.exec_core.proofs.places.with_sight.Given as goal

abbrev pub invariant-loop-i : goal.invariant-loop-i
invariant-loop-i l = record {
  seen : l.seen.items ≡ l.initial.seen.items;
  list : seeing l.e l.flags l.fn.seen
      ≡ take l.i l.initial.seen.items ++ seeing l.e l.flags (drop l.i l.initial.seen.items);
}
