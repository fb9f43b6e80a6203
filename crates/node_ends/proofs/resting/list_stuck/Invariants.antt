use Rattle.node_ends.proofs.Imports.{boxes_in, drop, length, stuck_from, vec_capacity, ◌++◌, ◌≡◌, ◌≤◌}
use Rattle.node_ends.proofs.resting.list_stuck.Given as goal

abbrev pub invariant-loop-n : goal.invariant-loop-n
invariant-loop-n g l = record {
  items : l.report.items ++ stuck_from l.n (drop l.n (boxes_in g.P.Processor.seen l.cells.items))
      ≡ stuck_from 0 (boxes_in g.P.Processor.seen l.cells.items);
  few : length l.report.items ≤ l.n;
  room : vec_capacity l.initial.report ≤ vec_capacity l.report;
}
