use Rattle.std.proofs.Common.{length, map, reverse, vec_capacity, ◌++◌, ◌+◌, ◌≡◌, ◌≤◌}
use Rattle.pipeline_exec.specs.WorkerRuns.{cell_of}
use Rattle.pipeline_exec.proofs.worker_run.move_cells.Given as goal

abbrev pub invariant-loop-last : goal.invariant-loop-last
invariant-loop-last g l = record {
  all : l.cells.items ++ map cell_of (reverse l.ended.items) ≡ map cell_of l.fn.ended.items;
  room : length l.cells.items + length l.ended.items ≤ vec_capacity l.cells;
}

abbrev pub decreases-loop-last : goal.decreases-loop-last
decreases-loop-last g l = length l.ended.items
