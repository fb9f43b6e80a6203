use Rattle.std.proofs.Common.{length, map, reverse, vec_capacity, ◌++◌, ◌+◌, ◌≡◌, ◌≤◌}
use Rattle.pipeline_exec.specs.WorkerRuns.{processor_of}
use Rattle.pipeline_exec.proofs.worker_run.give_boxes.Given as goal

abbrev pub invariant-loop-cell : goal.invariant-loop-cell
invariant-loop-cell g l = record {
  all : l.boxes.items ++ map processor_of (reverse l.cells.items)
      ≡ map processor_of l.fn.cells.items;
  room : length l.boxes.items + length l.cells.items ≤ vec_capacity l.boxes;
}

abbrev pub decreases-loop-cell : goal.decreases-loop-cell
decreases-loop-cell g l = length l.cells.items
