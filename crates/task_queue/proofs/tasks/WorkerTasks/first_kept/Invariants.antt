use Rattle.std.proofs.Common.{◌≡◌, ℕ, ◌<◌, false, slice_index_or}
use Rattle.task_queue.proofs.tasks.WorkerTasks.first_kept.Given as goal

abbrev pub invariant-loop-n : goal.invariant-loop-n
invariant-loop-n l = (l.self ≡ l.initial.self)
    × ((m : ℕ) → m < l.n → slice_index_or l.self.kept m false ≡ false)
