use Rattle.task_queue.proofs.KeptNumbers.{none-set}
use Rattle.task_queue.proofs.tasks.WorkerTasks.new.Goals as goal

pub invariant_of-result : goal.invariant_of-result
invariant_of-result c = record { bare = λ _. none-set 256; alone = λ _ _ m _. none-set 256 m }
