use Rattle.task_queue.proofs.QueueRule.{balanced-pass}
use Rattle.task_queue.proofs.queue.TaskQueue.pass.Goals as goal

pub another-requires-clause-rule : goal.another-requires-clause-rule
another-requires-clause-rule c = balanced-pass _ _
