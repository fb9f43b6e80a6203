use Rattle.task_queue.proofs.QueueRule.{balanced-take, moment}
use Rattle.task_queue.proofs.queue.TaskQueue.take.Goals as goal

pub pop_as-requires-clause-rule : goal.pop_as-requires-clause-rule
pop_as-requires-clause-rule g c = (balanced-take _ _, moment _ _)
