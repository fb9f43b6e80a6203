use Rattle.task_queue.proofs.QueueRule.{balanced-put, moment}
use Rattle.task_queue.proofs.queue.TaskQueue.put.Goals as goal

pub push_as-requires-clause-rule : goal.push_as-requires-clause-rule
push_as-requires-clause-rule g c = (balanced-put _ _ _ _, moment _ _)
