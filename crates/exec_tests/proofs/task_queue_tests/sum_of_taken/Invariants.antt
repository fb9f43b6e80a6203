use Rattle.task_queue.specs.Queues.{IsPassOf}
use Rattle.exec_tests.proofs.task_queue_tests.sum_of_taken.Given as goal

abbrev pub invariant-loop-n : goal.invariant-loop-n
invariant-loop-n g l = IsPassOf l.queue l.pass
