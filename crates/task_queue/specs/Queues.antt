-- What clauses say of a queue of numbers and its passes.
use Rattle.std.specs.Prelude.{◌≡◌, ℕ, List, []}
use Rattle.crossbeam_queue.specs.Fifo.{Held}
use Rattle.crossbeam_queue.specs.Passes as passes
use Rattle.task_queue.specs.declared.queue.TaskQueue.{TaskQueue}
use Rattle.task_queue.specs.declared.queue.QueuePass.{QueuePass}
use Rattle.task_queue.specs.Passages.{IsMoment}

-- the numbers that were put through the pass, in order
abbrev pub put_by : QueuePass → List ℕ
put_by p = (passes.view p.pass).put

-- the numbers that were taken through the pass, in order
abbrev pub taken_through : QueuePass → List ℕ
taken_through p = (passes.view p.pass).taken

abbrev pub capacity_of : TaskQueue → ℕ
capacity_of q = passes.ruled_capacity q.queue

abbrev pub IsPassOf : TaskQueue → QueuePass → Type 0
IsPassOf q p = passes.IsPassOf q.queue p.pass

-- a pass of the queue through which nothing has gone
abbrev pub IsNewPassOf : TaskQueue → QueuePass → Type 0
IsNewPassOf q p = IsPassOf q p × (put_by p ≡ []) × (taken_through p ≡ [])

-- it is a pass of the same queue, with the same number
abbrev pub IsSamePass : QueuePass → QueuePass → Type 0
IsSamePass old new = passes.IsSamePass old.pass new.pass

-- the queue held n numbers at a moment of the call
abbrev pub WasAt : ℕ → QueuePass → Type 0
WasAt n p = Held n (IsMoment (passes.view p.pass))
