use Rattle.task_queue.proofs.KeptNumbers.{only-unset}
use Rattle.task_queue.proofs.tasks.WorkerTasks.let_go.Goals as goal

pub invariant_of-self : goal.invariant_of-self
invariant_of-self c =
    let none = only-unset c.args.self.now.kept c.args.n
    (c.args.self.now.alone c.args.n c.requires.only) in
    record { bare = λ _. none; alone = λ _ _ m _. none m }
