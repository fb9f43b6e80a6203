use Rattle.node_workers.proofs.Imports.{IsWorkerAt, parts_of, ◌≡◌}
use Rattle.node_workers.proofs.worker.run_worker.Given as goal

abbrev pub invariant-loop : goal.invariant-loop
invariant-loop g l = IsWorkerAt l.shared l.worker × (parts_of l.worker ≡ parts_of l.initial.worker)
