use Rattle.proc_api.proofs.Imports.{count_by, is_of, take, ◌≡◌, ◌≤◌}
use Rattle.proc_api.proofs.rack.Rack.count.Given as goal

abbrev pub invariant-loop-b : goal.invariant-loop-b
invariant-loop-b g l = (l.count ≡ count_by (λ b. is_of l.kind ((goal.Processor-dyn g
    (b.vtable, b.value)).seen b.value)) (take l.b-index l.self.boxes.items)) × (l.count ≤ l.b-index)
