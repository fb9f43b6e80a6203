use Rattle.proc_api.proofs.Imports.{count_by, is_of, map, take, ◌≡◌}
use Rattle.proc_api.proofs.rack.Rack.place_of.Given as goal

abbrev pub invariant-loop-i : goal.invariant-loop-i
invariant-loop-i g l = count_by (is_of l.kind) (take l.i
    (map (λ b. (goal.Processor-dyn g (b.vtable, b.value)).seen b.value) l.self.boxes.items)) ≡ 0
