use Rattle.proc_api.proofs.Imports.{InputPort, map, take, vec_capacity, ◌≡◌, ◌≤◌}
use Rattle.proc_api.proofs.notes.copy_inputs.Given as goal

abbrev pub invariant-loop-i : goal.invariant-loop-i
invariant-loop-i l = (l.flags.items ≡ take l.i (map (λ (x : InputPort). x.flags) l.view.inputs))
    × (32 ≤ vec_capacity l.flags)
