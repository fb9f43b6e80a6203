use Rattle.proc_api.proofs.Imports.{take, vec_capacity, ◌≡◌, ◌≤◌}
use Rattle.proc_api.proofs.notes.copy_outputs.Given as goal

abbrev pub invariant-loop-o : goal.invariant-loop-o
invariant-loop-o l = (l.flags.items ≡ take l.o l.view.outputs) × (16 ≤ vec_capacity l.flags)
