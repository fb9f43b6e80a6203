use Rattle.proc_shell.proofs.Imports.{AreMoved, HasSpecPorts, Prepared, Some, false, in_count, is_wanted, may_hold, true, ◌≡◌, ◌≤◌}
use Rattle.proc_shell.proofs.turns.move_chunks.Given as goal

abbrev pub invariant-loop-next : goal.invariant-loop-next
invariant-loop-next g l =
    AreMoved g.K.Kernel.kind_is (g.K.Kernel.state l.fn.kernel) l.fn.held l.fn.view
    l.fn.pulled (g.K.Kernel.state l.kernel) l.held l.view l.pulled l.status
    × (is_wanted (g.K.Kernel.open_to l.kernel) g.K.Kernel.makes l.held ≡ true)
    × (may_hold (Some (Prepared l.status)) false l.held ≡ true)
    × HasSpecPorts (g.K.Kernel.state l.kernel) l.view
    × (in_count l.view ≤ 32)
