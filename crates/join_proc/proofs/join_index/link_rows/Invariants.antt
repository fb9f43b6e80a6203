use Rattle.join_proc.proofs.Imports.{AreLinked, length, ◌-◌, ◌≡◌}
use Rattle.join_proc.proofs.join_index.link_rows.Given as goal

abbrev pub invariant-loop-done : goal.invariant-loop-done
invariant-loop-done l =
    AreLinked l.places (length l.places - l.done) l.firsts l.nexts
    × (length l.firsts ≡ length l.initial.firsts)
