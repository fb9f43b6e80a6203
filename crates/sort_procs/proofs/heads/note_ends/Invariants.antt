use Rattle.sort_procs.specs.Heads.{NotesEnds}
use Rattle.sort_procs.proofs.heads.note_ends.Given as goal

abbrev pub invariant-loop-i : goal.invariant-loop-i
invariant-loop-i l = NotesEnds l.view l.i l.initial.heads l.heads
