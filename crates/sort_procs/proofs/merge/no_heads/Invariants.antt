use Rattle.sort_procs.specs.Heads.{AreBlank}
use Rattle.sort_procs.proofs.merge.no_heads.Given as goal

abbrev pub invariant-loop-input : goal.invariant-loop-input
invariant-loop-input l = AreBlank l._input l.heads.items
