use Rattle.chunk_data.proofs.Keeps.{KeepsInPlace}
use Rattle.chunk_data.proofs.compact.keep_items.Given as goal

abbrev pub invariant-loop-i : goal.invariant-loop-i
invariant-loop-i g l = KeepsInPlace l.mask l.initial.items.items l.items.items l.count l.i
