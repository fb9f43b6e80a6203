use Rattle.chunk_data.proofs.KeepsTexts.{KeepsTexts}
use Rattle.chunk_data.proofs.text_column.keep_texts.Given as goal

abbrev pub invariant-loop-i : goal.invariant-loop-i
invariant-loop-i l = KeepsTexts l.mask l.initial.bytes.items l.initial.ends.items l.bytes.items
    l.ends.items l.written l.count l.start l.i
