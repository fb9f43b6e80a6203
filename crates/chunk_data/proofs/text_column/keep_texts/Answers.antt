use Rattle.chunk_data.proofs.Imports.{arith, refl}
use Rattle.chunk_data.proofs.KeepsTexts.{KeepsTexts-next, KeepsTexts-more_yes, KeepsTexts-more_no, KeepsTexts-all, KeepsTexts-ends}
use Rattle.chunk_data.proofs.text_column.keep_texts.Goals as goal
use Rattle.chunk_data.proofs.text_column.keep_texts.Goals.{then-mask-i, else-mask-i}

pub copy_within-requires-clause-start_le_end : goal.copy_within-requires-clause-start_le_end
copy_within-requires-clause-start_le_end c = (KeepsTexts-next c.index-end.result.now
    c.loop-i.invariant c.requires.ends (omega arith) c.index-end.ensures).0

pub copy_within-requires-clause-in_bounds : goal.copy_within-requires-clause-in_bounds
copy_within-requires-clause-in_bounds c = search (arith, KeepsTexts-next)

pub copy_within-requires-clause-dest_in_bounds : goal.copy_within-requires-clause-dest_in_bounds
copy_within-requires-clause-dest_in_bounds c = search (arith, KeepsTexts-next)

pub overflow_sub-written : goal.overflow_sub-written
overflow_sub-written c = (KeepsTexts-next c.index-end.result.now c.loop-i.invariant c.requires.ends
    (omega arith) c.index-end.ensures).0

pub loop-i-preserved : goal.loop-i-preserved
loop-i-preserved c =
    elim c.if-mask-i.branch [
      | then-mask-i w ↦
          rw (w.bytes-is, w.ends-is, w.written-is, w.count-is, w.copy_within.ensures.items)
          (KeepsTexts-more_yes c.index-end.result.now _ c.loop-i.invariant c.requires.ends
          (omega arith) (omega arith) c.index-end.ensures w.if-mask-i.true refl)
      | else-mask-i w ↦
          rw (w.bytes-is, w.ends-is, w.written-is, w.count-is)
          (KeepsTexts-more_no c.index-end.result.now c.loop-i.invariant c.requires.ends
          (omega arith) (omega arith) c.index-end.ensures w.if-mask-i.false)
    ]

pub returns-clause-ends : goal.returns-clause-ends
returns-clause-ends c = rw (c.truncate.ensures.items, c.truncate-2.ensures.items)
    (KeepsTexts-ends c.loop-i.invariant c.requires.ends (omega arith))

pub returns-clause-kept : goal.returns-clause-kept
returns-clause-kept c = rw (c.truncate.ensures.items, c.truncate-2.ensures.items)
    (KeepsTexts-all c.loop-i.invariant (omega arith) (omega arith))
