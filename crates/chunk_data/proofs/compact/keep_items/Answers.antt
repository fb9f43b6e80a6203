use Rattle.chunk_data.proofs.Imports.{ap, arith, ◌+◌, ◌∙◌}
use Rattle.chunk_data.proofs.Keeps.{KeepsInPlace-more, bool_byte-cond}
use Rattle.chunk_data.proofs.compact.keep_items.Goals as goal

pub loop-i-preserved : goal.loop-i-preserved
loop-i-preserved g c =
    KeepsInPlace-more c.index.result.now _ c.loop-i.invariant (omega arith) (omega arith)
    c.index.ensures
    (ap (λ n. c.loop-i.count + n) (c.from-count.ensures ∙ bool_byte-cond _))
