use Rattle.chunk_data.proofs.Imports.{ap, arith, kept, length, map, sym, ◌∙◌, ◌≡◌}
use Rattle.chunk_data.proofs.Chunks.{columns_after, length_rows, rows_after}
use Rattle.chunk_data.proofs.Rows.{AreLong-kept, rows_of-kept}
use Rattle.chunk_data.proofs.row_chunk.Chunk.keep.Goals as goal

pub keep_all-requires : goal.keep_all-requires
keep_all-requires c = search (arith, length_rows)

pub invariant_of-self : goal.invariant_of-self
invariant_of-self c =
    let n : length c.args.mask.now ≡ c.self.inside.count = c.requires
    ∙ ap (λ t. length t.rows) (sym c.self.view_is) ∙ length_rows _ _ _ c.self.invariant in
    columns_after (map (kept c.args.mask.now)) _ _ _ _ c.deref_mut.ensures.value (omega arith)
    (omega arith)
    c.keep_all.ensures.kept _ _ c.self.invariant.kinds c.keep_all.ensures.kinds
    (rw c.count_true-self-inside.ensures (AreLong-kept _ _ _ c.self.invariant.long n))

pub returns-clause-rows : goal.returns-clause-rows
returns-clause-rows c =
    let n : length c.args.mask.now ≡ c.self.inside.count = c.requires
    ∙ ap (λ t. length t.rows) (sym c.self.view_is) ∙ length_rows _ _ _ c.self.invariant in
    rows_after (map (kept c.args.mask.now)) _ _ _ _ c.deref_mut.ensures.value (omega arith)
    (omega arith)
    c.keep_all.ensures.kept _
    (rw c.count_true-self-inside.ensures (rows_of-kept _ _ _ c.self.invariant.long n))
    ∙ ap (λ t. kept c.args.mask.now t.rows) c.self.view_is
