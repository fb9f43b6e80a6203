use Rattle.chunk_data.proofs.Imports.{FitsTypes, [], ap, append_each, arith, column_type, length, length-map, map, subst, sym, values, ◌++◌, ◌∙◌, ◌∷◌, ◌≡◌}
use Rattle.chunk_data.proofs.Chunks.{columns_after, rows_after}
use Rattle.chunk_data.proofs.Laws.{length-FitsTypes}
use Rattle.chunk_data.proofs.Rows.{AreLong-joined, AreLong-row, rows_of_push}
use Rattle.chunk_data.proofs.row_chunk.Chunk.push_row.Goals as goal

pub invariant_of-self-2 : goal.invariant_of-self-2
invariant_of-self-2 c =
    columns_after (λ cs. append_each cs (map (λ v. v ∷ []) c.as_slice.result.now)) _ _ _ _
    c.deref_mut.ensures.value (omega arith) (omega arith) c.in_ok-push_all.ensures.ok _ _
    c.self.invariant.kinds c.push_all.ensures.kinds
    (rw c.in-Some.ensures.1 (AreLong-joined _ 1 _ _ c.self.invariant.long (AreLong-row _)))

pub returns-clause-ok : goal.returns-clause-ok
returns-clause-ok c =
    let t : FitsTypes c.self.inside.kinds c.args.row =
    subst (λ t. FitsTypes t.types c.args.row) (sym c.self.view_is) c.requires in
    let wide : length c.args.row ≡ length (map values c.self.inside.columns.items) =
    length-FitsTypes _ _ t ∙ ap length (sym c.self.invariant.kinds)
    ∙ length-map _ column_type ∙ sym (length-map _ values) in
    rows_after (λ cs. append_each cs (map (λ v. v ∷ []) c.as_slice.result.now)) _ _ _ _
    c.deref_mut.ensures.value (omega arith) (omega arith) c.in_ok-push_all.ensures.ok _
    (rw (c.in-Some.ensures.1, c.as_slice.ensures)
    (rows_of_push _ _ c.args.row c.self.invariant.long wide))
    ∙ ap (λ t. t.rows ++ c.args.row ∷ []) c.self.view_is
