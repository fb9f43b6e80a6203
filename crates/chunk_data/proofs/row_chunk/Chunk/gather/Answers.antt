use Rattle.chunk_data.proofs.Imports.{ap, length, map, row_at, sym, ◌∙◌, ◌≡◌}
use Rattle.chunk_data.proofs.Chunks.{places_step, length_rows}
use Rattle.chunk_data.proofs.row_chunk.Chunk.gather.Goals as goal

pub gather_all-requires-clause-in_range : goal.gather_all-requires-clause-in_range
gather_all-requires-clause-in_range c =
    let n : length c.args.self.now.rows ≡ c.self.inside.count =
    ap (λ t. length t.rows) (sym c.self.view_is) ∙ length_rows _ _ _ c.self.invariant in
    rw n at c.requires

pub invariant_of-result : goal.invariant_of-result
invariant_of-result c =
    let n : length c.args.self.now.rows ≡ c.self.inside.count =
    ap (λ t. length t.rows) (sym c.self.view_is) ∙ length_rows _ _ _ c.self.invariant in
    rw c.in_ok-kinds.ensures
    ((places_step _ _ _ _ c.args.places.now _ c.self.invariant (rw n at c.requires)
    c.as_slice.ensures.value c.in_ok-columns.ensures.kinds c.in_ok-columns.ensures.gathered).0)

pub returns-clause-rows : goal.returns-clause-rows
returns-clause-rows c =
    let n : length c.args.self.now.rows ≡ c.self.inside.count =
    ap (λ t. length t.rows) (sym c.self.view_is) ∙ length_rows _ _ _ c.self.invariant in
    (places_step _ _ _ _ c.args.places.now _ c.self.invariant (rw n at c.requires)
    c.as_slice.ensures.value c.in_ok-columns.ensures.kinds c.in_ok-columns.ensures.gathered).1
    ∙ ap (λ t. map (row_at t.rows) c.args.places.now) c.self.view_is
