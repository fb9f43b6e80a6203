use Rattle.chunk_data.proofs.Imports.{ap, append_each, arith, column_type, drop, length, length-map, map, sym, take, value_range, ◌+◌, ◌∙◌, ◌≡◌, ◌≤◌}
use Rattle.chunk_data.proofs.Chunks.{all_reach, append_same, columns_after, length_rows, ranges_long, ranges_rows, rows_after}
use Rattle.chunk_data.proofs.row_chunk.Chunk.append_range.Goals as goal

pub append_ranges-requires-clause-in_range : goal.append_ranges-requires-clause-in_range
append_ranges-requires-clause-in_range c =
    let n : length c.args.other.now.rows ≡ c.other.inside.count =
    ap (λ t. length t.rows) (sym c.other.view_is) ∙ length_rows _ _ _ c.other.invariant in
    rw c.as_slice.ensures.value (all_reach c.other.inside.columns.items (c.args.from + c.args.n)
    c.other.inside.count c.other.invariant.long (omega arith))

pub invariant_of-self-2 : goal.invariant_of-self-2
invariant_of-self-2 c =
    let n : length c.args.other.now.rows ≡ c.other.inside.count =
    ap (λ t. length t.rows) (sym c.other.view_is) ∙ length_rows _ _ _ c.other.invariant in
    let le : c.args.from + c.args.n ≤ c.other.inside.count = omega arith in
    columns_after (λ cs. append_each cs (map (value_range c.args.from c.args.n)
    c.as_slice.result.now)) _ _ _ _ c.deref_mut.ensures.value (omega arith) (omega arith)
    c.in_ok-append_ranges.ensures.ok _ _ c.self.invariant.kinds c.append_ranges.ensures.kinds
    (rw (c.in-Some.ensures.1, c.as_slice.ensures.value)
    (ranges_long _ _ _ _ c.args.from _ c.self.invariant.long c.other.invariant.long le))

pub returns-clause-ok : goal.returns-clause-ok
returns-clause-ok c =
    let n : length c.args.other.now.rows ≡ c.other.inside.count =
    ap (λ t. length t.rows) (sym c.other.view_is) ∙ length_rows _ _ _ c.other.invariant in
    let le : c.args.from + c.args.n ≤ c.other.inside.count = omega arith in
    let wide : length c.other.inside.columns.items ≡ length c.self.inside.columns.items =
    sym (length-map _ column_type) ∙ ap length (c.other.invariant.kinds
    ∙ ap (λ t. t.types) c.other.view_is ∙ c.requires.types
    ∙ ap (λ t. t.types) (sym c.self.view_is) ∙ sym c.self.invariant.kinds)
    ∙ length-map _ column_type in
    rows_after (λ cs. append_each cs (map (value_range c.args.from c.args.n)
    c.as_slice.result.now)) _ _ _ _ c.deref_mut.ensures.value (omega arith) (omega arith)
    c.in_ok-append_ranges.ensures.ok _
    (rw (c.in-Some.ensures.1, c.as_slice.ensures.value)
    (ranges_rows _ _ _ _ c.args.from _ c.self.invariant.long c.other.invariant.long le wide))
    ∙ append_same (ap (λ t. t.rows) c.self.view_is)
    (ap (λ t. take c.args.n (drop c.args.from t.rows)) c.other.view_is)
