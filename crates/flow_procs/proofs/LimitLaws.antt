-- A limit makes of its chunks the rows of its span.
use Rattle.flow_procs.proofs.Imports.{AreLimited, IsPulled, List, Row, Some, Span, Spec, Table, Takes, append-nil, chunk_rows, drop, inl, last_read, length, limited-more, min, read_own, rows-here, subst, sym, take, with_chunk, ℕ, ◌++◌, ◌+◌, ◌-◌, ◌<◌, ◌^◌, ◌≡◌}

pub takes : (span : Span) (read i : ℕ) (t u : Table) → i ≡ 0 → span.skip < 2 ^ 64
    → span.count < 2 ^ 64 → u.types ≡ t.types
    → u.rows ≡ drop (min (span.skip - read) (length t.rows))
    (take (min (span.skip + span.count - read) (length t.rows)) t.rows)
    → Takes (Spec.Limit span) (read_own read) i t
    (read_own (min (read + length t.rows) last_read)) (Some u)
takes span read i t u z a b types rows = record {
  means = λ x fits worked outs h.
      let R : List Row → List Row → ℕ → Type 0 = AreLimited span in
      subst (λ n. R (chunk_rows (with_chunk n t worked 0)) (chunk_rows (outs 0) ++ u.rows)
      (min (read + length t.rows) last_read)) (sym z)
      (subst (λ l. R l (chunk_rows (outs 0) ++ u.rows) (min (read + length t.rows) last_read))
      (sym (rows-here t worked))
      (limited-more span read (chunk_rows (worked 0)) (chunk_rows (outs 0)) t u a b rows
      (subst (λ l. R (chunk_rows (worked 0)) l read) (append-nil (chunk_rows (outs 0))) h)));
  fits = inl tt;
  types = λ ins pulled. subst (λ x. IsPulled ins x) (sym types) pulled;
  sizes = tt;
  ends = λ i n. n;
}
