-- A join keeps what its kind says of the chunks that it worked.
use Rattle.join_proc.proofs.Imports.{FitsJoin, inl, ◌≡◌, ℕ, ◌<◌, true, [], ◌∷◌, ◌++◌, length, append_assoc, IsPermutation, Some, None, sym, ap, ◌∙◌, subst, arith, AreStarts, IsPermutation-append_left, JoinIndex, JoinSpec, JoinsSome, LeftRows, Lists, Makes, OwnState, Table, Takes, append-nil, chunk-elsewhere, chunk-here, chunk_rows, flat_map-append, joined_rows, joining_own, one-more, rows_to_join, with_chunk}
use Rattle.query_model.specs.declared.processor_spec.Spec.TheVariants as spec

-- the rows of an input with a chunk more, and those of another
here : (i : ℕ) (t : Table) (worked : Lists)
    → chunk_rows (with_chunk i t worked i) ≡ chunk_rows (worked i) ++ t.rows
here i t worked = ap chunk_rows (chunk-here i t worked) ∙ one-more (worked i) t

there : (i j : ℕ) (t : Table) (worked : Lists) → (j ≡ i → ⊥)
    → chunk_rows (with_chunk i t worked j) ≡ chunk_rows (worked j)
there i j t worked ne = ap chunk_rows (chunk-elsewhere i j t worked ne)

-- a left chunk of which nothing is joined yet, where no rows were left
pub takes-left : (join : JoinSpec) (old : OwnState) (x : JoinIndex) (l : LeftRows) (t : Table)
    → FitsJoin join 0 t.types → old.unmade ≡ [] → old.ended ≡ true → old.gathered ≡ x.rows ∷ []
    → AreStarts join.pairs t.rows x.rows.rows l
    → Takes (spec.HashJoin join) old 0 t (joining_own join x l) None
takes-left join old x l t fit none ended gathered s = record {
  means = λ y fits worked outs h.
      let made = chunk_rows (outs 0) ++ [] in
      let left = chunk_rows (worked 0) in
      let right : chunk_rows (worked 1) ≡ x.rows.rows =
      sym h.gathered_are ∙ ap chunk_rows gathered ∙ append-nil x.rows.rows in
      let all = h.joined ended in
      let more : joined_rows join.pairs (left ++ t.rows) x.rows.rows
      ≡ joined_rows join.pairs left x.rows.rows ++ joined_rows join.pairs t.rows x.rows.rows =
      flat_map-append _ left t.rows in
      record {
        gathered_are = append-nil x.rows.rows ∙ sym right ∙ sym (there 0 1 t worked
            (λ z. absurd (cc)));
        none_left = λ f. absurd (cc);
        none_made = λ f. absurd (cc);
        joined = λ f.
            subst (λ ls. IsPermutation (joined_rows join.pairs ls (chunk_rows
            (with_chunk 0 t worked 1))) (made ++ rows_to_join join.pairs x.rows.rows l))
            (sym (here 0 t worked))
            (subst (λ rs. IsPermutation (joined_rows join.pairs (left ++ t.rows) rs)
            (made ++ rows_to_join join.pairs x.rows.rows l))
            (sym (there 0 1 t worked (λ z. absurd (cc)) ∙ right))
            (subst (λ rows. IsPermutation rows (made ++ rows_to_join join.pairs x.rows.rows l))
            (sym more)
            (subst (λ rows. IsPermutation (joined_rows join.pairs left x.rows.rows
            ++ joined_rows join.pairs t.rows x.rows.rows) (made ++ rows)) (sym s.all_left)
            (IsPermutation-append_left (joined_rows join.pairs t.rows x.rows.rows) _ _
            (subst (λ rs. IsPermutation (joined_rows join.pairs left rs) made) right
            (subst (IsPermutation (joined_rows join.pairs left (chunk_rows (worked 1))))
            (ap (λ u. made ++ u) none ∙ append-nil made) all))))));
      };
  fits = inl fit;
  types = λ ins pulled. tt;
  sizes = tt;
  ends = λ j n. (n.0, ended);
}

-- ---- rows are made

pub makes : (join : JoinSpec) (x : JoinIndex) (old new : LeftRows) (c : Table)
    → JoinsSome join x old new c → c.types ≡ join.left ++ join.right
    → 0 < length (rows_to_join join.pairs x.rows.rows old)
    → Makes (spec.HashJoin join) (joining_own join x old) (joining_own join x new) (Some c)
makes join x old new c s types some = grind (arith, append-nil, append_assoc)
