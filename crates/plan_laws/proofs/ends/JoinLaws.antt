-- What a join keeps is what it gives.
use Rattle.proc_api.specs.Names.{IsJoinWork, IsWorkOf}
use Rattle.plan_laws.proofs.Imports.{Bool, KeepsWorked, List, [], ap, append_assoc, arith, false, refl, subst, true, ◌++◌, ◌<◌, ◌∙◌, ◌≡◌, BoxPicture, GivesJoined, IsPermutation-append_left, IsPermutation-refl, IsReadUp, JoinSpec, Lists, Row, and_parts, append-nil, chunk_rows, joined_rows, joined_rows-append, rows-append, unworked_at, KeepsContract, KindGives, in_stream, out_stream, ℕ}
use Rattle.query_model.specs.declared.processor_spec.Spec.TheVariants as spec
use Rattle.plan_laws.proofs.ends.KindLaws.{all-worked-at, at-ports, kept-rows, one-output, stays-open}
use Rattle.plan_laws.proofs.ends.SortLaws.{all-fit-at, front-none, read-up}

module _ (join : JoinSpec) (files : _) (p : BoxPicture) (ins outs : Lists)
    (k : KeepsContract (spec.HashJoin join) files 2 1 p ins outs)
    (m : KeepsWorked (spec.HashJoin join) p ins outs) where
  abbrev out : List Row
  out = chunk_rows (outs 0)

  abbrev waits : List Row
  waits = chunk_rows p.work.made ++ p.work.unmade

  abbrev right : List Row
  right = chunk_rows (ins 1)

  -- the rows of the first input that aren't worked yet
  abbrev others : List Row
  others = chunk_rows (unworked_at p.work 0)

  -- both inputs are done where the output is
  input-done : (i : ℕ) → i < 2 → (out_stream p outs 0).done ≡ true → (in_stream p ins i).done ≡ true
  input-done i lt = stays-open k i 0 lt (omega arith) (λ x. x)

  -- before the end of the second input is noted nothing is pulled of the first
  none-pulled : p.work.ended ≡ false → chunk_rows (ins 0) ≡ []
  none-pulled e =
      let idle : IsJoinWork p.work = subst (λ s. IsWorkOf s p.work) k.loaded k.keeps.idle in
      let none : others ≡ [] = ap chunk_rows (idle.right_first e) in
      ap chunk_rows (m.ins_are 0) ∙ rows-append (m.worked 0) (unworked_at p.work 0)
      ∙ rw (m.rows.none_left e, none) refl

  pairs-given : GivesJoined join.pairs (in_stream p ins 0) (in_stream p ins 1) (out_stream p outs 0)
  pairs-given = go p.work.ended refl
    where
      go : (b : Bool) → p.work.ended ≡ b
          → GivesJoined join.pairs (in_stream p ins 0) (in_stream p ins 1) (out_stream p outs 0)
      go false e = search (arith, none-pulled, front-none, IsPermutation-refl, input-done)
      go true e =
          let end : IsReadUp p 1 = read-up k 1 (omega arith) (refl, e) in
          let read : chunk_rows (m.worked 1) ≡ right = grind (arith, append-nil) in
          let done : List Row = chunk_rows (m.worked 0) in
          let more : List Row = joined_rows join.pairs others right in
          let whole : joined_rows join.pairs (chunk_rows (ins 0)) right ≡ joined_rows join.pairs
          done right ++ more = grind (arith, rows-append, joined_rows-append) in
          let made : List Row = chunk_rows p.work.made in
          let grouped : ((out ++ made) ++ p.work.unmade) ++ more ≡ out ++ (waits ++ more) =
          grind (arith, append_assoc) in
          grind (arith, IsPermutation-append_left, and_parts, all-worked-at, input-done, end)

-- A join gives the rows of its inputs that agree, side by side.
pub join-gives : (join : JoinSpec) → KindGives (spec.HashJoin join)
join-gives join files takes gives n p ins outs k =
    at-ports n 2 1 k.ports.0 k.ports.1
    (λ h. one-output n h (λ fit. pairs-given join files p ins outs h
    (kept-rows h (all-fit-at (spec.HashJoin join) p ins n 2 h.nothing_past fit)))
    (λ t e. e)) k
