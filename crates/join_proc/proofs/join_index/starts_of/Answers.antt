use Rattle.join_proc.proofs.Imports.{ap, arith, get_or-map, inl, inr, is_full, length, length-map, map, [], sym, true, ◌<◌, ◌∙◌}
use Rattle.join_proc.proofs.LeftLaws.{starts-off, starts-on}
use Rattle.join_proc.proofs.join_index.starts_of.Goals.{then-next-rows+then-is_full+in_ok-push, else-next-rows, else-next-rows-via-then-next-rows+else-is_full, else-next-rows-via-else-next-rows}
use Rattle.join_proc.proofs.join_index.starts_of.Goals as goal

pub loop-left-preserved : goal.loop-left-preserved
loop-left-preserved c =
    let i = c.loop-left.left in
    let rows = c.args.chunk.now.rows in
    let fulls = map (is_full c.args.columns.now) rows in
    let lt : i < length c.args.places.now = omega arith in
    let long = length-map rows (is_full c.args.columns.now) in
    let less : i < length fulls = omega (arith, long) in
    let f = get_or-map (is_full c.args.columns.now) rows i [] true (omega arith) in
    elim c.if-next-rows.branch [
      | then-next-rows+then-is_full+in_ok-push w ↦
          starts-on c.args.firsts.now c.args.rows i c.args.places.now fulls lt less
          w.if-next-rows.true (f ∙ sym w.is_full.ensures ∙ w.if-is_full.true) _
          c.loop-left.starts.items (ap (λ l. l.items) w.starts-is ∙ w.in_ok-push.ensures.items)
          ∙ c.loop-left.invariant
      | else-next-rows w ↦
          starts-off c.args.firsts.now c.args.rows i c.args.places.now fulls lt less
          (elim w.else-next-rows.branch [
            | else-next-rows-via-then-next-rows+else-is_full v ↦
                inr (f ∙ sym v.is_full.ensures ∙ v.if-is_full.false)
            | else-next-rows-via-else-next-rows v ↦ inl (omega (arith, v.if-next-rows.false))
          ]) _ c.loop-left.starts.items (ap (λ l. l.items) w.starts-is) ∙ c.loop-left.invariant
    ]
