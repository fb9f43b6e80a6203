use Rattle.chunk_data.proofs.Imports.{AreEnds, ap, arith, length, refl, sym, ◌+◌, ◌∙◌, ◌≡◌, ◌≤◌}
use Rattle.chunk_data.proofs.Cuts.{AreEnds_range, cut_range, length-cut, range_above, range_fits}
use Rattle.chunk_data.proofs.text_column.Texts.append_range.Goals as goal

pub push_moved-requires-clause-above : goal.push_moved-requires-clause-above
push_moved-requires-clause-above c = search (arith, length-cut, range_above)

pub push_moved-requires-clause-fits : goal.push_moved-requires-clause-fits
push_moved-requires-clause-fits c = λ k d lt.
    let long : length c.args.other.now ≡ length c.other.inside.ends.items =
    sym (ap length c.other.view_is) ∙ length-cut _ _ _ in
    let size : length c.as_slice-ends.result.now ≡ length c.other.inside.ends.items =
    ap length c.as_slice-ends.ensures.value in
    let le : c.args.from + c.args.n ≤ length c.as_slice-ends.result.now = omega arith in
    let are : AreEnds 0 c.as_slice-ends.result.now (length c.as_slice.result.now) =
    rw (c.as_slice-ends.ensures.value, c.as_slice.ensures.value) c.other.invariant in
    let below = range_fits c.as_slice.result.now c.as_slice-ends.result.now c.args.from c.args.n _ _
    c.len-by.result k d are le refl refl lt in
    rw c.start_of-start.ensures
    (omega (
      arith,
      below,
      ap length c.bytes_of.ensures,
      c.extend_from_slice.new.self.small,
      c.in_ok-extend_from_slice.ensures.len,
    ))

pub invariant_of-self-2 : goal.invariant_of-self-2
invariant_of-self-2 c =
    let long : length c.args.other.now ≡ length c.other.inside.ends.items =
    sym (ap length c.other.view_is) ∙ length-cut _ _ _ in
    let le : c.args.from + c.args.n ≤ length c.other.inside.ends.items = omega arith in
    rw (
      c.push_moved.ensures,
      c.in_ok-try_reserve.ensures.items,
      c.in_ok-extend_from_slice.ensures.items,
      c.bytes_of.ensures,
      c.start_of-start.ensures,
      c.as_slice.ensures.value,
      c.as_slice-ends.ensures.value,
    )
    (AreEnds_range _ _ _ _ c.args.from c.args.n _ c.self.invariant c.other.invariant le
    (omega arith))

pub returns-clause-ok : goal.returns-clause-ok
returns-clause-ok c =
    let long : length c.args.other.now ≡ length c.other.inside.ends.items =
    sym (ap length c.other.view_is) ∙ length-cut _ _ _ in
    let le : c.args.from + c.args.n ≤ length c.other.inside.ends.items = omega arith in
    rw (
      c.push_moved.ensures,
      c.in_ok-try_reserve.ensures.items,
      c.in_ok-extend_from_slice.ensures.items,
      c.bytes_of.ensures,
      c.start_of-start.ensures,
      c.as_slice.ensures.value,
      c.as_slice-ends.ensures.value,
      ← c.self.view_is,
      ← c.other.view_is,
    )
    (cut_range _ _ _ _ c.args.from c.args.n _ c.self.invariant c.other.invariant le (omega arith))
