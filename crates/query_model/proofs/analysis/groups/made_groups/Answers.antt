use Rattle.query_model.proofs.Imports.{ArePicks, BothOrNone, IsPlacedCond, Item, [], ap, arith, calls_of, flat_map, item_calls, key_place, length, listed, map, operands_of, place_in, refl, subst, ◌++◌, ◌+◌, ◌∙◌, ◌≡◌}
use Rattle.query_model.proofs.CallLaws.{length_added, both_added, added_to_none}
use Rattle.query_model.proofs.analysis.groups.made_groups.Goals as goal

pub returns : goal.returns
returns c =
    let columns = c.args.columns.now in
    let q = c.args.query.now in
    let in_items = flat_map (λ (i : Item). item_calls i.what) (listed q.items) in
    let in_having = flat_map calls_of (operands_of q.having) in
    let first =
    rw (c.new-calls.ensures.items, c.listed_items.ensures.listed) at c.in_ok-picks.ensures.added in
    let long = length_added columns in_items [] c.pick_items.new.calls.items first in
    let picked =
    rw (c.new-calls.ensures.items, c.listed_items.ensures.listed, c.as_slice-names.ensures)
    at c.in_ok-picks.ensures.picked in
    let at : length q.keys + length c.pick_items.new.calls.items ≡ length q.keys + length in_items =
    omega (arith, long) in
    record {
      keys = c.in_ok-keys.ensures ∙ ap (map (place_in columns)) c.as_slice-names.ensures;
      calls = rw c.from_vec.ensures
          (added_to_none columns (in_items ++ in_having) c.place_filter.new.calls.items
          (both_added columns in_items in_having [] c.pick_items.new.calls.items
          c.place_filter.new.calls.items first c.in_ok-having.ensures.added));
      having = subst (λ n. BothOrNone (IsPlacedCond (key_place columns q.keys) n) q.having
          c.in_ok-having.having) at (rw c.as_slice-names.ensures at c.in_ok-having.ensures.placed);
      picks =
          subst (λ n. ArePicks (key_place columns q.keys) n (listed q.items) c.in_ok-picks.picks)
          (let e : length q.keys + 0 ≡ length q.keys = omega arith in e) picked;
      lone = rw c.len.ensures refl;
    }
