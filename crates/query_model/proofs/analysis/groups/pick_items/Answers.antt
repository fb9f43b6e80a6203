use Rattle.query_model.proofs.Imports.{Item, [], ap, append-nil, arith, flat_map, flat_map-append, item_calls, key_place, length, sym, take, take_more, ◌++◌, ◌+◌, ◌∙◌, ◌∷◌, ◌≡◌}
use Rattle.query_model.proofs.CallLaws.{length_added, both_added, picks_last}
use Rattle.query_model.proofs.analysis.groups.pick_items.Goals as goal

pub loop-item-preserved : goal.loop-item-preserved
loop-item-preserved c =
    let columns = c.args.columns.now in
    let place = key_place columns c.args.keys.now in
    let k = length c.args.keys.now + length c.args.calls.now.items in
    let item = c.item-item.result in
    let before = take c.loop-item.item-index c.args.items.now in
    let calls = flat_map (λ (i : Item). item_calls i.what) before in
    let long = length_added columns calls c.args.calls.now.items c.loop-item.calls.items
    c.loop-item.invariant.added in
    let n : length c.args.keys.now + length c.loop-item.calls.items ≡ k + length calls =
    omega (arith, long) in
    let more : take (c.loop-item.item-index + 1) c.args.items.now ≡ before ++ item ∷ [] =
    take_more {X = Item} c.args.items.now c.loop-item.item-index item c.loop-item-test.true
    ∙ ap (λ (i : Item). before ++ i ∷ []) (sym c.item-item.is) in
    record {
      picked = rw (more, c.in_ok-push.ensures.items)
          (picks_last place k (length c.args.keys.now + length c.loop-item.calls.items) before
          c.loop-item.picks.items item c.in_ok-pick_item.field-0 c.loop-item.invariant.picked n
          c.in_ok-pick_item.ensures.picked);
      added = rw (
        more,
        flat_map-append (λ (i : Item). item_calls i.what) before (item ∷ []),
        append-nil (item_calls item.what),
      ) (both_added columns calls (item_calls item.what)
          c.args.calls.now.items c.loop-item.calls.items c.pick_item.new.calls.items
          c.loop-item.invariant.added c.in_ok-pick_item.ensures.added);
    }
