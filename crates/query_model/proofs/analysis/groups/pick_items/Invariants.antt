use Rattle.query_model.proofs.Imports.{AreAdded, ArePicks, Item, flat_map, item_calls, key_place, length, take, ◌+◌}
use Rattle.query_model.proofs.analysis.groups.pick_items.Given as goal

abbrev pub invariant-loop-item : goal.invariant-loop-item
invariant-loop-item l = record {
  picked : ArePicks (key_place l.columns l.keys) (length l.keys + length l.fn.calls.items)
      (take l.item-index l.items) l.picks.items;
  added : AreAdded l.columns (flat_map (λ (i : Item). item_calls i.what)
      (take l.item-index l.items)) l.fn.calls.items l.calls.items;
}
