use Rattle.query_model.proofs.Imports.{EachWith, IsPlacedItem, place_in, take}
use Rattle.query_model.proofs.analysis.placing.place_items.Given as goal

abbrev pub invariant-loop-item : goal.invariant-loop-item
invariant-loop-item l =
    EachWith (IsPlacedItem (place_in l.columns)) (take l.item-index l.items) l.placed.items
