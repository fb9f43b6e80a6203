-- Calls that are counted, and calls that are placed one behind another.
use Rattle.query_model.proofs.Imports.{AggCall, AreAdded, ArePicks, ColumnRef, EachWith, FromColumn, IsPick, IsPlacedCall, Item, ItemTree, List, [], ap, append_assoc, arith, cond, filter, flat_map, get_or, is_call_item, item_calls, item_tree, length, length-append, map, map-append, operand_calls, place_in, suc, take, take_more, total, ℕ, ◌++◌, ◌+◌, ◌<◌, ◌∷◌, ◌≡◌, OperandForm}

total-append : (xs ys : List ℕ) → total (xs ++ ys) ≡ total xs + total ys
total-append [] ys = omega arith
total-append (x ∷ xs) ys = let e = total-append xs ys in omega (arith, e)

-- the calls of operands in two lists
pub calls_of_both : (xs ys : List (OperandForm ColumnRef)) → total (map operand_calls (xs ++ ys))
    ≡ total (map operand_calls xs) + total (map operand_calls ys)
calls_of_both xs ys = search (arith, map-append, total-append)

-- lists that are related one by one are as long
pub length_each : {A B : Type 0} (R : A → B → Type 0) (xs : List A) (ys : List B) → EachWith R xs ys
    → length ys ≡ length xs
length_each R (x ∷ xs) (y ∷ ys) h = ap suc (length_each R xs ys h.1)
length_each R xs ys h = grind arith

each_append : {A B : Type 0} (R : A → B → Type 0) (xs zs : List A) (ys ws : List B)
    → EachWith R xs ys → EachWith R zs ws → EachWith R (xs ++ zs) (ys ++ ws)
each_append R [] zs [] ws h k = k
each_append R (x ∷ xs) zs (y ∷ ys) ws h k = (h.0, each_append R xs zs ys ws h.1 k)
each_append R xs zs ys ws h k = absurd h

-- as many calls are added as are placed
pub length_added : (columns : List FromColumn) (calls : List (AggCall ColumnRef))
    (before after : List (AggCall ℕ)) → AreAdded columns calls before after
    → length after ≡ length before + length calls
length_added columns calls before after h = search (arith, length-append, length_each)

-- calls that are added behind added ones
pub both_added : (columns : List FromColumn) (calls others : List (AggCall ColumnRef))
    (before mid after : List (AggCall ℕ)) → AreAdded columns calls before mid
    → AreAdded columns others mid after → AreAdded columns (calls ++ others) before after
both_added columns calls others before mid after h k = search (arith, append_assoc, each_append)

-- all calls are placed that are added to none
pub added_to_none : (columns : List FromColumn) (calls : List (AggCall ColumnRef))
    (after : List (AggCall ℕ)) → AreAdded columns calls [] after
    → EachWith (IsPlacedCall (place_in columns)) calls after
added_to_none columns calls after h = search (arith)

-- one more item is picked
pub picks_last : (place : ColumnRef → ℕ) (k n : ℕ) (items : List Item) (picks : List ℕ) (i : Item)
    (p : ℕ) → ArePicks place k items picks → n ≡ k + length (flat_map (λ (i : Item). item_calls
    i.what) items) → IsPick place n i.what p → ArePicks place k (items ++ i ∷ []) (picks ++ p ∷ [])
picks_last place k n [] [] i p h e is = search (arith)
picks_last place k n (x ∷ items) (q ∷ picks) i p h e is = grind
    (arith, length-append, picks_last place (k + length (item_calls x.what)) n items picks i p)
picks_last place k n items picks i p h e is = absurd h

last_counted : (xs : List ItemTree) (x : ItemTree) → length (filter is_call_item xs)
    + cond (is_call_item x) 1 0 ≡ length (filter is_call_item (xs ++ x ∷ []))
last_counted [] x = search (arith)
last_counted (y ∷ xs) x = search (arith, last_counted xs x)

-- one more item is counted
pub one_more_counted : (items : List Item) (i : ℕ) (d : Item) (n m : ℕ) → i < length items
    → n ≡ length (filter is_call_item (map item_tree (take i items)))
    → m ≡ n + cond (is_call_item (item_tree (get_or items i d))) 1 0
    → m ≡ length (filter is_call_item (map item_tree (take (i + 1) items)))
one_more_counted items i d n m lt e f =
    grind (arith, take_more items i d, map-append, last_counted)
