-- One value more is folded into what was made of those before it.
use Rattle.aggregate_proc.proofs.Imports.{arith, ◌≡◌, List, [], ◌∷◌, ◌++◌, refl, sym, Combine, Fold, Value, chosen, combined, combined-merge, earlier, folded, merge_of, next_folded}

pub earlier-first : (v : Value) (vs : List Value) → chosen earlier (v ∷ vs) ≡ v
unfolding chosen
earlier-first v [] = refl
earlier-first v (w ∷ vs) = earlier-first v vs

-- two parts of which the second has one value
merged : (op : Combine) (v : Value) (vs : List Value) (w : Value)
    → combined op ((v ∷ vs) ++ w ∷ [])
    ≡ combined (merge_of op) (combined op (v ∷ vs) ∷ combined op (w ∷ []) ∷ [])
merged op v vs w = sym (combined-merge op ((v ∷ vs) ∷ (w ∷ []) ∷ []))

pub folded-next : (f : Fold) (v : Value) (vs : List Value) (w : Value)
    → folded f ((v ∷ vs) ++ w ∷ []) ≡ next_folded f (folded f (v ∷ vs)) w
folded-next f v vs w = grind (arith, earlier-first, merged)
