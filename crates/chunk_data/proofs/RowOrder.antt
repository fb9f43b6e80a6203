-- comparing rows key by key
use Rattle.chunk_data.proofs.Imports.{Equal, List, Ordering, Row, SortKey, ap, drop, drop_all, drop_more, get_or, key_cmp, length, ordering_then, refl, row_cmp, sym, value_at, ℕ, ◌+◌, ◌<◌, ◌∙◌, ◌≡◌, ◌≤◌}

first_unequal : (a b : Ordering) → (a ≡ Equal → ⊥) → ordering_then a b ≡ a
first_unequal Equal b h = absurd (h refl)
first_unequal _ b h = refl

-- the keys from one on: that key first, then the others
pub row_cmp-drop : (keys : List SortKey) (i : ℕ) (d : SortKey) (a b : Row) → i < length keys
    → row_cmp (drop i keys) a b
    ≡ ordering_then (key_cmp (get_or keys i d).descending (value_at a (get_or keys i d).column)
    (value_at b (get_or keys i d).column)) (row_cmp (drop (i + 1) keys) a b)
unfolding row_cmp
row_cmp-drop keys i d a b lt = ap (λ l. row_cmp l a b) (drop_more keys i d lt)

pub row_cmp_found : (keys : List SortKey) (i : ℕ) (d : SortKey) (a b : Row) (o : Ordering)
    → i < length keys → row_cmp (drop i keys) a b ≡ row_cmp keys a b
    → o ≡ key_cmp (get_or keys i d).descending (value_at a (get_or keys i d).column)
    (value_at b (get_or keys i d).column) → (o ≡ Equal → ⊥) → o ≡ row_cmp keys a b
row_cmp_found keys i d a b o lt h e n =
    sym (first_unequal o (row_cmp (drop (i + 1) keys) a b) n) ∙ ap (λ p. ordering_then p
    (row_cmp (drop (i + 1) keys) a b)) e ∙ sym (row_cmp-drop keys i d a b lt) ∙ h

pub row_cmp_more : (keys : List SortKey) (i : ℕ) (d : SortKey) (a b : Row) (o : Ordering)
    → i < length keys → row_cmp (drop i keys) a b ≡ row_cmp keys a b → o ≡ key_cmp (get_or keys i
    d).descending (value_at a (get_or keys i d).column) (value_at b (get_or keys i d).column)
    → o ≡ Equal → row_cmp (drop (i + 1) keys) a b ≡ row_cmp keys a b
row_cmp_more keys i d a b o lt h e n =
    ap (λ p. ordering_then p (row_cmp (drop (i + 1) keys) a b)) (sym n ∙ e)
    ∙ sym (row_cmp-drop keys i d a b lt) ∙ h

pub row_cmp_equal : (keys : List SortKey) (i : ℕ) (a b : Row) → length keys ≤ i
    → row_cmp (drop i keys) a b ≡ row_cmp keys a b → Equal ≡ row_cmp keys a b
unfolding row_cmp
row_cmp_equal keys i a b le h = ap (λ l. row_cmp l a b) (sym (drop_all i keys le)) ∙ h
