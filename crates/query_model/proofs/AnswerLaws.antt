-- Laws of answers: output rows of parts, rows in another order, no keys and no limit.
use Rattle.query_model.proofs.Imports.{Bool, Equal, Int, IsTotalOrder, KeyPair, Less, List, Null, Ordering, Row, SortKey, Text, UInt, Value, [], ap, arith, false, flat_map-append, joined_rows, key_cmp, on_total, ordering_reverse, refl, row_cmp, then_total, true, value_at, value_cmp, ◌++◌, ◌∷◌, ◌≡◌}
use Rattle.query_model.proofs.ValueOrder.{value_cmp-IsAntisymmetric, value_cmp_total}

-- the join of two lists with a table
pub joined_rows-append : (pairs : List KeyPair) (xs ys rs : List Row)
    → joined_rows pairs (xs ++ ys) rs ≡ joined_rows pairs xs rs ++ joined_rows pairs ys rs
joined_rows-append pairs xs ys rs = search (arith, flat_map-append)

-- an order whose answers are turned round is total where the order is
turned_total : {K : Type 0} {R : K → K → Ordering} → IsTotalOrder R
    → IsTotalOrder (λ a b. ordering_reverse (R a b))
turned_total o = search (arith)

-- With NULL behind every other value the order that is turned round for the others is total.

reversed_ties : (o : Ordering) → ordering_reverse o ≡ Equal → o ≡ Equal
reversed_ties Equal h = refl
reversed_ties o h = cc

flips_down : (a b : Value) → key_cmp true a b ≡ ordering_reverse (key_cmp true b a)
flips_down Null Null = refl
flips_down Null b = refl
flips_down a Null = refl
flips_down a b = (turned_total value_cmp_total).antisymm a b

null_is_last : (b : Value) → key_cmp true Null b ≡ Less → ⊥
null_is_last Null h = cc
null_is_last (Int b) h = cc
null_is_last (UInt b) h = cc
null_is_last (Text b) h = cc

chains_down : (a b c : Value) → key_cmp true a b ≡ Less → key_cmp true b c ≡ Less
    → key_cmp true a c ≡ Less
chains_down Null b c h k = absurd (null_is_last b h)
chains_down a Null c h k = absurd (null_is_last c k)
chains_down a b Null h k = refl
chains_down a b c h k = (turned_total value_cmp_total).trans a b c h k

ties_down : (a b : Value) → key_cmp true a b ≡ Equal → a ≡ b
ties_down Null Null h = refl
ties_down Null b h = cc
ties_down a Null h = cc
ties_down a b h = value_cmp-IsAntisymmetric a b (reversed_ties (value_cmp a b) h)

pub descending_total : IsTotalOrder (key_cmp true)
descending_total = record {
  antisymm = flips_down;
  trans = chains_down;
  congr = λ a b c e. ap (λ v. key_cmp true v c) (ties_down a b e);
}

-- the order of rows by keys is total
pub row_cmp_total : (keys : List SortKey) → IsTotalOrder (row_cmp keys)
unfolding row_cmp
row_cmp_total [] = search (arith)
row_cmp_total (key ∷ keys) = then_total
    (on_total (λ (r : Row). value_at r key.column) (by key.descending)) (row_cmp_total keys)
  where
    by : (descending : Bool) → IsTotalOrder (key_cmp descending)
    by false = value_cmp_total
    by true = descending_total
