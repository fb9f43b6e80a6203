-- The merge of the groups of parts is the groups of all rows.
use Rattle.query_model.proofs.Imports.{AggCall, All, All-cons, All-filter, All-head, All-nil, All-tail, Bool, Call, Combine, IsPermutation, IsPermutation-map, IsPermutation-trans, List, Row, Text, Value, [], ap, append_assoc, ap₂, arith, call_of, combine_of, combined, cond, distinct, distinct_rows, filter, filter-append, flat_map, get_or, get_or-append-add, grouped_by, groups, length, length-append, map, map-append, map-id, merge_of, merged_groups, refl, rows_with, same_row, state_calls, suc, sym, take, take-append-le, take_all, value_at, values_at, ℕ, ◌++◌, ◌+◌, ◌∙◌, ◌∷◌, ◌≡◌}
use Rattle.query_model.proofs.Lists.{map-map, filter-map, IsPermutation-filter, IsPermutation-same}
use Rattle.query_model.proofs.Distinct.{distinct-filter, distinct-append_left, distinct-append_right, IsPermutation-distinct}
use Rattle.query_model.proofs.ValueOrder.{same_row_is}
use Rattle.query_model.proofs.Aggregates.{partial, combined-merge, combined-permutation}

abbrev pub joined_rows' : List (List Row) → List Row
joined_rows' parts = flat_map (λ rows. rows) parts

-- the row of the group with key k
abbrev pub group_row : (Row → Row) → List Call → List Row → Row → Row
group_row key calls rows k =
    k ++ map (λ (call : Call). combined call.op (map call.arg (rows_with key k rows))) calls

-- Rows in another order have the same groups, in some order.
pub IsPermutation-grouped_by : (key : Row → Row) (calls : List Call) (xs ys : List Row)
    → IsPermutation xs ys → IsPermutation (grouped_by key calls xs) (grouped_by key calls ys)
IsPermutation-grouped_by key calls xs ys h =
    IsPermutation-trans _ _ _ (IsPermutation-map (group_row key calls xs) _ _
    (IsPermutation-distinct same_row same_row_is _ _ (IsPermutation-map key xs ys h)))
    (IsPermutation-same _ _ (λ i. map (λ k. k ++ map (λ (call : Call). same k call i) calls)
    (distinct_rows (map key ys))))
  where
    same : (k : Row) (call : Call) → combined call.op (map call.arg (rows_with key k xs))
        ≡ combined call.op (map call.arg (rows_with key k ys))
    same k call = combined-permutation call.op _ _
        (IsPermutation-map call.arg _ _ (IsPermutation-filter (λ r. same_row k (key r)) xs ys h))

take-all : (n : ℕ) (xs ys : Row) → length xs ≡ n → take n (xs ++ ys) ≡ xs
take-all n xs ys e = grind (arith, take-append-le, take_all)

-- functions that agree at keys of length n make one list of them
map-same : {B : Type 0} (n : ℕ) (f g : Row → B) → ((k : Row) → length k ≡ n → f k ≡ g k)
    → (ks : List Row) → All (λ k. length k ≡ n) ks → map f ks ≡ map g ks
map-same n f g same [] h = refl
map-same n f g same (k ∷ ks) h =
    search (arith, All-head, All-tail, map-same n f g same ks (All-tail (λ k. length k ≡ n) k ks h))

filter-same : (n : ℕ) (p q : Row → Bool) → ((k : Row) → length k ≡ n → p k ≡ q k) → (ks : List Row)
    → All (λ k. length k ≡ n) ks → filter p ks ≡ filter q ks
filter-same n p q same [] h = refl
filter-same n p q same (k ∷ ks) h =
    ap₂ (λ b l. cond b (k ∷ l) l) (same k (All-head (λ k. length k ≡ n) k ks h))
    (filter-same n p q same ks (All-tail (λ k. length k ≡ n) k ks h))

-- a key, where there is a row with it
abbrev pub key_of : Row → List Row → List Row
key_of k [] = []
key_of k (r ∷ rs) = k ∷ []

one_key : (k : Row) (ks : List Row)
    → distinct_rows (filter (same_row k) ks) ≡ key_of k (filter (same_row k) ks)
unfolding distinct
one_key k [] = refl
one_key k (x ∷ ks) = search (arith, same_row_is, one_key k ks)

key_of-map : (f : Row → Row) (k : Row) (rs : List Row) → key_of k (map f rs) ≡ key_of k rs
key_of-map f k [] = refl
key_of-map f k (r ∷ rs) = refl

module _ (n : ℕ) (key : Row → Row) (long : (r : Row) → length (key r) ≡ n) (calls : List Call) where
  keys_long : (rows : List Row) → All (λ k. length k ≡ n) (distinct_rows (map key rows))
  unfolding distinct
  keys_long [] = All-nil (λ k. length k ≡ n)
  keys_long (r ∷ rows) = All-cons (λ k. length k ≡ n) (key r) _ (long r)
      (All-filter _ (λ k. length k ≡ n) _ (keys_long rows))

  abbrev groups_of : List Row → List Row
  groups_of rows = grouped_by key calls rows

  -- the keys of the rows of partial groups
  keys_of_groups : (rows : List Row) → map (take n) (groups_of rows) ≡ distinct_rows (map key rows)
  keys_of_groups rows =
      map-map (take n) (group_row key calls rows) (distinct_rows (map key rows))
      ∙ map-same n (λ k. take n (group_row key calls rows k)) (λ k. k) (λ k e. take-all n k _ e) _
      (keys_long rows)
      ∙ map-id _

  keys_of_all : (parts : List (List Row)) → distinct_rows (map (take n) (flat_map groups_of parts))
      ≡ distinct_rows (map key (joined_rows' parts))
  keys_of_all [] = refl
  keys_of_all (rows ∷ parts) =
      search (
        arith,
        map-append,
        keys_of_groups,
        distinct-append_left same_row same_row_is,
        distinct-append_right same_row same_row_is,
        keys_of_all parts,
      )

  -- the partial group with a key
  group_with : (k : Row) (rows : List Row) → rows_with (take n) k (groups_of rows)
      ≡ map (group_row key calls rows) (key_of k (rows_with key k rows))
  group_with k rows =
      filter-map (λ r. same_row k (take n r)) (group_row key calls rows)
      (distinct_rows (map key rows))
      ∙ ap (map (group_row key calls rows)) (
      filter-same n (λ j. same_row k (take n (group_row key calls rows j))) (same_row k)
      (λ j e. ap (same_row k) (take-all n j _ e)) _ (keys_long rows)
      ∙ sym (distinct-filter same_row same_row_is (same_row k) (map key rows))
      ∙ one_key k (map key rows)
      ∙ ap (key_of k) (filter-map (same_row k) key rows)
      ∙ key_of-map key k (rows_with key k rows))

  -- the states in a column of the partial groups with a key
  module _ (before : List Call) (call : Call) (after : List Call)
      (is : calls ≡ before ++ call ∷ after) where
    state_at : (k : Row) (rows : List Row) → length k ≡ n
        → value_at (group_row key calls rows k) (n + length before)
        ≡ combined call.op (map call.arg (rows_with key k rows))
    state_at k rows e =
        let value : Call → Value = λ c. combined c.op (map c.arg (rows_with key k rows)) in
        ap (λ (cs : List Call). value_at (k ++ map value cs) (n + length before)) is
        ∙ ap (λ m. value_at (k ++ map value (before ++ call ∷ after)) (m + length before)) (sym e)
        ∙ get_or-append-add k (map value (before ++ call ∷ after)) (length before) (Text [])
        ∙ here value before
      where
        here : (value : Call → Value) (cs : List Call)
            → get_or (map value (cs ++ call ∷ after)) (length cs) (Text []) ≡ value call
        here value [] = refl
        here value (c ∷ cs) = here value cs

    states_of_group : (k : Row) (rows : List Row) → length k ≡ n
        → map (λ row. value_at row (n + length before)) (rows_with (take n) k (groups_of rows))
        ≡ partial call.op (map call.arg (rows_with key k rows))
    states_of_group k rows e = grind (arith, group_with, state_at)

    -- the values with a key, part by part
    abbrev values_of : Row → List (List Row) → List (List Value)
    values_of k parts = map (λ rows. map call.arg (rows_with key k rows)) parts

    states_of_parts : (k : Row) (parts : List (List Row)) → length k ≡ n
        → map (λ row. value_at row (n + length before)) (rows_with (take n) k
        (flat_map groups_of parts)) ≡ flat_map (partial call.op) (values_of k parts)
    states_of_parts k [] e = refl
    states_of_parts k (rows ∷ parts) e =
        search
        (arith, filter-append, map-append, states_of_group k rows e, states_of_parts k parts e)

    rows_of_parts : (k : Row) (parts : List (List Row)) → flat_map (λ vs. vs) (values_of k parts)
        ≡ map call.arg (rows_with key k (joined_rows' parts))
    rows_of_parts k [] = refl
    rows_of_parts k (rows ∷ parts) =
        search (arith, filter-append, map-append, rows_of_parts k parts)

    -- their merge is the combined over all rows
    merged_state : (k : Row) (parts : List (List Row)) → length k ≡ n
        → combined (merge_of call.op) (map (λ row. value_at row (n + length before))
        (rows_with (take n) k (flat_map groups_of parts)))
        ≡ combined call.op (map call.arg (rows_with key k (joined_rows' parts)))
    merged_state k parts e = grind (arith, states_of_parts, combined-merge, rows_of_parts)

  abbrev ops : List Combine
  ops = map (λ (c : Call). c.op) calls

  merged_states : (k : Row) (parts : List (List Row)) → length k ≡ n → (before after : List Call)
      → calls ≡ before ++ after → map
      (λ (c : Call). combined c.op (map c.arg (rows_with (take n) k (flat_map groups_of parts))))
      (state_calls (n + length before) (map (λ (c : Call). c.op) after))
      ≡ map (λ (c : Call). combined c.op (map c.arg (rows_with key k (joined_rows' parts)))) after
  merged_states k parts e before [] is = refl
  merged_states k parts e before (c ∷ after) is =
      ap₂ ◌∷◌ (merged_state before c after is k parts e)
      (let next : n + length before + 1 ≡ n + length (before ++ c ∷ []) =
      omega (arith, length-append before (c ∷ [])) in
      rw next (merged_states k parts e (before ++ c ∷ []) after
      (is ∙ sym (append_assoc before (c ∷ []) after))))

  -- The groups of parts, merged, are the groups of all their rows, in the same order.
  pub merged_groups_is : (parts : List (List Row))
      → merged_groups n (map (λ (c : Call). c.op) calls) (flat_map (grouped_by key calls) parts)
      ≡ grouped_by key calls (flat_map (λ rows. rows) parts)
  merged_groups_is parts =
      let merged : ℕ → List Value → List Value = λ m k. k ++ map (λ (c : Call). combined c.op
      (map c.arg (rows_with (take n) k (flat_map groups_of parts)))) (state_calls m ops) in
      let zero_more : n ≡ n + 0 = omega arith in
      ap (map (merged n)) (keys_of_all parts)
      ∙ map-same n (merged n) (group_row key calls (joined_rows' parts)) (λ k e. ap
      (λ m. merged m k) zero_more ∙ ap (λ l. k ++ l) (merged_states k parts e [] calls refl)) _
      (keys_long (joined_rows' parts))

length-values_at : (cs : List ℕ) (row : Row) → length (values_at cs row) ≡ length cs
length-values_at [] row = refl
length-values_at (c ∷ cs) row = ap suc (length-values_at cs row)

-- of a query's groups
pub merged_groups-groups : (keys : List ℕ) (calls : List (AggCall ℕ)) (parts : List (List Row))
    → merged_groups (length keys) (map (λ (c : AggCall ℕ). combine_of c.op) calls)
    (flat_map (groups keys calls) parts) ≡ groups keys calls (flat_map (λ rows. rows) parts)
merged_groups-groups keys calls parts =
    ap (λ os. merged_groups (length keys) os (flat_map (groups keys calls) parts))
    (sym (map-map (λ (c : Call). c.op) call_of calls))
    ∙ merged_groups_is (length keys) (values_at keys) (length-values_at keys)
    (map call_of calls) parts

-- What a merge in any order leaves: partial groups of parts, in any order, of rows in any order.
pub merged_in_any_order : (keys : List ℕ) (calls : List (AggCall ℕ)) (parts : List (List Row))
    (rows states : List Row) → IsPermutation rows (flat_map (λ part. part) parts) → IsPermutation
    (flat_map (groups keys calls) parts) states → IsPermutation (groups keys calls rows)
    (merged_groups (length keys) (map (λ (c : AggCall ℕ). combine_of c.op) calls) states)
merged_in_any_order keys calls parts rows states all some =
    IsPermutation-trans _ _ _
    (IsPermutation-grouped_by (values_at keys) (map call_of calls) rows _ all)
    (IsPermutation-trans _ _ _
    (IsPermutation-same _ _ (sym (merged_groups-groups keys calls parts)))
    (IsPermutation-grouped_by (take (length keys)) _ _ states some))
