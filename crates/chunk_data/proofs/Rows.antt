-- rows and the columns that they are made of
use Rattle.chunk_data.proofs.Imports.{All, AreLong, Bool, List, [], adds, ap, arith, cond, count_by, drop, drop-replicate, false, get_or, get_or-replicate, is_count_by, append_each, kept, length, length-append, length-drop, length-map, length-replicate, length-take-le, map, refl, replicate, replicate-append-replicate, rows_of, suc, sym, take, take-replicate, true, zero, ℕ, ◌++◌, ◌+◌, ◌-◌, ◌<◌, ◌∙◌, ◌∷◌, ◌≡◌, ◌≤◌}

length-adds : {X : Type 0} (column : List X) (rows : List (List X)) → length column ≡ length rows
    → length (adds column rows) ≡ length column
length-adds [] rows e = refl
length-adds (x ∷ column) [] e = absurd (omega arith)
length-adds (x ∷ column) (row ∷ rows) e = ap suc (length-adds column rows (omega arith))

pub length-rows_of : {X : Type 0} (n : ℕ) (columns : List (List X)) → AreLong n columns
    → length (rows_of n columns) ≡ n
length-rows_of n [] h = length-replicate n []
length-rows_of n (column ∷ columns) h = search (arith, length-adds, length-rows_of n columns h.1)

-- a column beside its rows is as long as they are
beside : {X : Type 0} (n : ℕ) (column : List X) (columns : List (List X)) → length column ≡ n
    → AreLong n columns → length column ≡ length (rows_of n columns)
beside n column columns e h = e ∙ sym (length-rows_of n columns h)

adds-append : {X : Type 0} (a b : List X) (r s : List (List X)) → length a ≡ length r
    → adds (a ++ b) (r ++ s) ≡ adds a r ++ adds b s
adds-append [] b [] s e = refl
adds-append (x ∷ a) b (row ∷ r) s e = ap (λ l. (x ∷ row) ∷ l) (adds-append a b r s (omega arith))
adds-append _ b _ s e = absurd (omega arith)

-- ---- more rows
pub AreLong-joined : {X : Type 0} (n m : ℕ) (columns others : List (List X)) → AreLong n columns
    → AreLong m others → AreLong (n + m) (append_each columns others)
AreLong-joined n m (column ∷ columns) (other ∷ others) h k =
    search (arith, length-append, AreLong-joined n m columns others h.1 k.1)
AreLong-joined n m _ _ h k = tt

pub rows_of-joined : {X : Type 0} (n m : ℕ) (columns others : List (List X)) → AreLong n columns
    → AreLong m others → length others ≡ length columns
    → rows_of (n + m) (append_each columns others) ≡ rows_of n columns ++ rows_of m others
rows_of-joined n m [] [] h k e = sym (replicate-append-replicate n m [])
rows_of-joined n m (column ∷ columns) (other ∷ others) h k e =
    search (arith, adds-append, beside, rows_of-joined n m columns others h.1 k.1 (omega arith))
rows_of-joined n m _ _ h k e = absurd (omega arith)

-- one row, as columns of one value
pub AreLong-row : {X : Type 0} (row : List X) → AreLong 1 (map (λ v. v ∷ []) row)
AreLong-row [] = tt
AreLong-row (x ∷ row) = (refl, AreLong-row row)

pub rows_of-row : {X : Type 0} (row : List X) → rows_of 1 (map (λ v. v ∷ []) row) ≡ row ∷ []
rows_of-row [] = refl
rows_of-row (x ∷ row) = ap (λ l. adds (x ∷ []) l) (rows_of-row row)

pub rows_of_push : {X : Type 0} (n : ℕ) (columns : List (List X)) (row : List X) → AreLong n columns
    → length row ≡ length columns
    → rows_of (n + 1) (append_each columns (map (λ v. v ∷ []) row)) ≡ rows_of n columns ++ row ∷ []
rows_of_push n columns row h e =
    search (arith, rows_of-joined, AreLong-row, length-map, rows_of-row)

-- ---- fewer rows
kept-adds : {X : Type 0} (mask : List Bool) (column : List X) (rows : List (List X)) → length column
    ≡ length rows → kept mask (adds column rows) ≡ adds (kept mask column) (kept mask rows)
kept-adds (m ∷ mask) [] (row ∷ rows) e = absurd (omega arith)
kept-adds (m ∷ mask) (x ∷ column) [] e = absurd (omega arith)
kept-adds (true ∷ mask) (x ∷ column) (row ∷ rows) e =
    ap (λ l. (x ∷ row) ∷ l) (kept-adds mask column rows (omega arith))
kept-adds (false ∷ mask) (x ∷ column) (row ∷ rows) e = kept-adds mask column rows (omega arith)
kept-adds _ _ _ e = refl

trues : List Bool → ℕ
trues [] = 0
trues (m ∷ mask) = cond m (suc (trues mask)) (trues mask)

trues_counted : (mask : List Bool) → trues mask ≡ count_by (λ m. m) mask
unfolding trues
trues_counted mask = is_count_by trues (λ m. m) refl (λ m ms. elim m as (λ v. cond v (suc (trues
    ms)) (trues ms) ≡ cond v (1 + trues ms) (trues ms)) [ true ↦ omega arith | false ↦ refl ]) mask

kept-replicate : {X : Type 0} (mask : List Bool) (n : ℕ) (x : X) → length mask ≡ n
    → kept mask (replicate n x) ≡ replicate (trues mask) x
unfolding trues
kept-replicate [] n x e = refl
kept-replicate (m ∷ mask) zero x e = absurd (omega arith)
kept-replicate (true ∷ mask) (suc n) x e = ap (λ l. x ∷ l) (kept-replicate mask n x (omega arith))
kept-replicate (false ∷ mask) (suc n) x e = kept-replicate mask n x (omega arith)

length-kept : {X : Type 0} (mask : List Bool) (xs : List X) → length mask ≡ length xs
    → length (kept mask xs) ≡ trues mask
unfolding trues
length-kept [] xs e = refl
length-kept (m ∷ mask) [] e = absurd (omega arith)
length-kept (true ∷ mask) (x ∷ xs) e = ap suc (length-kept mask xs (omega arith))
length-kept (false ∷ mask) (x ∷ xs) e = length-kept mask xs (omega arith)

pub AreLong-kept : {X : Type 0} (mask : List Bool) (n : ℕ) (columns : List (List X)) → AreLong n
    columns → length mask ≡ n → AreLong (count_by (λ m. m) mask) (map (kept mask) columns)
AreLong-kept mask n [] h e = tt
AreLong-kept mask n (column ∷ columns) h e =
    (length-kept mask column (e ∙ sym h.0) ∙ trues_counted mask, AreLong-kept mask n columns h.1 e)

pub rows_of-kept : {X : Type 0} (mask : List Bool) (n : ℕ) (columns : List (List X))
    → AreLong n columns → length mask ≡ n
    → rows_of (count_by (λ m. m) mask) (map (kept mask) columns) ≡ kept mask (rows_of n columns)
rows_of-kept mask n [] h e = search (arith, trues_counted, kept-replicate)
rows_of-kept mask n (column ∷ columns) h e =
    search (arith, kept-adds, beside, rows_of-kept mask n columns h.1 e)

take-adds : {X : Type 0} (m : ℕ) (column : List X) (rows : List (List X))
    → adds (take m column) (take m rows) ≡ take m (adds column rows)
take-adds (suc m) (x ∷ column) (row ∷ rows) = ap (λ l. (x ∷ row) ∷ l) (take-adds m column rows)
take-adds _ _ _ = refl

pub AreLong-take : {X : Type 0} (m n : ℕ) (columns : List (List X)) → AreLong n columns → m ≤ n
    → AreLong m (map (take m) columns)
AreLong-take m n [] h le = tt
AreLong-take m n (column ∷ columns) h le =
    (length-take-le m column (omega (arith, h.0)), AreLong-take m n columns h.1 le)

pub rows_of-take : {X : Type 0} (m n : ℕ) (columns : List (List X)) → m ≤ n
    → rows_of m (map (take m) columns) ≡ take m (rows_of n columns)
rows_of-take m n [] le = sym (take-replicate m n [] le)
rows_of-take m n (column ∷ columns) le = search (arith, take-adds, rows_of-take m n columns le)

drop-adds : {X : Type 0} (m : ℕ) (column : List X) (rows : List (List X))
    → length column ≡ length rows → adds (drop m column) (drop m rows) ≡ drop m (adds column rows)
drop-adds (suc m) (x ∷ column) [] e = absurd (omega arith)
drop-adds (suc m) (x ∷ column) (row ∷ rows) e = drop-adds m column rows (omega arith)
drop-adds _ _ rows e = refl

pub AreLong-drop : {X : Type 0} (m n : ℕ) (columns : List (List X)) → AreLong n columns
    → AreLong (n - m) (map (drop m) columns)
AreLong-drop m n [] h = tt
AreLong-drop m n (column ∷ columns) h = search (arith, length-drop, AreLong-drop m n columns h.1)

pub rows_of-drop : {X : Type 0} (m n : ℕ) (columns : List (List X)) → AreLong n columns
    → rows_of (n - m) (map (drop m) columns) ≡ drop m (rows_of n columns)
rows_of-drop m n [] h = sym (drop-replicate m n [])
rows_of-drop m n (column ∷ columns) h = ap (λ l. adds (drop m column) l) (rows_of-drop m n columns
    h.1) ∙ drop-adds m column (rows_of n columns) (beside n column columns h.0 h.1)

-- ---- rows at places
get_or-adds : {X : Type 0} (column : List X) (rows : List (List X)) (p : ℕ) (d : X)
    → length column ≡ length rows → p < length column
    → get_or (adds column rows) p [] ≡ get_or column p d ∷ get_or rows p []
get_or-adds (x ∷ column) (row ∷ rows) zero d e lt = refl
get_or-adds (x ∷ column) (row ∷ rows) (suc p) d e lt =
    get_or-adds column rows p d (omega arith) (omega arith)
get_or-adds _ _ p d e lt = absurd (omega arith)

adds-places : {X : Type 0} (column : List X) (rows : List (List X)) (places : List ℕ) (d : X)
    → length column ≡ length rows → All (λ p. p < length column) places
    → adds (map (λ p. get_or column p d) places) (map (λ p. get_or rows p []) places)
    ≡ map (λ p. get_or (adds column rows) p []) places
adds-places column rows [] d e h = refl
adds-places column rows (p ∷ places) d e h =
    let a : get_or (adds column rows) p [] ≡ get_or column p d ∷ get_or rows p [] =
    get_or-adds column rows p d e (h 0 0 (omega arith)) in
    let b : adds (map (λ p. get_or column p d) places) (map (λ p. get_or rows p []) places)
    ≡ map (λ p. get_or (adds column rows) p []) places =
    adds-places column rows places d e (λ k n lt. h (suc k) n (omega arith)) in
    cc

replicate-places : {X : Type 0} (n : ℕ) (places : List ℕ) (x : X) → All (λ p. p < n) places
    → replicate (length places) x ≡ map (λ p. get_or (replicate n x) p x) places
replicate-places n [] x h = refl
replicate-places n (p ∷ places) x h =
    let a : get_or (replicate n x) p x ≡ x = get_or-replicate n p x x (h 0 0 (omega arith)) in
    let b : replicate (length places) x ≡ map (λ p. get_or (replicate n x) p x) places =
    replicate-places n places x (λ k d lt. h (suc k) d (omega arith)) in
    cc

pub AreLong-places : {X : Type 0} (places : List ℕ) (columns : List (List X)) (d : X)
    → AreLong (length places) (map (λ column. map (λ p. get_or column p d) places) columns)
AreLong-places places [] d = tt
AreLong-places places (column ∷ columns) d =
    (length-map places (λ p. get_or column p d), AreLong-places places columns d)

pub rows_of-places : {X : Type 0} (n : ℕ) (columns : List (List X)) (places : List ℕ) (d : X)
    → AreLong n columns → All (λ p. p < n) places → rows_of (length places) (map (λ column. map
    (λ p. get_or column p d) places) columns) ≡ map (λ p. get_or (rows_of n columns) p []) places
rows_of-places n [] places d h k = replicate-places n places [] k
rows_of-places n (column ∷ columns) places d h k =
    ap (λ l. adds (map (λ p. get_or column p d) places) l) (rows_of-places n columns places d h.1 k)
    ∙ adds-places column (rows_of n columns) places d (beside n column columns h.0 h.1)
    (λ j e lt. (let a : get_or places j e < n = k j e lt in omega (arith, a, h.0)))

-- ---- a column of the rows, and a row of the columns
column-adds : {X : Type 0} (column : List X) (rows : List (List X)) (c : ℕ) (d : X)
    → length column ≡ length rows
    → map (λ row. get_or row (suc c) d) (adds column rows) ≡ map (λ row. get_or row c d) rows
column-adds [] [] c d e = refl
column-adds (x ∷ column) (row ∷ rows) c d e =
    ap (λ l. get_or row c d ∷ l) (column-adds column rows c d (omega arith))
column-adds _ _ c d e = absurd (omega arith)

first-adds : {X : Type 0} (column : List X) (rows : List (List X)) (d : X)
    → length column ≡ length rows → map (λ row. get_or row 0 d) (adds column rows) ≡ column
first-adds [] rows d e = refl
first-adds (x ∷ column) [] d e = absurd (omega arith)
first-adds (x ∷ column) (row ∷ rows) d e = ap (λ l. x ∷ l) (first-adds column rows d (omega arith))

pub column_of-rows_of : {X : Type 0} (n : ℕ) (columns : List (List X)) (c : ℕ) (d : X)
    → AreLong n columns → c < length columns
    → map (λ row. get_or row c d) (rows_of n columns) ≡ get_or columns c []
column_of-rows_of n [] c d h lt = absurd (omega arith)
column_of-rows_of n (column ∷ columns) zero d h lt =
    first-adds column (rows_of n columns) d (beside n column columns h.0 h.1)
column_of-rows_of n (column ∷ columns) (suc c) d h lt = column-adds column (rows_of n columns) c d
    (beside n column columns h.0 h.1) ∙ column_of-rows_of n columns c d h.1 (omega arith)

pub row_of-rows_of : {X : Type 0} (n : ℕ) (columns : List (List X)) (i : ℕ) (d : X) → AreLong n
    columns → i < n → get_or (rows_of n columns) i [] ≡ map (λ column. get_or column i d) columns
row_of-rows_of n [] i d h lt = get_or-replicate n i [] [] lt
row_of-rows_of n (column ∷ columns) i d h lt =
    search (arith, get_or-adds, beside, row_of-rows_of n columns i d h.1 lt)
