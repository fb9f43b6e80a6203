-- loops over the columns of a list
use Rattle.chunk_data.proofs.Imports.{AreLong, Column, ColumnType, FitsType, FitsTypes, List, Value, [], add-one, ap, arith, get_or, get_or-map, append_each, column_type, length, length-map, map, map-set, refl, set, set-get_or, subst, suc, sym, take, take_all, take_at, values, zero, ℕ, ◌++◌, ◌+◌, ◌<◌, ◌∙◌, ◌∷◌, ◌≡◌, ◌≤◌}
use Rattle.chunk_data.proofs.Laws.{length-FitsTypes, FitsTypes-at}

-- the first i elements changed
abbrev pub changed : {X : Type 0} → (X → X) → ℕ → List X → List X
changed f zero xs = xs
changed f (suc i) [] = []
changed f (suc i) (x ∷ xs) = f x ∷ changed f i xs

pub get_or-changed : {X : Type 0} (f : X → X) (i : ℕ) (xs : List X) (d : X)
    → get_or (changed f i xs) i d ≡ get_or xs i d
get_or-changed f (suc i) (x ∷ xs) d = get_or-changed f i xs d
get_or-changed f _ _ d = refl

pub changed_more : {X : Type 0} (f : X → X) (i : ℕ) (xs : List X) (d : X) → i < length xs
    → set (changed f i xs) i (f (get_or xs i d)) ≡ changed f (suc i) xs
changed_more f i [] d h = absurd (omega arith)
changed_more f zero (x ∷ xs) d h = refl
changed_more f (suc i) (x ∷ xs) d h = ap (λ l. f x ∷ l) (changed_more f i xs d (omega arith))

pub changed_all : {X : Type 0} (f : X → X) (i : ℕ) (xs : List X) → length xs ≤ i
    → changed f i xs ≡ map f xs
changed_all f zero (x ∷ xs) h = absurd (omega arith)
changed_all f (suc i) (x ∷ xs) h = ap (λ l. f x ∷ l) (changed_all f i xs (omega arith))
changed_all f _ _ h = refl

-- the first i of the others appended
abbrev pub joined_front : {X : Type 0} → ℕ → List (List X) → List (List X) → List (List X)
joined_front zero columns others = columns
joined_front (suc i) [] others = []
joined_front (suc i) (column ∷ columns) [] = column ∷ columns
joined_front (suc i) (column ∷ columns) (other ∷ others) =
    (column ++ other) ∷ joined_front i columns others

pub get_or-joined_front : {X : Type 0} (i : ℕ) (columns others : List (List X)) (d : List X) →
    length others ≡ length columns → get_or (joined_front i columns others) i d ≡ get_or columns i d
get_or-joined_front (suc i) (column ∷ columns) [] d e = absurd (omega arith)
get_or-joined_front (suc i) (column ∷ columns) (other ∷ others) d e =
    get_or-joined_front i columns others d (omega arith)
get_or-joined_front _ _ others d e = refl

joined_more : {X : Type 0} (i : ℕ) (columns others : List (List X)) (d e : List X)
    → i < length columns → length others ≡ length columns → set (joined_front i columns others) i
    (get_or columns i d ++ get_or others i e) ≡ joined_front (suc i) columns others
joined_more zero (column ∷ columns) (other ∷ others) d e h k = refl
joined_more (suc i) (column ∷ columns) (other ∷ others) d e h k =
    ap (λ l. (column ++ other) ∷ l) (joined_more i columns others d e (omega arith) (omega arith))
joined_more i _ _ d e h k = absurd (omega arith)

joined_all : {X : Type 0} (i : ℕ) (columns others : List (List X)) → length columns ≤ i
    → length others ≡ length columns → joined_front i columns others ≡ append_each columns others
joined_all zero (column ∷ columns) others h e = absurd (omega arith)
joined_all (suc i) (column ∷ columns) [] h e = absurd (omega arith)
joined_all (suc i) (column ∷ columns) (other ∷ others) h e =
    ap (λ l. (column ++ other) ∷ l) (joined_all i columns others (omega arith) (omega arith))
joined_all _ _ others h e = refl

-- what is taken back
joined_back : {X : Type 0} (n i : ℕ) (columns others : List (List X)) → AreLong n columns
    → map (take n) (joined_front i columns others) ≡ columns
joined_back n i [] others h =
    elim i as (λ k. map (take n) (joined_front k [] others) ≡ []) [ zero ↦ refl | suc k ↦ refl ]
joined_back n zero (column ∷ columns) others h =
    search (arith, take_all, joined_back n zero columns others h.1)
joined_back n (suc i) (column ∷ columns) [] h =
    search (arith, take_all, joined_back n zero columns [] h.1)
joined_back n (suc i) (column ∷ columns) (other ∷ others) h =
    search (arith, take_at, joined_back n i columns others h.1)

pub AreLong-at : {X : Type 0} (n : ℕ) (columns : List (List X)) (i : ℕ) (d : List X)
    → AreLong n columns → i < length columns → length (get_or columns i d) ≡ n
AreLong-at n [] i d h lt = absurd (omega arith)
AreLong-at n (column ∷ columns) zero d h lt = h.0
AreLong-at n (column ∷ columns) (suc i) d h lt = AreLong-at n columns i d h.1 (omega arith)

-- ---- a loop that changes each column's values by f
pub record Mapped (f : List Value → List Value) (old now : List Column) (i : ℕ) : Type 0 where
  pub kinds : map column_type now ≡ map column_type old
  pub cells : map values now ≡ changed f i (map values old)

-- the values of column i are those that it had
pub Mapped-here : {f : List Value → List Value} {old now : List Column} {i : ℕ} → (d : Column)
    → Mapped f old now i → i < length now
    → values (get_or now i d) ≡ get_or (map values old) i (values d)
Mapped-here {f = f} {old = old} {now = now} {i = i} d h lt =
    search (arith, get_or-map, get_or-changed)

pub Mapped-long : {f : List Value → List Value} {old now : List Column} {i : ℕ} → Mapped f old now i
    → length now ≡ length old
Mapped-long {old = old} {now = now} h = search (arith, length-map)

same_kinds : (now : List Column) (i : ℕ) (y d : Column) → column_type y ≡ column_type
    (get_or now i d) → i < length now → map column_type (set now i y) ≡ map column_type now
same_kinds now i y d e lt =
    map-set column_type now i y ∙ rw e (ap (λ k. set (map column_type now) i k) (sym
    (get_or-map column_type now i d (column_type d) lt))
    ∙ set-get_or (map column_type now) i (column_type d))

pub Mapped-more : {f : List Value → List Value} {old now : List Column} {i : ℕ} → (d y : Column)
    → Mapped f old now i → i < length now → column_type y ≡ column_type (get_or now i d)
    → values y ≡ f (values (get_or now i d)) → Mapped f old (set now i y) (i + 1)
Mapped-more {f = f} {old = old} {now = now} {i = i} d y h lt k v =
    let long : length now ≡ length old = Mapped-long h in
    let made : values y ≡ f (get_or (map values old) i (values d)) = v
    ∙ ap f (Mapped-here d h lt) in
    let wide : i < length (map values old) = rw length-map (omega arith) in
    record {
      kinds = same_kinds now i y d k lt ∙ h.kinds;
      cells = map-set values now i y
          ∙ rw (made, h.cells, add-one) (changed_more f i (map values old) (values d) wide);
    }

pub Mapped-all : {f : List Value → List Value} {old now : List Column} {i : ℕ} → Mapped f old now i
    → length now ≤ i → map values now ≡ map f (map values old)
Mapped-all {f = f} {old = old} {now = now} {i = i} h le = h.cells
    ∙ changed_all f i (map values old) (rw length-map (omega (arith, Mapped-long h)))

-- ---- a loop that appends to each column the values beside it
pub record Joined (others : List (List Value)) (old now : List Column) (i : ℕ) : Type 0 where
  pub kinds : map column_type now ≡ map column_type old
  pub cells : map values now ≡ joined_front i (map values old) others

pub Joined-none : (others : List (List Value)) (old : List Column) → Joined others old old 0
Joined-none others old = record { kinds = refl; cells = refl }

pub Joined-long : {others : List (List Value)} {old now : List Column} {i : ℕ}
    → Joined others old now i → length now ≡ length old
Joined-long {old = old} {now = now} h = search (arith, length-map)

pub Joined-more : {others : List (List Value)} {old now : List Column} {i : ℕ}
    → (d y : Column) (more : List Value) → Joined others old now i → length others ≡ length old
    → i < length now → column_type y ≡ column_type (get_or now i d) → more ≡ get_or others i more
    → values y ≡ values (get_or now i d) ++ more → Joined others old (set now i y) (i + 1)
Joined-more {others = others} {old = old} {now = now} {i = i} d y more h e lt k m v =
    let long : length now ≡ length old = Joined-long h in
    let wide : i < length (map values old) = rw length-map (omega arith) in
    let same : length others ≡ length (map values old) = e ∙ sym (length-map old values) in
    let here : values (get_or now i d) ≡ get_or (map values old) i (values d) =
    sym (get_or-map values now i d (values d) lt) ∙ ap (λ l. get_or l i (values d)) h.cells
    ∙ get_or-joined_front i (map values old) others (values d) same in
    let made : values y ≡ get_or (map values old) i (values d) ++ get_or others i more = v
    ∙ ap (λ l. l ++ more) here ∙ ap (λ l. get_or (map values old) i (values d) ++ l) m in
    record {
      kinds = same_kinds now i y d k lt ∙ h.kinds;
      cells = map-set values now i y ∙ rw (made, h.cells, add-one)
          (joined_more i (map values old) others (values d) more wide same);
    }

-- column i was left as it is
pub Joined-same : {others : List (List Value)} {old now : List Column} {i : ℕ} → (d y : Column)
    → Joined others old now i → i < length now → column_type y ≡ column_type (get_or now i d)
    → values y ≡ values (get_or now i d) → Joined others old (set now i y) i
Joined-same {now = now} {i = i} d y h lt k v =
    let same : map values (set now i y) ≡ map values now = map-set values now i y
    ∙ rw v (ap (λ l. set (map values now) i l) (sym (get_or-map values now i d (values d) lt))
    ∙ set-get_or (map values now) i (values d)) in
    record { kinds = same_kinds now i y d k lt ∙ h.kinds; cells = same ∙ h.cells }

pub Joined-all : {others : List (List Value)} {old now : List Column} {i : ℕ}
    → Joined others old now i → length others ≡ length old → length now ≤ i
    → map values now ≡ append_each (map values old) others
Joined-all {others = others} {old = old} {now = now} {i = i} h e le =
    search (arith, joined_all, length-map, Joined-long)

pub Joined-back : {others : List (List Value)} {old now : List Column} {i : ℕ} → (n : ℕ) → Joined
    others old now i → AreLong n (map values old) → map (take n) (map values now) ≡ map values old
Joined-back {others = others} {old = old} {i = i} n h a = search (arith, joined_back)

-- lists that agree agree at a place
pub agrees_at : {X : Type 0} (f : X → ColumnType) (others : List X) (old now : List Column) (i : ℕ)
    (o : X) (d : Column) → map f others ≡ map column_type old → map column_type now ≡ map
    column_type old → i < length now → o ≡ get_or others i o → f o ≡ column_type (get_or now i d)
agrees_at f others old now i o d e k lt is =
    let n : length others ≡ length now = sym (length-map others f) ∙ ap length (e ∙ sym k)
    ∙ length-map now column_type in
    ap f is ∙ sym (get_or-map f others i o (column_type d) (omega arith))
    ∙ ap (λ l. get_or l i (column_type d)) (e ∙ sym k)
    ∙ get_or-map column_type now i d (column_type d) lt

pub agreed_long : {X Y : Type 0} (f : X → ColumnType) (others : List X) (old : List Column)
    (g : X → Y) → map f others ≡ map column_type old → length (map g others) ≡ length old
agreed_long f others old g e = search (arith, length-map)

pub other_at : {X Y : Type 0} (g : X → Y) (others : List X) (i : ℕ) (o : X) → o ≡ get_or others i o
    → i < length others → g o ≡ get_or (map g others) i (g o)
other_at g others i o is lt = ap g is ∙ sym (get_or-map g others i o (g o) lt)

-- what a row that fits puts beside a column fits it
pub fits_at : (old now : List Column) (row : List Value) (i : ℕ) (v : Value) (d : Column)
    → FitsTypes (map column_type old) row → map column_type now ≡ map column_type old
    → i < length now → v ≡ get_or row i v → FitsType (column_type (get_or now i d)) v
fits_at old now row i v d h k lt is =
    let wide : length row ≡ length now = length-FitsTypes (map column_type old) row h
    ∙ ap length (sym k) ∙ length-map now column_type in
    let here : FitsType (get_or (map column_type old) i (column_type d)) (get_or row i v) =
    FitsTypes-at (map column_type old) row i (column_type d) v h (omega arith) in
    let kind : get_or (map column_type old) i (column_type d) ≡ column_type (get_or now i d) =
    ap (λ l. get_or l i (column_type d)) (sym k)
    ∙ get_or-map column_type now i d (column_type d) lt in
    let P : ColumnType → Type 0 = λ t. FitsType t (get_or row i v) in
    let Q : Value → Type 0 = λ w. FitsType (column_type (get_or now i d)) w in
    subst Q (sym is) (subst P kind here)

pub fits_long : {Y : Type 0} (columns : List Column) (row : List Value) (g : Value → Y)
    → FitsTypes (map column_type columns) row → length (map g row) ≡ length columns
fits_long columns row g h = search (arith, length-map, length-FitsTypes)
