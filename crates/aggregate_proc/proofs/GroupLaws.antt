-- The rows of a group table are the groups of its rows.
use Rattle.aggregate_proc.proofs.Imports.{All, AllByRecursion, AreCalls, AreKeyValues, AreLong, Call, Column, ColumnType, FitsColumn, FoldColumn, Folding, GroupsMore, HasKeyFirst, HasKeyAt, IsGroupTable, IsGroupTableOf, Row, GroupTableView, append-nil, argument_at, cases_eq, combined, count_up, distinct, distinct_rows, folded, folded_at, folding_of, foldings_of, get_or-map, group_column, group_keys, grouped_by, insert_key, key_code, key_foldings, key_of, plain_types_at, length-append, length-map, length-rows_of, list_any, list_any-append, map-append, map-map, merged_groups, merged_groups_is, places_from, recursion_from_All, row_code, group_table_rows, rows_of, rows_with, same_code, same_row, same_row_is, value_at, values, with_rows, AreLong-made, rows_of-made, codes-keys, places-keys, every-append, common_steps, Bool, List, [], ap, append_assoc, ap₂, arith, filter, fold, length, map, refl, subst, suc, sym, true, zero, ℕ, ◌++◌, ◌<◌, ◌∙◌, ◌∷◌, ◌≡◌, ◌≤◌, nil_from_length}
use Rattle.aggregate_proc.proofs.Classes.{any-distinct, class-more, distinct-more, filter-some, list_any-map}
use Rattle.aggregate_proc.proofs.FoldLaws.{earlier-first}
use Rattle.aggregate_proc.proofs.ListLaws.{all-distinct, map-same}
use Rattle.aggregate_proc.specs.declared.fold.Fold.TheVariants as fold

-- the code of a row's first values
abbrev code_of : ℕ → Row → List ℕ
code_of n row = row_code (count_up n) row

-- ---- the first columns

first-long : (n : ℕ) → length (count_up n) ≡ n
unfolding count_up
first-long zero = refl
first-long (suc n) = grind (arith, length-append, first-long n)

key-long : (n : ℕ) (row : Row) → length (key_of n row) ≡ n
key-long n row = length-map (count_up n) (value_at row) ∙ first-long n

pub first-within : (n m : ℕ) → n ≤ m → All (λ c. c < m) (count_up n)
unfolding count_up
first-within zero m le = λ k d lt. absurd (omega (arith, lt))
first-within (suc n) m le =
    grind (arith, common_steps, cases_eq, first-within n m (omega (arith, le)))

-- each of the rows is among those that are one with it
all-columns : (types : List ColumnType) (places : List ℕ) (more : List Row)
    (columns : List FoldColumn) → All (FitsColumn types) columns
    → All (FitsColumn types) (map (with_rows places more) columns)
all-columns types places more columns h = λ k d lt.
    let l = length-map columns (with_rows places more) in
    subst (FitsColumn types) (sym
    (get_or-map (with_rows places more) columns k d d (omega (arith, l, lt)))) (h k d
    (omega (arith, l, lt)))

found : (R : Row → Row → Bool) → ((r : Row) → R r r ≡ true) → (before rows : List Row)
    → AllByRecursion (λ q. list_any (R q) (before ++ rows) ≡ true) rows
found R itself before [] = tt
found R itself before (r ∷ rows) =
    let a = list_any-append (R r) before (r ∷ rows) in
    let b = itself r in (
      grind (arith, common_steps),
      subst (λ l. AllByRecursion (λ q. list_any (R q) l ≡ true) rows)
          (append_assoc before (r ∷ []) rows) (found R itself (before ++ r ∷ []) rows),
    )

-- the first values of the rows with a key are the key
first-values : (n : ℕ) (k : Row) (rows : List Row)
    → list_any (λ r. same_row k (key_of n r)) rows ≡ true
    → map (λ c. folded fold.First
    (map (λ (r : Row). value_at r c) (filter (λ r. same_row k (key_of n r)) rows))) (count_up n) ≡ k
first-values n k rows h =
    let s = filter-some (λ r. same_row k (key_of n r)) rows h in
    ap (λ l. map (λ c. folded fold.First (map (λ (r : Row). value_at r c) l)) (count_up n)) s.is
    ∙ (λ i. map (λ c. earlier-first (value_at s.first c) (map (λ (r : Row). value_at r c) s.rest) i)
    (count_up n))
    ∙ sym (same_row_is.one k (key_of n s.first) s.passes)

calls-made : (foldings : List Folding) (calls : List Call) → AreCalls foldings calls
    → (rows : List Row)
    → map (λ (f : Folding). folded f.op (map (argument_at f) rows)) foldings
    ≡ map (λ (call : Call). combined call.op (map call.arg rows)) calls
calls-made (f ∷ foldings) (call ∷ calls) h rows = grind (arith, calls-made foldings calls h.1 rows)
calls-made foldings calls h rows = grind arith

-- each key is found among them
keys-found : (n : ℕ) (rows : List Row) (k : Row) → list_any (same_row k) (group_keys n rows) ≡ true
    → list_any (λ r. same_row k (key_of n r)) rows ≡ true
keys-found n rows k h =
    sym (any-distinct same_row same_row_is k (map (key_of n) rows)
    ∙ list_any-map (same_row k) (key_of n) rows) ∙ h

module _ (types : List ColumnType) (n : ℕ) (foldings : List Folding) (calls : List Call)
    (are : AreCalls foldings calls) where
  -- the row of the group with a key
  group-row : (rows : List Row) (k : Row)
      → list_any (same_row k) (group_keys n rows) ≡ true
      → map (λ (f : Folding). folded_at n rows f k) (key_foldings types n ++ foldings)
      ≡ k ++ map (λ (call : Call). combined call.op (map call.arg (rows_with (key_of n) k rows)))
      calls
  group-row rows k any =
      let with = rows_with (key_of n) k rows in
      map-append (λ (f : Folding). folded f.op (map (argument_at f) with))
      (key_foldings types n) foldings
      ∙ ap₂ (λ a b. a ++ b)
      (map-map (λ (f : Folding). folded f.op (map (argument_at f) with)) _ (count_up n)
      ∙ first-values n k rows (keys-found n rows k any))
      (calls-made foldings calls are with)

  -- The rows of a table are the groups of its rows.
  pub table-groups : (codes : List (List ℕ)) (columns : List FoldColumn) (rows : List Row)
      → IsGroupTableOf types n (key_foldings types n ++ foldings) codes columns rows
      → rows_of (length codes) (map (λ (c : FoldColumn). c.values) columns)
      ≡ grouped_by (key_of n) calls rows
  table-groups codes columns rows h =
      let keys = group_keys n rows in
      let all = key_foldings types n ++ foldings in
      ap₂ (λ m l. rows_of m (map (λ (c : FoldColumn). c.values) l))
      (ap length h.seen ∙ length-map keys key_code) h.folds
      ∙ ap (rows_of (length keys)) (map-map (λ (c : FoldColumn). c.values)
      (group_column n rows) all)
      ∙ rows_of-made (folded_at n rows) all keys
      ∙ map-same (λ k. list_any (same_row k) keys ≡ true) _ _ (group-row rows) keys
      (found same_row same_row_is.itself [] keys)

-- ---- rows that follow

cells-of : (types : List ColumnType) (n : ℕ) (rows : List Row)
    → AllByRecursion (HasKeyFirst types n) rows
    → AllByRecursion (AreKeyValues (plain_types_at types (count_up n))) (map (key_of n) rows)
cells-of types n [] h = tt
cells-of types n (r ∷ rows) h = (h.0, cells-of types n rows h.1)

-- The table of rows, and of a chunk's rows behind them.
pub table-more : (types : List ColumnType) (n : ℕ) (foldings : List Folding) (codes : List (List ℕ))
    (columns : List FoldColumn) (rows more : List Row)
    → IsGroupTableOf types n foldings codes columns rows → AllByRecursion (HasKeyFirst types n) more
    → IsGroupTableOf types n foldings (fold (insert_key same_code) codes (map (code_of n) more))
    (map (with_rows (places_from true same_code codes (map (code_of n) more)) more) columns)
    (rows ++ more)
table-more types n foldings codes columns rows more h k =
    let keys = group_keys n rows in
    let ts = plain_types_at types (count_up n) in
    let ks = map (key_of n) more in
    let first = all-distinct (AreKeyValues ts) same_row (map (key_of n) rows)
    (cells-of types n rows h.input) in
    let next = cells-of types n more k in
    let es : map (code_of n) more ≡ map key_code ks = sym (map-map key_code (key_of n) more) in
    let places : places_from true same_code codes (map (code_of n) more)
    ≡ places_from true same_row keys ks =
    ap₂ (places_from true same_code) h.seen es ∙ places-keys ts true ks next keys first in
    record {
      input = every-append (HasKeyFirst types n) rows more h.input k;
      seen = ap₂ (λ l m. fold (insert_key same_code) l m) h.seen es
          ∙ codes-keys ts true ks next keys first
          ∙ ap (map key_code) (sym (distinct-more same_row same_row_is (map (key_of n) rows) ks)
          ∙ ap distinct_rows (sym (map-append (key_of n) rows more)));
      folds = ap₂ (λ p l. map (with_rows p more) l) places h.folds
          ∙ map-map (with_rows (places_from true same_row keys ks) more) (group_column n rows)
          foldings
          ∙ (λ i. map (λ (f : Folding). record {
            op = f.op;
            input = f.input;
            kind = f.kind;
            values =
                sym (class-more same_row same_row_is (key_of n) (argument_at f) f.op rows more) i;
          }) foldings);
    }

-- ---- one call more

rows-foldings : (places : List ℕ) (more : List Row) (columns : List FoldColumn)
    → map folding_of (map (with_rows places more) columns) ≡ map folding_of columns
rows-foldings places more columns = map-map folding_of (with_rows places more) columns

-- Rows with the same groups have the same groups with more rows behind them.
groups-more : (n : ℕ) (calls : List Call) (xs ys more : List Row)
    → grouped_by (key_of n) calls xs ≡ grouped_by (key_of n) calls ys
    → grouped_by (key_of n) calls (xs ++ more) ≡ grouped_by (key_of n) calls (ys ++ more)
groups-more n calls xs ys more e =
    let ops = map (λ (c : Call). c.op) calls in
    ap (λ l. grouped_by (key_of n) calls (xs ++ l)) (sym (append-nil more))
    ∙ sym (merged_groups_is n (key_of n) (key-long n) calls (xs ∷ more ∷ []))
    ∙ ap (λ l. merged_groups n ops (l ++ (grouped_by (key_of n) calls more ++ []))) e
    ∙ merged_groups_is n (key_of n) (key-long n) calls (ys ∷ more ∷ [])
    ∙ ap (λ l. grouped_by (key_of n) calls (ys ++ l)) (append-nil more)

-- rows behind those of a table
abbrev pub added_to : GroupTableView → List Row → GroupTableView
added_to t more = record t {
  codes = fold (insert_key same_code) t.codes (map (code_of t.keys) more);
  columns =
      map (with_rows (places_from true same_code t.codes (map (code_of t.keys) more)) more)
      t.columns;
}

pub added-table : (t : GroupTableView) (more : List Row)
    → AllByRecursion (HasKeyFirst t.types t.keys) more
    → IsGroupTable t → IsGroupTable (added_to t more)
added-table t more k h =
    let new = added_to t more in
    let places = places_from true same_code t.codes (map (code_of t.keys) more) in
    record {
      wide = h.wide;
      fits = all-columns t.types places more t.columns h.fits;
      rows = h.rows ++ more;
      is = subst (λ fs. IsGroupTableOf t.types t.keys fs new.codes new.columns (h.rows ++ more))
          (sym (rows-foldings places more t.columns))
          (table-more t.types t.keys
          (map folding_of t.columns) t.codes t.columns h.rows more h.is k);
    }

pub added-groups : (t : GroupTableView) (more : List Row)
    → AllByRecursion (HasKeyFirst t.types t.keys) more
    → IsGroupTable t → GroupsMore t more (added_to t more)
unfolding added-table
added-groups t more k h =
    let new = added_to t more in
    let places = places_from true same_code t.codes (map (code_of t.keys) more) in
    record {
      types = refl;
      keys = refl;
      foldings = rows-foldings places more t.columns;
      groups = λ calls foldings are good rows e.
          let now = added-table t more k h in
          let before =
          subst (λ fs. IsGroupTableOf t.types t.keys fs t.codes t.columns h.rows) are h.is in
          let after = subst (λ fs. IsGroupTableOf t.types t.keys fs new.codes new.columns
          (h.rows ++ more))
          (rows-foldings places more t.columns ∙ are) now.is in
          table-groups t.types t.keys foldings calls good new.codes new.columns
          (h.rows ++ more) after
          ∙ groups-more t.keys calls h.rows rows more
          (sym (table-groups t.types t.keys foldings calls good t.codes t.columns h.rows before)
          ∙ e);
    }

-- ---- the columns of a table

-- each column has a value for each group
pub columns-long : (t : GroupTableView) → IsGroupTable t
    → AreLong (length t.codes) (map (λ (c : FoldColumn). c.values) t.columns)
columns-long t h =
    let keys = group_keys t.keys h.rows in
    subst (λ n. AreLong n (map (λ (c : FoldColumn). c.values) t.columns))
    (sym (ap length h.is.seen ∙ length-map keys key_code))
    (subst (AreLong (length keys)) (sym (ap (map (λ (c : FoldColumn). c.values)) h.is.folds
    ∙ map-map (λ (c : FoldColumn). c.values) (group_column t.keys h.rows) (foldings_of t)))
    (AreLong-made (folded_at t.keys h.rows) (foldings_of t) keys))

pub rows-counted : (t : GroupTableView) → IsGroupTable t → length (group_table_rows t)
    ≡ length t.codes
rows-counted t h = search (arith, length-rows_of, columns-long)

-- a table without rows
pub empty-table : (t : GroupTableView) → t.keys ≤ length t.types
    → All (FitsColumn t.types) t.columns
    → t.codes ≡ [] → All (λ (c : FoldColumn). c.values ≡ []) t.columns → IsGroupTable t
unfolding distinct
empty-table t wide fits none empty = record {
  wide = wide;
  fits = fits;
  rows = [];
  is = record { input = tt; seen = none; folds = go t.columns empty };
}
  where
    go : (cs : List FoldColumn) → All (λ (c : FoldColumn). c.values ≡ []) cs
        → cs ≡ map (group_column t.keys []) (map folding_of cs)
    go [] h = refl
    go (c ∷ cs) h = ap₂ ◌∷◌
        (ap (λ vs. record { op = c.op; input = c.input; kind = c.kind; values = vs })
        (h 0 c (omega arith)))
        (go cs (λ k d lt. h (suc k) d (omega (arith, lt))))

pub no-rows : (t : GroupTableView) → t.codes ≡ [] → IsGroupTable t → group_table_rows t ≡ []
no-rows t none h = nil_from_length (group_table_rows t) (rows-counted t h ∙ ap length none)

-- ---- what the code makes of a table

pub places-long : (codes es : List (List ℕ))
    → length (places_from true same_code codes es) ≡ length es
places-long codes [] = refl
places-long codes (e ∷ es) = ap suc (places-long (insert_key same_code codes e) es)

-- what the code leaves is the table of more rows
pub adds-rows : (t : GroupTableView) (rows : List Row) (kinds : List ColumnType) (cs : List ℕ)
    (codes : List (List ℕ)) (now : List FoldColumn) (places : List ℕ)
    → kinds ≡ t.types → cs ≡ count_up t.keys → All (HasKeyAt kinds cs) rows → IsGroupTable t
    → places ≡ places_from true same_code t.codes (map (row_code cs) rows)
    → codes ≡ fold (insert_key same_code) t.codes (map (row_code cs) rows)
    → now ≡ map (with_rows places rows) t.columns
    → IsGroupTable (record t { codes = codes; columns = now })
    × GroupsMore t rows (record t { codes = codes; columns = now })
adds-rows t rows kinds cs codes now places same cols cells h p s n =
    let k = recursion_from_All (HasKeyFirst t.types t.keys) rows
    (subst (λ l. All (HasKeyAt t.types l) rows) cols
    (subst (λ ts. All (HasKeyAt ts cs) rows) same cells)) in
    let e : added_to t rows ≡ record t { codes = codes; columns = now } = grind arith in
    subst (λ (v : GroupTableView). IsGroupTable v × GroupsMore t rows v) e
    (added-table t rows k h, added-groups t rows k h)

pub chunk-long : (t : GroupTableView) (n : ℕ) (columns : List Column) → IsGroupTable t
    → n ≡ length t.codes → map values columns ≡ map (λ (c : FoldColumn). c.values) t.columns
    → AreLong n (map values columns)
chunk-long t n columns h l e = grind (arith, columns-long)
