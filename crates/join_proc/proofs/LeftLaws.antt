-- What a left chunk still makes, and what is made of it pair by pair.
use Rattle.join_proc.proofs.Imports.{All, All-append, All-from_recursion, All-set, AllByRecursion, AreKeyValues, AreFit, AreStarts, IsIndexOf, IsStart, JoinIndex, JoinSpec, JoinsRows, JoinsSome, KeyPair, LeftRows, MovesOn, PairsMore, PlacePairs, Row, LeftStart, Table, agree, cases_lt, codes_in, drop-cons, drop-set, drop_all, get_or_default, append_each, is_full, joined_rows, key_at, plain_types_at, left_places, length-append, ltb-true, no_start, paired, position_or_len, right_places, row_at, row_code, rows_to_join, same_code, start_rows, starts_at, Bool, List, [], ap, append_assoc, ap₂, arith, cond, drop, false, filter, flat_map, get_or, inl, inr, leb, length, ltb, map, max, refl, subst, suc, sym, true, ℕ, ◌&&◌, ◌++◌, ◌+◌, ◌<◌, ◌==◌, ◌∙◌, ◌∷◌, ◌≡◌, ◌≤◌, ◌⊎◌, eq-eqb, le-leb, lt-leb, ne_eqb}
use Rattle.join_proc.proofs.AgreeLaws.{left-code, none-agrees}
use Rattle.join_proc.proofs.IndexLaws.{first-row, next-match, next_row, rows-linked}
use Rattle.join_proc.proofs.PlaceLaws.{filter-from, first-passes}

ltb-over : (a b : ℕ) → ltb a b ≡ false → b ≤ a
ltb-over a b e = grind arith

-- no row comes behind the last
none-behind : (pairs : List KeyPair) (l : Row) (rows : List Row) (n : ℕ) → length rows ≤ n
    → filter (agree pairs l) (drop n rows) ≡ []
none-behind pairs l rows n le = ap (filter (agree pairs l)) (drop_all n rows le)

-- the start of the row at a place, and those behind it
starts-next : (firsts : List ℕ) (rows i : ℕ) (places : List ℕ) (full : List Bool)
    → i < length places → i < length full
    → starts_at firsts rows i (drop i places) (drop i full)
    ≡ cond (ltb (get_or firsts (get_or places i 0) 0) rows && get_or full i true)
    (record { left = i; next = get_or firsts (get_or places i 0) 0 }
    ∷ starts_at firsts rows (suc i) (drop (suc i) places) (drop (suc i) full))
    (starts_at firsts rows (suc i) (drop (suc i) places) (drop (suc i) full))
starts-next firsts rows i places full lt less =
    ap₂ (starts_at firsts rows i) (drop-cons places i 0 lt) (drop-cons full i true less)

-- which is one of those where its key is full and there is a first right row
pub starts-on : (firsts : List ℕ) (rows i : ℕ) (places : List ℕ) (full : List Bool)
    → i < length places → i < length full → get_or firsts (get_or places i 0) 0 < rows
    → get_or full i true ≡ true → (more starts : List LeftStart)
    → more ≡ starts ++ record { left = i; next = get_or firsts (get_or places i 0) 0 } ∷ []
    → more ++ starts_at firsts rows (i + 1) (drop (i + 1) places) (drop (i + 1) full)
    ≡ starts ++ starts_at firsts rows i (drop i places) (drop i full)
starts-on firsts rows i places full lt less some e more starts is =
    let n = starts-next firsts rows i places full lt less in
    grind (arith, append_assoc, n)

-- else it isn't one of them
pub starts-off : (firsts : List ℕ) (rows i : ℕ) (places : List ℕ) (full : List Bool)
    → i < length places → i < length full
    → (rows ≤ get_or firsts (get_or places i 0) 0) ⊎ (get_or full i true ≡ false)
    → (more starts : List LeftStart) → more ≡ starts
    → more ++ starts_at firsts rows (i + 1) (drop (i + 1) places) (drop (i + 1) full)
    ≡ starts ++ starts_at firsts rows i (drop i places) (drop i full)
starts-off firsts rows i places full lt less none more starts is =
    let n = starts-next firsts rows i places full lt less in
    grind (arith, n)

-- ---- a chunk of which nothing is joined

module _ (pairs : List KeyPair) (x : JoinIndex) (is : IsIndexOf pairs x) (left : List Row) where
  abbrev right : List Row
  right = x.rows.rows

  abbrev place : Row → ℕ
  place l = position_or_len (same_code (row_code (left_places pairs) l)) (codes_in x.seen)

  -- the left rows from row i on, and what is made of them
  record Begun (i : ℕ) (ls : List Row) (starts : List LeftStart) : Type 0 where
    fit : AllByRecursion (IsStart pairs left right) starts
    rows : flat_map (start_rows pairs left right) starts ≡ joined_rows pairs ls right

  abbrev HasLeftKey : Row → Type 0
  HasLeftKey l =
      AreKeyValues (plain_types_at x.rows.types (right_places pairs)) (key_at (left_places pairs) l)

  abbrev full : Row → Bool
  full l = is_full (left_places pairs) l

  abbrev starts_from : ℕ → List Row → List LeftStart
  starts_from i ls = starts_at x.firsts.items (length right) i (map place ls) (map full ls)

  one-begun : (l : Row) (ls : List Row) (i : ℕ) → i < length left → row_at left i ≡ l
      → HasLeftKey l → Begun (suc i) ls (starts_from (suc i) ls)
      → Begun i (l ∷ ls) (starts_from i (l ∷ ls))
  one-begun l ls i lt here cell more = by (full l) refl
    where
      first : ℕ
      first = get_or x.firsts.items (place l) 0

      rest : List LeftStart
      rest = starts_from (suc i) ls

      matched : full l ≡ true → (b : Bool) → ltb first (length right) ≡ b
          → Begun i (l ∷ ls) (cond (b && true) (record { left = i; next = first } ∷ rest) rest)
      matched f b e = go b e
        where
          is-next : first ≡ next_row pairs l right 0
          is-next = first-row pairs x is l (row_code (left_places pairs) l)
              (left-code x.rows.types pairs l f cell) (place l) refl

          matches : filter (agree pairs l) right ≡ filter (agree pairs l) (drop first right)
          matches = filter-from (agree pairs l) right 0 first is-next

          go : (b : Bool) → ltb first (length right) ≡ b
              → Begun i (l ∷ ls) (cond (b && true) (record { left = i; next = first } ∷ rest) rest)
          go true e =
              let some = ltb-true first (length right) e in
              let passes = first-passes (agree pairs l) right 0 first is-next some in
              record {
                fit = (
                  record {
                    left_within = lt;
                    right_within = some;
                    agrees = ap (λ r. agree pairs r (row_at right first)) here ∙ passes;
                  },
                  more.fit,
                );
                rows = ap₂ ◌++◌ (ap (λ r. map (λ s. r ++ s)
                    (filter (agree pairs r) (drop first right))) here
                    ∙ ap (map (λ s. l ++ s)) (sym matches)) more.rows;
              }
          go false e = record {
            fit = more.fit;
            rows = more.rows ∙ ap (λ m. map (λ s. l ++ s) m ++ joined_rows pairs ls right)
                (sym (matches
                ∙ none-behind pairs l right first (ltb-over first (length right) e)));
          }

      never : (b : Bool) → (b && false) ≡ false
      never true = refl
      never false = refl

      by : (f : Bool) → full l ≡ f → Begun i (l ∷ ls)
          (cond (ltb first (length right) && f) (record { left = i; next = first } ∷ rest) rest)
      by true f = matched f (ltb first (length right)) refl
      by false f = subst (λ b. Begun i (l ∷ ls)
          (cond b (record { left = i; next = first } ∷ rest) rest))
          (sym (never (ltb first (length right)))) (record {
            fit = more.fit;
            rows = more.rows ∙ ap (λ m. map (λ s. l ++ s) m ++ joined_rows pairs ls right)
                (sym (none-agrees pairs l f right));
          })

  begun : (ls : List Row) (i : ℕ) → i + length ls ≡ length left
      → ((k : ℕ) → k < length ls → row_at left (i + k) ≡ row_at ls k)
      → AllByRecursion HasLeftKey ls → Begun i ls (starts_from i ls)
  begun [] i long at cells = record { fit = tt; rows = refl }
  begun (l ∷ ls) i long at cells =
      let here : row_at left i ≡ l = ap (row_at left) (omega arith) ∙ at 0 (omega arith) in
      one-begun l ls i (omega (arith, long)) here cells.0
      (begun ls (suc i) (omega (arith, long))
      (λ k lt. ap (row_at left) (omega arith) ∙ at (suc k) (omega (arith, lt))) cells.1)

  -- None of a chunk's rows is joined, and all are left.
  pub starts-left : (l : LeftRows) → l.chunk.rows ≡ left → l.at ≡ 0
      → AllByRecursion HasLeftKey left → l.starts.items ≡ starts_from 0 left
      → AreStarts pairs left right l
  starts-left l e at cells s =
      let b = begun left 0 (omega arith) (λ k lt. ap (row_at left) (omega arith)) cells in
      record {
        rows_are = e;
        fit = subst (λ rows. All (IsStart pairs rows right) l.starts.items) (sym e)
            (subst (All (IsStart pairs left right)) (sym s)
            (All-from_recursion (IsStart pairs left right) _ b.fit));
        all_left = ap (λ rows. flat_map (start_rows pairs rows right) (drop l.at l.starts.items)) e
            ∙ ap (λ n. flat_map (start_rows pairs left right) (drop n l.starts.items)) at
            ∙ ap (flat_map (start_rows pairs left right)) s ∙ b.rows;
      }

-- ---- one pair

-- the first of the rows that a start makes, and the others
start-one : (pairs : List KeyPair) (left right : List Row) (s : LeftStart)
    → IsStart pairs left right s → (n : ℕ)
    → n ≡ next_row pairs (row_at left s.left) right (suc s.next)
    → start_rows pairs left right s
    ≡ (row_at left s.left ++ row_at right s.next)
    ∷ start_rows pairs left right (record { left = s.left; next = n })
start-one pairs left right s is n e =
    let l = row_at left s.left in
    let r = row_at right s.next in
    let p = agree pairs l in
    ap (λ m. map (λ q. l ++ q) m) (ap (filter p) (drop-cons right s.next [] is.right_within)
    ∙ ap (λ b. cond b (r ∷ filter p (drop (suc s.next) right)) (filter p (drop (suc s.next) right)))
    is.agrees ∙ ap (λ m. r ∷ m) (filter-from p right (suc s.next) n e))

module _ (pairs : List KeyPair) (x : JoinIndex) (is : IsIndexOf pairs x) (old new : LeftRows)
    (fit : AreFit pairs x.rows.rows old) (some : old.at < length old.starts.items) (n : ℕ) where
  abbrev rows : List Row
  rows = x.rows.rows

  abbrev start : LeftStart
  start = get_or old.starts.items old.at no_start

  abbrev left_row : Row
  left_row = row_at old.chunk.rows start.left

  abbrev row : Row
  row = left_row ++ row_at rows start.next

  abbrev on : LeftStart
  on = record { left = start.left; next = n }

  abbrev behind : List Row
  behind = flat_map (start_rows pairs old.chunk.rows rows) (drop (suc old.at) old.starts.items)

  fits-here : IsStart pairs old.chunk.rows rows start
  fits-here = fit old.at no_start some

  pub next-within : start.next < length x.nexts.items
  next-within = subst (λ m. start.next < m) (sym (rows-linked pairs x is)) fits-here.right_within

  module _ (s : LeftStart) (here : s ≡ start) (count : ℕ) (many : count ≡ length rows)
      (read : n ≡ get_or x.nexts.items s.next n) (moved : MovesOn s.left n count old new) where
    moves : MovesOn start.left n (length rows) old new
    moves = subst (λ m. MovesOn start.left n m old new) many
        (subst (λ (t : LeftStart). MovesOn t.left n count old new) here moved)

    next-is : n ≡ next_row pairs left_row rows (suc start.next)
    next-is = read ∙ ap (λ (t : LeftStart). get_or x.nexts.items t.next n) here
        ∙ get_or_default x.nexts.items start.next n 0 next-within
        ∙ next-match pairs x is left_row start.next fits-here.right_within fits-here.agrees

    left-here : rows_to_join pairs rows old
        ≡ row ∷ (start_rows pairs old.chunk.rows rows on ++ behind)
    left-here =
        ap (flat_map (start_rows pairs old.chunk.rows rows))
        (drop-cons old.starts.items old.at no_start some)
        ∙ ap (λ l. l ++ behind) (start-one pairs old.chunk.rows rows start fits-here n next-is)

    -- The left chunk fits as before, and the pair's row was the first that was left.
    pub moved-fit : AreFit pairs rows new
    moved-fit = subst (λ c. All (IsStart pairs c rows) new.starts.items)
        (ap (λ (t : Table). t.rows) (sym moves.chunk)) (elim (cases_lt n (length rows)) [
          | inl lt ↦ subst (All (IsStart pairs old.chunk.rows rows)) (sym (moves.on lt).1)
              (All-set (IsStart pairs old.chunk.rows rows) old.starts.items old.at on
              (record {
                left_within = fits-here.left_within;
                right_within = lt;
                agrees = first-passes (agree pairs left_row) rows (suc start.next) n next-is lt;
              }) fit)
          | inr le ↦ subst (All (IsStart pairs old.chunk.rows rows)) (sym (moves.over le).1) fit
        ])

    moved-left : start_rows pairs old.chunk.rows rows on ++ behind ≡ rows_to_join pairs rows new
    moved-left =
        let left : List LeftStart → List Row = flat_map (start_rows pairs old.chunk.rows rows) in
        let go : start_rows pairs old.chunk.rows rows on ++ behind
        ≡ left (drop new.at new.starts.items) = elim (cases_lt n (length rows)) [
          | inl lt ↦ sym (ap left (ap₂ drop (moves.on lt).0 (moves.on lt).1
              ∙ drop-set old.starts.items old.at on some
              ∙ ap (λ k. on ∷ drop k old.starts.items)
              (let e : old.at + 1 ≡ suc old.at = omega arith in e)))
          | inr le ↦ ap (λ l. map (λ r. left_row ++ r) l ++ behind)
              (none-behind pairs left_row rows n le)
              ∙ sym (ap left (ap₂ drop (moves.over le).0 (moves.over le).1))
        ] in
        go ∙ ap (λ (t : Table). flat_map (start_rows pairs t.rows rows)
        (drop new.at new.starts.items)) (sym moves.chunk)

    pub moved-pairs : (places more : PlacePairs)
        → more.lefts.items ≡ places.lefts.items ++ s.left ∷ []
        → more.rights.items ≡ places.rights.items ++ s.next ∷ []
        → PairsMore pairs rows old new places more
    moved-pairs places more l r = record {
      start = start;
      left_within = fits-here.left_within;
      right_within = fits-here.right_within;
      lefts = l ∙ ap (λ (t : LeftStart). places.lefts.items ++ t.left ∷ []) here;
      rights = r ∙ ap (λ (t : LeftStart). places.rights.items ++ t.next ∷ []) here;
      rows = left-here ∙ ap (λ m. row ∷ m) moved-left;
    }

-- Where a start is left, a row is.
pub some-left : (pairs : List KeyPair) (right : List Row) (l : LeftRows) → AreFit pairs right l
    → l.at < length l.starts.items → 0 < length (rows_to_join pairs right l)
some-left pairs right l fit some =
    let s = get_or l.starts.items l.at no_start in
    let f = fit l.at no_start some in
    let e = ap length (ap (flat_map (start_rows pairs l.chunk.rows right))
    (drop-cons l.starts.items l.at no_start some)
    ∙ ap (λ m. m ++ flat_map (start_rows pairs l.chunk.rows right)
    (drop (suc l.at) l.starts.items)) (start-one pairs l.chunk.rows right s f _ refl)) in
    omega (arith, e)

pub none-left : (pairs : List KeyPair) (right : List Row) (l : LeftRows)
    → length l.starts.items ≤ l.at → rows_to_join pairs right l ≡ []
none-left pairs right l le = grind (arith, drop_all)

-- ---- several pairs

paired-push : (f g : ℕ → Row) (ps qs : List ℕ) (a b : ℕ) → length ps ≡ length qs
    → append_each (map f (ps ++ a ∷ [])) (map g (qs ++ b ∷ []))
    ≡ append_each (map f ps) (map g qs) ++ (f a ++ g b) ∷ []
paired-push f g [] [] a b e = refl
paired-push f g [] (y ∷ qs) a b e = absurd (omega (arith, e))
paired-push f g (x ∷ ps) [] a b e = absurd (omega (arith, e))
paired-push f g (x ∷ ps) (y ∷ qs) a b e =
    ap (λ l. (f x ++ g y) ∷ l) (paired-push f g ps qs a b (omega (arith, e)))

pub paired-long : (f g : ℕ → Row) (ps qs : List ℕ) → length ps ≡ length qs
    → length (append_each (map f ps) (map g qs)) ≡ length ps
paired-long f g [] qs e = refl
paired-long f g (x ∷ ps) [] e = absurd (omega (arith, e))
paired-long f g (x ∷ ps) (y ∷ qs) e = ap suc (paired-long f g ps qs (omega (arith, e)))

one-within : (n p : ℕ) → p < n → All (λ q. q < n) (p ∷ [])
one-within n p lt = All-from_recursion (λ q. q < n) (p ∷ []) (lt, tt)

pub joins-more : (pairs : List KeyPair) (right : List Row) (first old new : LeftRows)
    (places more : PlacePairs) → old.chunk ≡ first.chunk → JoinsRows pairs right first old places
    → PairsMore pairs right old new places more → JoinsRows pairs right first new more
joins-more pairs right first old new places more e h m =
    let left = first.chunk.rows in
    let chunk : old.chunk.rows ≡ left = ap (λ (t : Table). t.rows) e in
    let ps = places.lefts.items in
    let qs = places.rights.items in
    record {
      lefts = subst (All (λ p. p < length left)) (sym m.lefts)
          (All-append (λ p. p < length left) ps (m.start.left ∷ []) h.lefts
          (one-within (length left) m.start.left
          (subst (λ (l : List Row). m.start.left < length l) chunk m.left_within)));
      rights = subst (All (λ p. p < length right)) (sym m.rights)
          (All-append (λ p. p < length right) qs (m.start.next ∷ []) h.rights
          (one-within (length right) m.start.next m.right_within));
      same = ap length m.lefts ∙ length-append ps (m.start.left ∷ [])
          ∙ ap (λ n. n + 1) h.same ∙ sym (ap length m.rights
          ∙ length-append qs (m.start.next ∷ []));
      rows = ap (λ l. l ++ rows_to_join pairs right new)
          (ap₂ (λ a b. append_each (map (row_at left) a) (map (row_at right) b)) m.lefts m.rights
          ∙ paired-push (row_at left) (row_at right) ps qs m.start.left m.start.next h.same)
          ∙ append_assoc (paired left right places)
          ((row_at left m.start.left ++ row_at right m.start.next) ∷ [])
          (rows_to_join pairs right new)
          ∙ ap (λ l. paired left right places ++ l)
          (ap (λ c. (row_at c m.start.left ++ row_at right m.start.next)
          ∷ rows_to_join pairs right new) (sym chunk) ∙ sym m.rows)
          ∙ h.rows;
    }

-- a chunk of the pairs
pub joins-some : (join : JoinSpec) (x : JoinIndex) (old new : LeftRows) (places : PlacePairs)
    (t : Table) → JoinsRows join.pairs x.rows.rows old new places
    → length places.lefts.items ≤ max join.rows 1
    → (length places.lefts.items ≡ max join.rows 1)
    ⊎ (rows_to_join join.pairs x.rows.rows new ≡ [])
    → t.types ≡ old.chunk.types ++ x.rows.types
    → t.rows ≡ paired old.chunk.rows x.rows.rows places → JoinsSome join x old new t
joins-some join x old new places t h few some types rows = grind (arith, paired-long)

-- a left chunk is joined where no row is left
pub joined-empty : (pairs : List KeyPair) (right : List Row) (l : LeftRows) → AreFit pairs right l
    → leb (length l.starts.items) l.at ≡ (length (rows_to_join pairs right l) == 0)
joined-empty pairs right l fit =
    grind (arith, cases_lt, lt-leb, ne_eqb, some-left, le-leb, eq-eqb, none-left)
