-- What a merge has made, as chunks are taken, ends noted and first rows made.
use Rattle.std.proofs.Common.{◌≡◌, ◌≢◌, ℕ, zero, suc, ◌<◌, ◌||◌, nat_lt, Bool, true, false, List, [], ◌∷◌, ◌++◌, length, get_or, set, append_assoc, refl, sym, ap, ap₂, subst, ◌∙◌, arith, inl, inr, IsPermutation, IsSorted}
use Rattle.sort_procs.proofs.Imports.{AllByRecursion, AreInputsSorted, AreMerged, Contains, Contains-append_left, Contains-append_right, InOrder, InputHead, IsBeforeNone, IsPermutation-append_comm, IsPermutation-append_left, IsPermutation-append_right, IsPermutation-middle, IsPermutation-trans, Lists, Row, SortKey, Table, all-more, cases_eq, chunk-elsewhere, chunk-here, chunk_rows, every-append, every-back, every-contains, every-front, every-none, every-permuted, every-weaker, get_or-set_other, get_or-set_same, head_at, head_rows, is_lt, no-rows, no_lists, one-more, append-nil, length-set, lt-ltb, or_right, set-get_or, set-set, order-back, order-cross, order-from_sorted, order-front, order-joined, row_cmp, rows-ordered, sorted-from_order, with_chunk}
use Rattle.proc_api.specs.kinds.MergeSorted.{AreLast, HeldBack, is_ready_head, no_input_head}

-- more rows behind those that are held of one input
moved : (m f b t : List Row) → IsPermutation ((m ++ (f ++ b)) ++ t) (m ++ (f ++ (t ++ b)))
moved m f b t = subst (λ l. IsPermutation l (m ++ (f ++ (t ++ b))))
    (sym (append_assoc m (f ++ b) t))
    (IsPermutation-append_right m _ _ (subst (λ l. IsPermutation l (f ++ (t ++ b)))
    (sym (append_assoc f b t)) (IsPermutation-append_right f _ _ (IsPermutation-append_comm b t))))

-- ---- lists of heads

-- what holds of the new element at place i, and of the old ones elsewhere
pub set-each : {X : Type 0} (xs : List X) (i : ℕ) (new d : X) (P : ℕ → X → Type 0) → i < length xs
    → P i new → ((j : ℕ) → j ≢ i → P j (get_or xs j d)) → (j : ℕ) → P j (get_or (set xs i new) j d)
set-each xs i new d P lt here there j = grind (arith, cases_eq, get_or-set_same, get_or-set_other)

-- the rows that are held of input i, among those of all
record AmongHeads (heads : List InputHead) (i : ℕ) (new : InputHead) : Type 0 where
  front : List Row
  back : List Row
  old_are : head_rows heads ≡ front ++ ((head_at heads i).rows ++ back)
  new_are : head_rows (set heads i new) ≡ front ++ (new.rows ++ back)

among : (heads : List InputHead) (i : ℕ) (new : InputHead) → i < length heads
    → AmongHeads heads i new
among [] i new lt = absurd (omega (arith, lt))
among (h ∷ heads) zero new lt =
    record { front = []; back = head_rows heads; old_are = refl; new_are = refl }
among (h ∷ heads) (suc i) new lt =
    let m = among heads i new (omega (arith, lt)) in
    record {
      front = h.rows ++ m.front;
      back = m.back;
      old_are = grind (arith, append_assoc);
      new_are = grind (arith, append_assoc);
    }

every-head : (P : Row → Type 0) (heads : List InputHead)
    → ((j : ℕ) → j < length heads → AllByRecursion P (head_at heads j).rows)
    → AllByRecursion P (head_rows heads)
every-head P [] f = tt
every-head P (h ∷ heads) f = every-append P h.rows (head_rows heads) (f 0 (omega arith))
    (every-head P heads (λ j lt. f (suc j) (omega (arith, lt))))

every-both : {X : Type 0} (P Q R : X → Type 0) → ((x : X) → P x → Q x → R x) → (xs : List X)
    → AllByRecursion P xs → AllByRecursion Q xs → AllByRecursion R xs
every-both P Q R f [] h k = tt
every-both P Q R f (x ∷ xs) h k = (f x h.0 k.0, every-both P Q R f xs h.1 k.1)

pub same-heads : (old new : List InputHead) → length new ≡ length old
    → ((j : ℕ) → (head_at new j).rows ≡ (head_at old j).rows) → head_rows new ≡ head_rows old
same-heads [] [] l e = refl
same-heads (o ∷ old) (n ∷ new) l e =
    ap₂ (λ a b. a ++ b) (e 0) (same-heads old new (omega (arith, l)) (λ j. e (suc j)))
same-heads _ _ l e = absurd (omega (arith, l))

module _ (keys : List SortKey) where
  abbrev lt : Row → Row → Bool
  lt a b = is_lt (row_cmp keys a b)

  front-sorted : (xs ys : List Row) → IsSorted (row_cmp keys) (xs ++ ys)
      → IsSorted (row_cmp keys) xs
  front-sorted xs ys h =
      grind (arith, sorted-from_order, order-front, order-from_sorted, rows-ordered keys)

  -- nothing is held and made
  pub merged-none : (heads : List InputHead) → head_rows heads ≡ []
      → ((j : ℕ) → (head_at heads j).rows ≡ []) → AreMerged keys heads no_lists []
  merged-none heads none each = grind (arith, no-rows)

  -- ends are noted
  pub merged-noted : (old new : List InputHead) (worked : Lists) (made : List Row)
      → length new ≡ length old → ((j : ℕ) → (head_at new j).rows ≡ (head_at old j).rows)
      → ((j : ℕ) → j < 32 → (head_at old j).ended ≡ true → (head_at new j).ended ≡ true)
      → AreMerged keys old worked made → AreMerged keys new worked made
  merged-noted old new worked made l e ends h = grind (arith, same-heads)

  -- ---- a chunk is taken

  module _ (heads : List InputHead) (worked : Lists) (made : List Row) (i : ℕ) (t : Table)
      (count : length heads ≡ 32) (within : i < 32) (used : head_at heads i ≡ no_input_head)
      (h : AreMerged keys heads worked made) where
    abbrev new : InputHead
    new = record { rows = t.rows; ended = false }

    abbrev taken : List InputHead
    taken = set heads i new

    at-i : i < length heads
    at-i = omega (arith, count, within)

    abbrev more : Lists
    more = with_chunk i t worked

    here : chunk_rows (more i) ≡ chunk_rows (worked i) ++ t.rows
    here = ap chunk_rows (chunk-here i t worked) ∙ one-more (worked i) t

    there : (j : ℕ) → j ≢ i → chunk_rows (more j) ≡ chunk_rows (worked j)
    there j ne = ap chunk_rows (chunk-elsewhere i j t worked ne)

    held : AmongHeads heads i new
    held = among heads i new at-i

    old-rows : head_rows heads ≡ held.front ++ held.back
    old-rows = held.old_are ∙ ap (λ (n : InputHead). held.front ++ (n.rows ++ held.back)) used

    before-sorted : AreInputsSorted keys more → AreInputsSorted keys worked
    before-sorted s j = elim (cases_eq j i) [
      | inl z ↦ subst (λ n. IsSorted (row_cmp keys) (chunk_rows (worked n))) (sym z)
          (front-sorted (chunk_rows (worked i)) t.rows
          (subst (IsSorted (row_cmp keys)) here (s i)))
      | inr ne ↦ subst (IsSorted (row_cmp keys)) (there j ne) (s j)
    ]

    -- the new rows come before none that is made
    none-before : AreInputsSorted keys more → AllByRecursion (λ y. IsBeforeNone keys y made) t.rows
    none-before s = go made refl
      where
        go : (rows : List Row) → rows ≡ made
            → AllByRecursion (λ y. IsBeforeNone keys y rows) t.rows
        go [] e = every-none (λ y x. lt y x ≡ false) t.rows
        go (r ∷ rows) e = elim (h.held_back (let l = ap length e in omega (arith, l)) i within) [
          | inl ended ↦ absurd (let c : false ≡ true = ap (λ (n : InputHead). n.ended) (sym used)
              ∙ ended in cc)
          | inr w ↦
              let o = rows-ordered keys in
              let order = order-from_sorted lt o (chunk_rows (worked i) ++ t.rows)
              (subst (IsSorted (row_cmp keys)) here (s i)) in
              every-weaker (λ y. lt y w.0 ≡ false) (λ y. IsBeforeNone keys y (r ∷ rows))
              (λ y b. every-weaker (λ x. lt w.0 x ≡ false) (λ x. lt y x ≡ false)
              (λ x k. o.chain y w.0 x b k) (r ∷ rows)
              (subst (IsBeforeNone keys w.0) (sym e) w.2)) t.rows
              (every-contains (λ x. AllByRecursion (λ y. lt y x ≡ false) t.rows)
              (chunk_rows (worked i)) w.0
              (order-cross lt o (chunk_rows (worked i)) t.rows order) w.1)
        ]

    pub merged-taken : AreMerged keys taken more made
    merged-taken = record {
      same_rows =
          IsPermutation-trans _ _ _ (all-more i t worked within)
          (IsPermutation-trans _ _ _ (IsPermutation-append_left t.rows _ _ h.same_rows)
          (subst (λ l. IsPermutation ((made ++ l) ++ t.rows) (made ++ head_rows taken))
          (sym old-rows)
          (subst (λ l. IsPermutation ((made ++ (held.front ++ held.back)) ++ t.rows) (made ++ l))
          (sym held.new_are) (moved made held.front held.back t.rows))));
      heads_are = set-each heads i new no_input_head
          (λ j n. j < 32 → AreLast n.rows (chunk_rows (more j))) at-i
          (λ less. record { front = chunk_rows (worked i); is = here })
          (λ j ne less. subst (AreLast (head_at heads j).rows) (sym (there j ne))
          (h.heads_are j less));
      in_order = λ s. h.in_order (before-sorted s);
      before_held = λ s.
          let P : Row → Type 0 = λ y. IsBeforeNone keys y made in
          let old = subst (AllByRecursion P) old-rows (h.before_held (before-sorted s)) in
          subst (AllByRecursion P) (sym held.new_are)
          (every-append P held.front (t.rows ++ held.back) (every-front P held.front held.back old)
          (every-append P t.rows held.back (none-before s)
          (every-back P held.front held.back old)));
      held_back = λ some. set-each heads i new no_input_head
          (λ j n. j < 32 → HeldBack keys n (chunk_rows (more j)) made) at-i
          (λ less. elim (h.held_back some i within) [
            | inl ended ↦ absurd (let c : false ≡ true = ap (λ (n : InputHead). n.ended) (sym used)
                ∙ ended in cc)
            | inr w ↦ inr (
              w.0,
              subst (λ l. Contains l w.0) (sym here)
                  (Contains-append_left (chunk_rows (worked i)) t.rows w.0 w.1),
              w.2,
            )
          ])
          (λ j ne less. subst (λ l. HeldBack keys (head_at heads j) l made) (sym (there j ne))
          (h.held_back some j less));
    }

  -- ---- a first row is made

  -- no row that is held comes before x
  abbrev pub IsLeast : List InputHead → Row → Type 0
  IsLeast heads x = (j : ℕ) → j < 32 → (f : Row) (rest : List Row)
      → (head_at heads j).rows ≡ f ∷ rest → lt f x ≡ false

  abbrev pub AreReady : List InputHead → Type 0
  AreReady heads = (j : ℕ) → j < 32 → is_ready_head (head_at heads j) ≡ true

  module _ (heads : List InputHead) (worked : Lists) (made : List Row) (i : ℕ) (x : Row)
      (rest : List Row) (e : Bool) (count : length heads ≡ 32) (within : i < 32)
      (first : head_at heads i ≡ record { rows = x ∷ rest; ended = e }) (least : IsLeast heads x)
      (ready : AreReady heads) (h : AreMerged keys heads worked made) where
    abbrev behind-it : InputHead
    behind-it = record { rows = rest; ended = e }

    abbrev left : List InputHead
    left = set heads i behind-it

    there-i : i < length heads
    there-i = omega (arith, count, within)

    out : AmongHeads heads i behind-it
    out = among heads i behind-it there-i

    -- those that are held are the first row and the others
    one-out : IsPermutation (head_rows heads) (x ∷ head_rows left)
    one-out =
        subst (λ l. IsPermutation l (x ∷ head_rows left))
        (sym (out.old_are ∙ ap (λ (n : InputHead). out.front ++ (n.rows ++ out.back)) first))
        (subst (λ l. IsPermutation (out.front ++ ((x ∷ rest) ++ out.back)) (x ∷ l))
        (sym out.new_are)
        (IsPermutation-middle out.front x (rest ++ out.back)))

    -- no row that is held comes before it, where inputs are in order
    behind : AreInputsSorted keys worked → AllByRecursion (λ y. lt y x ≡ false) (head_rows heads)
    behind s = every-head (λ y. lt y x ≡ false) heads (λ j less.
        let n : j < 32 = omega (arith, less, count) in
        let a = h.heads_are j n in
        let o = rows-ordered keys in
        go (head_at heads j).rows (least j n)
        (order-back lt o a.front (head_at heads j).rows (order-from_sorted lt o _
        (subst (IsSorted (row_cmp keys)) a.is (s j)))))
      where
        go : (rows : List Row) → ((f : Row) (more : List Row) → rows ≡ f ∷ more → lt f x ≡ false)
            → InOrder lt rows → AllByRecursion (λ y. lt y x ≡ false) rows
        go [] l k = tt
        go (f ∷ more) l k =
            let o = rows-ordered keys in
            let fx = l f more refl in (
              fx,
              every-weaker (λ y. lt y f ≡ false) (λ y. lt y x ≡ false) (λ y b. o.chain y f x b fx)
                  more k.0,
            )

    -- none comes before those that are made and it
    all-behind : AreInputsSorted keys worked
        → AllByRecursion (λ y. IsBeforeNone keys y (made ++ x ∷ [])) (x ∷ head_rows left)
    all-behind s = every-permuted (λ y. IsBeforeNone keys y (made ++ x ∷ [])) (head_rows heads)
        (x ∷ head_rows left) one-out
        (every-both (λ y. IsBeforeNone keys y made) (λ y. lt y x ≡ false)
        (λ y. IsBeforeNone keys y (made ++ x ∷ []))
        (λ y b c. every-append (λ z. lt y z ≡ false) made (x ∷ []) b (c, tt)) (head_rows heads)
        (h.before_held s) (behind s))

    -- an input that hasn't ended holds back those that are made and it
    holds : (j : ℕ) → j < 32 → (f : Row) (more : List Row) → (head_at heads j).rows ≡ f ∷ more
        → HeldBack keys (head_at heads j) (chunk_rows (worked j)) (made ++ x ∷ [])
    holds j less f more is = go made refl
      where
        fx : lt f x ≡ false
        fx = least j less f more is

        f_worked : Contains (chunk_rows (worked j)) f
        f_worked =
            let a = h.heads_are j less in
            subst (λ l. Contains l f) (sym (a.is ∙ ap (λ l. a.front ++ l) is))
            (Contains-append_right a.front (f ∷ more) f (0, omega arith, refl))

        go : (rows : List Row) → rows ≡ made
            → HeldBack keys (head_at heads j) (chunk_rows (worked j)) (rows ++ x ∷ [])
        go [] e = inr (f, f_worked, (fx, tt))
        go (r ∷ rows) e = elim (h.held_back (let l = ap length e in omega (arith, l)) j less) [
          | inl ended ↦ inl ended
          | inr w ↦ by-last (lt w.0 x) w.0 refl w.1 (subst (IsBeforeNone keys w.0) (sym e) w.2)
        ]
          where
            by-last : (b : Bool) (l : Row) → lt l x ≡ b → Contains (chunk_rows (worked j)) l
                → IsBeforeNone keys l (r ∷ rows)
                → HeldBack keys (head_at heads j) (chunk_rows (worked j)) ((r ∷ rows) ++ x ∷ [])
            by-last false l q c k = inr (
              l,
              c,
              every-append (λ z. lt l z ≡ false) (r ∷ rows)
                  (x ∷ []) k (q, tt),
            )
            by-last true l q c k =
                let o = rows-ordered keys in
                let fl = o.chain f x l fx (o.one_way l x q) in
                inr (
                  f,
                  f_worked,
                  every-append (λ z. lt f z ≡ false) (r ∷ rows) (x ∷ [])
                      (every-weaker (λ z. lt l z ≡ false) (λ z. lt f z ≡ false)
                      (λ z n. o.chain f l z fl n) (r ∷ rows) k) (fx, tt),
                )

    pub merged-made : AreMerged keys left worked (made ++ x ∷ [])
    merged-made = record {
      same_rows = IsPermutation-trans _ _ _ h.same_rows
          (subst (IsPermutation (made ++ head_rows heads))
          (sym (append_assoc made (x ∷ []) (head_rows left)))
          (IsPermutation-append_right made _ _ one-out));
      heads_are = set-each heads i behind-it no_input_head
          (λ j n. j < 32 → AreLast n.rows (chunk_rows (worked j))) there-i
          (λ less. let a = h.heads_are i within in record {
            front = a.front ++ x ∷ [];
            is = a.is ∙ ap (λ (n : InputHead). a.front ++ n.rows) first
                ∙ sym (append_assoc a.front (x ∷ []) rest);
          })
          (λ j ne. h.heads_are j);
      in_order = λ s.
          let o = rows-ordered keys in
          let b = every-permuted (λ y. IsBeforeNone keys y made) (head_rows heads)
          (x ∷ head_rows left) one-out (h.before_held s) in
          sorted-from_order lt o (made ++ x ∷ [])
          (order-joined lt o made (x ∷ []) (order-from_sorted lt o made (h.in_order s)) (tt, tt)
          (b.0, tt));
      before_held = λ s. (all-behind s).1;
      held_back = λ some j less.
          subst (λ b. HeldBack keys (record { rows = []; ended = b }) (chunk_rows (worked j))
          (made ++ x ∷ [])) (sym (same-end j))
          (by-head j less (head_at heads j).rows (head_at heads j).ended refl refl (ready j less));
    }
      where
        same-end : (j : ℕ) → (head_at left j).ended ≡ (head_at heads j).ended
        same-end = set-each heads i behind-it no_input_head
            (λ j n. n.ended ≡ (head_at heads j).ended)
            there-i (sym (ap (λ (n : InputHead). n.ended) first)) (λ j ne. refl)

        by-head : (j : ℕ) → j < 32 → (rows : List Row) (b : Bool) → (head_at heads j).rows ≡ rows
            → (head_at heads j).ended ≡ b → (b || nat_lt 0 (length rows)) ≡ true
            → HeldBack keys (head_at heads j) (chunk_rows (worked j)) (made ++ x ∷ [])
        by-head j less (f ∷ more) b is end r = holds j less f more is
        by-head j less [] true is end r = inl end
        by-head j less [] false is end r = absurd (cc)

  -- ---- a run of first rows is made

  -- no row that is held of another input than i comes before x
  abbrev pub IsLeastBut : ℕ → List InputHead → Row → Type 0
  IsLeastBut i heads x = (j : ℕ) → j < 32 → j ≢ i → (f : Row) (rest : List Row)
      → (head_at heads j).rows ≡ f ∷ rest → lt f x ≡ false

  abbrev pub AreReadyBut : ℕ → List InputHead → Type 0
  AreReadyBut i heads = (j : ℕ) → j < 32 → j ≢ i → is_ready_head (head_at heads j) ≡ true

  not-before-itself : (x : Row) → lt x x ≡ false
  not-before-itself x = by (lt x x) refl
    where
      by : (b : Bool) → lt x x ≡ b → lt x x ≡ false
      by false e = e
      by true e = let o = rows-ordered keys in o.one_way x x e

  module _ (worked : Lists) (i : ℕ) (rest : List Row) (e : Bool) (within : i < 32) where
    abbrev holding : List Row → InputHead
    holding rows = record { rows = rows; ended = e }

    pub merged-run : (run : List Row) (heads : List InputHead) (made : List Row)
        → length heads ≡ 32 → head_at heads i ≡ holding (run ++ rest)
        → AllByRecursion (IsLeastBut i heads) run → AreReadyBut i heads
        → AreMerged keys heads worked made
        → AreMerged keys (set heads i (holding rest)) worked (made ++ run)
    merged-run [] heads made count is least ready h =
        subst (AreMerged keys (set heads i (holding rest)) worked) (sym (append-nil made))
        (subst (λ l. AreMerged keys l worked made)
        (sym (subst (λ n. set heads i n ≡ heads) is (set-get_or heads i no_input_head))) h)
    merged-run (x ∷ run) heads made count is least ready h =
        subst (AreMerged keys (set heads i (holding rest)) worked) (append_assoc made (x ∷ []) run)
        (subst (λ l. AreMerged keys l worked ((made ++ x ∷ []) ++ run))
        (set-set heads i (holding (run ++ rest)) (holding rest))
        (merged-run run (set heads i (holding (run ++ rest))) (made ++ x ∷ [])
        (length-set heads i (holding (run ++ rest)) ∙ count)
        (get_or-set_same heads i (holding (run ++ rest)) no_input_head
        (omega (arith, within, count)))
        (every-weaker (IsLeastBut i heads) (IsLeastBut i (set heads i (holding (run ++ rest))))
        (λ y b j less ne f more z. b j less ne f more (ap (λ (n : InputHead). n.rows)
        (sym (other j ne)) ∙ z)) run least.1)
        (λ j less ne. ap is_ready_head (other j ne) ∙ ready j less ne)
        (merged-made heads worked made i x (run ++ rest) e count within is
        (λ j less f more z. elim (cases_eq j i) [
          | inr ne ↦ least.0 j less ne f more z
          | inl same ↦ subst (λ y. lt y x ≡ false)
              (ap (λ l. get_or l 0 x) (sym (ap (λ (n : InputHead). n.rows) is)
              ∙ ap (λ m. (head_at heads m).rows) (sym same) ∙ z)) (not-before-itself x)
        ])
        (λ j less. elim (cases_eq j i) [
          | inr ne ↦ ready j less ne
          | inl same ↦ subst (λ m. is_ready_head (head_at heads m) ≡ true) (sym same)
              (subst (λ n. is_ready_head n ≡ true) (sym is)
              (or_right e (nat_lt 0 (length (x ∷ (run ++ rest)))) (lt-ltb 0 _ (omega arith))))
        ]) h)))
      where
        other : (j : ℕ) → j ≢ i
            → head_at (set heads i (holding (run ++ rest))) j ≡ head_at heads j
        other j ne = get_or-set_other heads i j (holding (run ++ rest)) no_input_head ne
