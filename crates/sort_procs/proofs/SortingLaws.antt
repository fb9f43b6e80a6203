-- A sort gathers the rows of its chunks, and then makes them in order.
use Rattle.sort_procs.proofs.Imports.{AgreeOnKey, All, All-drop, AllByRecursion, AreKeysWithin, AreSorted, HasRanks, IsPermutation-append_right, IsPermutation-map, IsPermutation-sym, IsPermutation-trans, IsSortOf, IsTable, Makes, Offer, OfferComes, Offers, OwnState, Picture, PutsFront, PutsInOrder, PutsMore, Ranked, Row, SortKey, SortSpec, Table, WantsMore, any_order, append-nil, chunk_rows, count_up, drop-append_seam, drop-drop, every-permuted, every-turned, idle_own, in_count, input_at, is_in_finished, is_lt, length-append, length-drop, length-map, length-take, length_permutation, lt-ltb, ltb-true, map-append, or_right, order-cross, order-from_sorted, order-front, order-joined, ordered, ordered-order, ordered-same, ranked_place, row_at, row_cmp, rows-ordered, rows_at, rows_left, sorted-from_order, sorting_own, take-add, take-append-drop}
use Rattle.std.proofs.Common.{Bool, IsPermutation, IsSorted, IsTrue, List, Option, Some, [], ap, append_assoc, arith, drop, false, inl, inr, length, map, max, min, nat_lt, refl, subst, sym, take, true, ℕ, ◌++◌, ◌+◌, ◌-◌, ◌<◌, ◌≤◌, ◌||◌, ◌↔◌, ◌∙◌, ◌∷◌, ◌≡◌, ◌⊎◌}
use Rattle.sort_procs.proofs.RankLaws.{front-sorted, rows-same}
use Rattle.query_model.specs.declared.processor_spec.Spec.TheVariants as spec

nothing-of : (rows : List Row) → (0 < length rows → ⊥) → rows ≡ []
nothing-of [] h = refl
nothing-of (row ∷ rows) h = absurd (h (omega arith))

module _ (order : SortSpec) where
  abbrev keys : List SortKey
  keys = order.keys

  abbrev lt : Row → Row → Bool
  lt a b = is_lt (row_cmp keys a b)

  -- rows in order of which the last are changed for the same in order
  put-behind : (rows made a b : List Row) → IsSortOf keys rows (made ++ a) → IsPermutation a b
      → IsSorted (row_cmp keys) b → IsSortOf keys rows (made ++ b)
  put-behind rows made a b h same sorted =
      let o = rows-ordered keys in
      let whole = order-from_sorted lt o (made ++ a) h.in_order in
      record {
        same = IsPermutation-trans _ _ _ h.same (IsPermutation-append_right made a b same);
        in_order = sorted-from_order lt o (made ++ b)
            (order-joined lt o made b (order-front lt o made a whole)
            (order-from_sorted lt o b sorted)
            (every-permuted (λ y. AllByRecursion (λ x. lt y x ≡ false) made) a b same
            (every-turned (λ x y. lt y x ≡ false) made a (order-cross lt o made a whole))));
      }

  module _ (places : List Ranked) (next front : ℕ) (rows : Table) where
    abbrev own : Bool → Bool → OwnState
    own ended sorted = sorting_own keys ended sorted places next front rows

    -- the end is noted, where the input is finished
    goes-on : (was fin sorted : Bool) → (sorted ≡ true → was ≡ true) → (all made : List Row)
        → AreSorted keys (own was sorted) all made → AreSorted keys (own (was || fin) sorted) all
        made
    goes-on true fin sorted e all made h = h
    goes-on false false sorted e all made h = h
    goes-on false true true e all made h = absurd (let f = e refl in cc)
    goes-on false true false e all made h =
        let g = h.gathered refl in
        let o = rows-ordered keys in
        record {
          gathered = λ f. absurd (cc);
          sorted = λ f. subst (λ m. IsSortOf keys all (m ++ ordered lt o rows.rows))
              (sym g.nothing_made) (record {
                same = subst (λ l. IsPermutation l (ordered lt o rows.rows))
                    (sym (append-nil rows.rows) ∙ g.rows_are) (ordered-same lt o rows.rows);
                in_order = sorted-from_order lt o (ordered lt o rows.rows)
                    (ordered-order lt o rows.rows);
              });
        }

    pub offers : (wants : ℕ → Bool) (v : Picture) (was fin now sorted : Bool) (f : Offer)
        → now ≡ was || fin → (sorted ≡ true → was ≡ true) → in_count v ≡ 1
        → fin ≡ is_in_finished (input_at v 0).flags
        → OfferComes wants f (spec.Sort order) v (own now sorted)
        → Offers wants (spec.Sort order) v (own was sorted) (own now sorted) f
    offers wants v was fin now sorted f z e one at comes = record {
      leaves = record {
        means = λ x worked outs wait h. subst (λ b. AreSorted keys (own b sorted)
            (chunk_rows (worked 0)) (chunk_rows (outs 0) ++ wait)) (sym z)
            (goes-on was fin sorted e (chunk_rows (worked 0)) (chunk_rows (outs 0) ++ wait) h);
        stays_over = λ none ended. subst (λ b. ((own b sorted).unmade ≡ []) × (b ≡ true)) (sym z)
            (stays was none ended);
      };
      comes = comes;
      ends = λ i lt n. noted was fin at (sym z ∙ n) (omega (arith, one, lt));
    }
      where
        stays : (b : Bool) → (own b sorted).unmade ≡ [] → b ≡ true
            → ((own (b || fin) sorted).unmade ≡ []) × ((b || fin) ≡ true)
        stays true none ended = (none, refl)
        stays false none ended = absurd (cc)

        noted : (b c : Bool) → c ≡ is_in_finished (input_at v 0).flags → (b || c) ≡ true → {i : ℕ}
            → i ≡ 0 → (b ≡ true) ⊎ (is_in_finished (input_at v i).flags ≡ true)
        noted true c h n z = inl refl
        noted false c h n z = inr (subst (λ j. is_in_finished (input_at v j).flags ≡ true) (sym z)
            (sym h ∙ n))

    pub wants-come : (wants : ℕ → Bool) (v : Picture) (was fin now sorted : Bool) → now ≡ was || fin
        → wants 0 ≡ true → in_count v ≡ 1 → fin ≡ is_in_finished (input_at v 0).flags
        → (own now sorted).unmade ≡ [] → WantsMore wants (spec.Sort order) v (own now sorted)
    wants-come wants v was fin now sorted z w one at none = record {
      nothing = none;
      wanting = tt;
      all_over = λ over i lt.
          let first : 0 ≡ i = omega (arith, one, lt) in
          subst (λ j. is_in_finished (input_at v j).flags ≡ true) first
          (over 0 (omega (arith, one)) w);
      noted = λ over. z ∙ or_right was fin (at ∙ over 0 (omega (arith, one)) w);
    }

    -- rows are left, before there are places
    pub has_left : (ranked : Bool) (n : ℕ) → ranked ≡ false → n ≡ length rows.rows
        → IsTrue (nat_lt 0 n)
        ↔ (0 < length (rows_left keys ranked places next front rows.rows))
    has_left true n e count = absurd (cc)
    has_left false n e count =
        let l = length_permutation _ _ (ordered-same lt (rows-ordered keys) rows.rows) in (
          λ t. omega (arith, ltb-true 0 n t, count, l),
          λ some. lt-ltb 0 n (omega (arith, some, count, l)),
        )

    left-length : next ≤ front → front ≤ length places
        → length (rows_left keys true places next front rows.rows) ≡ length places - next
    left-length some few =
        let whole = length-append
        (rows_at rows.rows (take (front - next) (drop next places)))
        (any_order keys (rows_at rows.rows (drop front places))) in
        let a = length-map (take (front - next) (drop next places))
        (λ (r : Ranked). row_at rows.rows r.place) in
        let b = length-take (front - next) (drop next places) in
        let c = length-drop next places in
        let d = length_permutation _ _
        (ordered-same lt (rows-ordered keys) (rows_at rows.rows (drop front places))) in
        let e = length-map (drop front places) (λ (r : Ranked). row_at rows.rows r.place) in
        let f = length-drop front places in
        omega (arith, whole, a, b, c, d, e, f, some, few)

    -- the same once there are places
    pub has_ranked : (ranked : Bool) (n : ℕ) → ranked ≡ true → n ≡ length places → next ≤ front
        → front ≤ length places
        → IsTrue (nat_lt next n)
        ↔ (0 < length (rows_left keys ranked places next front rows.rows))
    has_ranked false n e count some few = absurd (cc)
    has_ranked true n e count some few =
        let l = left-length some few in (
          λ t. omega (arith, ltb-true next n t, count, l),
          λ left. lt-ltb next n (omega (arith, left, count, l)),
        )

    -- where each place of the front was reached, and the front is all
    pub none-left : (ended ranked : Bool) → ranked ≡ true → next ≤ front → front ≤ length places
        → next ≡ front → front ≡ length places → (own ended ranked).unmade ≡ []
    none-left true true e some few reached all =
        let l = left-length some few in nothing-of _ (λ left. omega (arith, left, l, reached, all))
    none-left false ranked e some few reached all = refl
    none-left true false e some few reached all = absurd (cc)

    pub none-made : (ended sorted made : Bool)
        → IsTrue made ↔ (0 < length (own ended sorted).unmade) → made ≡ false
        → (own ended sorted).unmade ≡ []
    none-made ended sorted true h e = absurd (cc)
    none-made ended sorted false h e = nothing-of (own ended sorted).unmade
        (λ some. let f : false ≡ true = h.1 some in cc)

    pub makes-next : (count : ℕ) (c : Table) → count ≡ min (front - next) (max order.rows 1)
        → front ≤ length places → 0 < count → c.types ≡ order.types
        → c.rows ≡ rows_at rows.rows (take count (drop next places))
        → Makes (spec.Sort order) (own true true)
        (sorting_own keys true true places (next + count) front rows) (Some c)
    makes-next count c e few some types made = record {
      means = λ x worked outs h. record {
        gathered = λ f. absurd (cc);
        sorted = λ f. subst (IsSortOf keys (chunk_rows (worked 0)))
            (ap (λ l. l ++ left next) (append-nil (chunk_rows (outs 0)))
            ∙ ap (λ l. chunk_rows (outs 0) ++ l) split
            ∙ sym (append_assoc (chunk_rows (outs 0)) c.rows (left (next + count))))
            (h.sorted refl);
      };
      types = λ ins. types;
      sizes = omega (arith, size, e);
      progress = inl (omega (arith, size, some));
      nothing = λ n. absurd (let l = ap length n in omega (
        arith,
        l,
        ap length split,
        size,
        some,
        length-append c.rows (left (next + count)),
      ));
      ends = λ i n. refl;
    }
      where
        part : ℕ → List Ranked
        part n = take (front - n) (drop n places)

        behind : List Row
        behind = any_order keys (rows_at rows.rows (drop front places))

        left : ℕ → List Row
        left n = rows_at rows.rows (part n) ++ behind

        size : length c.rows ≡ count
        size = ap length made ∙ length-map (take count (drop next places))
            (λ (r : Ranked). row_at rows.rows r.place)
            ∙ length-take count (drop next places)
            ∙ (let l = length-drop next places in omega (arith, l, e, few))

        parts : part next ≡ take count (drop next places) ++ part (next + count)
        parts =
            let more : front - next ≡ count + (front - (next + count)) = omega (arith, e) in
            ap (λ n. take n (drop next places)) more
            ∙ take-add count (front - (next + count)) (drop next places)
            ∙ ap (λ l. take count (drop next places) ++ take (front - (next + count)) l)
            (drop-drop count next places)

        split : left next ≡ c.rows ++ left (next + count)
        split = ap (λ l. rows_at rows.rows l ++ behind) parts
            ∙ ap (λ l. l ++ behind) (map-append (λ (r : Ranked). row_at rows.rows r.place)
            (take count (drop next places)) (part (next + count)))
            ∙ ap (λ l. (l ++ rows_at rows.rows (part (next + count))) ++ behind) (sym made)
            ∙ append_assoc c.rows (rows_at rows.rows (part (next + count))) behind

  -- places that were found leave the rows in any order
  pub ranks_now : (ended ranked : Bool) (places old : List Ranked) (next front : ℕ) (rows : Table)
      → ranked ≡ false → map ranked_place places ≡ count_up (length rows.rows)
      → sorting_own keys ended true places 0 0 rows
      ≡ sorting_own keys ended ranked old next front rows
  ranks_now ended ranked places old next front rows e h = grind (arith, rows-same)

  -- rows that are left are put in order
  put-again : (a b : List Row) → IsPermutation a b → IsSorted (row_cmp keys) b
      → PutsInOrder keys (record idle_own { unmade = a; gathered = []; ended = true })
      (record idle_own { unmade = b; gathered = []; ended = true })
  put-again a b same sorted = record {
    means = λ all made k. record {
      gathered = λ f. absurd (cc);
      sorted = λ f. put-behind all made a b (k.sorted refl) same sorted;
    };
    same = λ none. ap (λ l. record idle_own { unmade = l; gathered = []; ended = true })
        (nothing-of b (λ some. let l = length_permutation _ _ same in
        let n = ap length none in omega (arith, l, n, some)) ∙ sym none);
    ended = refl;
  }

  -- the next front is put in order, where that before was made
  pub front-put : (ended : Bool) (old put new : List Ranked) (front count : ℕ) (rows : Table)
      → front ≤ length old → IsTable rows → All (AgreeOnKey rows.types rows.types) keys
      → All (HasRanks rows keys) old → PutsFront rows keys count (drop front old) put
      → new ≡ take front old ++ put
      → PutsInOrder keys (sorting_own keys ended true old front front rows)
      (sorting_own keys ended true new front (front + count) rows)
  front-put false old put new front count rows few fit agree ranked h e =
      record { means = λ all made k. k; same = λ none. refl; ended = refl }
  front-put true old put new front count rows few fit agree ranked h e =
      subst (λ l. PutsInOrder keys (record idle_own { unmade = l; gathered = []; ended = true })
      (sorting_own keys true true new front (front + count) rows)) (sym was)
      (subst (λ l. PutsInOrder keys
      (record idle_own { unmade = any_order keys rest; gathered = []; ended = true })
      (record idle_own { unmade = l; gathered = []; ended = true })) (sym now)
      (put-again (any_order keys rest) sorted
      (IsPermutation-trans _ _ _ (IsPermutation-sym _ _ (same rest))
      (IsPermutation-trans _ _ _ moved
      (IsPermutation-append_right (rows_at rows.rows (take count put)) behind
      (any_order keys behind) (same behind))))
      (front-sorted rows keys count (drop front old) put fit agree
      (All-drop (HasRanks rows keys) front old ranked) h)))
    where
      rest : List Row
      rest = rows_at rows.rows (drop front old)

      behind : List Row
      behind = rows_at rows.rows (drop count put)

      sorted : List Row
      sorted = rows_at rows.rows (take count put) ++ any_order keys behind

      same : (l : List Row) → IsPermutation l (any_order keys l)
      same l = ordered-same lt (rows-ordered keys) l

      moved : IsPermutation rest (rows_at rows.rows (take count put) ++ behind)
      moved = subst (IsPermutation rest)
          (ap (rows_at rows.rows) (sym (take-append-drop count put))
          ∙ map-append (λ (r : Ranked). row_at rows.rows r.place) (take count put) (drop count put))
          (IsPermutation-map (λ (r : Ranked). row_at rows.rows r.place) (drop front old) put h.same)

      was : rows_left keys true old front front rows.rows ≡ any_order keys rest
      was = grind (arith, rest)

      back : drop front new ≡ put
      back = grind (arith, length-take front old, drop-append_seam (take front old) put)

      now : rows_left keys true new front (front + count) rows.rows ≡ sorted
      now = grind (arith, drop-drop, back)

  -- the same of the sort that it is asked of
  pub extended : (ended ranked : Bool) (old new : List Ranked) (next front count : ℕ)
      (rows : Table) → ranked ≡ true → front ≤ next → next ≤ front
      → front ≤ length old → IsTable rows → All (AgreeOnKey rows.types rows.types) keys
      → All (HasRanks rows keys) old → PutsMore rows keys front count old new
      → PutsInOrder keys (sorting_own keys ended ranked old next front rows)
      (sorting_own keys ended ranked new next (front + count) rows)
  extended ended true old new next front count rows e reached le few fit agree ranked h =
      let same : front ≡ next = omega (arith, le, reached) in
      subst (λ n. PutsInOrder keys (sorting_own keys ended true old n front rows)
      (sorting_own keys ended true new n (front + count) rows)) same
      (front-put ended old (drop front new) new front count rows few fit agree ranked h.puts
      (sym (take-append-drop front new) ∙ ap (λ l. l ++ drop front new) h.kept))
  extended ended false old new next front count rows e reached le few fit agree ranked h =
      absurd (cc)

  -- the keys' columns are there where there are rows
  pub agree : (ended sorted : Bool) (places : List Ranked) (next front : ℕ) (rows : Table)
      → rows.types ≡ order.types → (0 < length rows.rows → AreKeysWithin order) → sorted ≡ false
      → 0 < length (sorting_own keys ended sorted places next front rows).unmade
      → All (AgreeOnKey rows.types rows.types) keys
  agree ended sorted places next front rows typed keyed e some =
      grind (arith, length_permutation, ordered-same, rows-ordered)

  pub makes-chunk : (ended ranked : Bool) (places : List Ranked) (next front count : ℕ)
      (rows c : Table) → ranked ≡ true → (ranked ≡ true → ended ≡ true)
      → count ≡ min (front - next) (max order.rows 1) → front ≤ length places → 0 < count
      → c.types ≡ order.types → c.rows ≡ rows_at rows.rows (take count (drop next places))
      → Makes (spec.Sort order) (sorting_own keys ended ranked places next front rows)
      (sorting_own keys ended ranked places (next + count) front rows) (Some c)
  makes-chunk true true places next front count rows c e f =
      makes-next places next front rows count c
  makes-chunk ended ranked places next front count rows c e f = grind arith

  pub makes-after : (a b c : OwnState) (t : Option Table) → PutsInOrder keys a b
      → Makes (spec.Sort order) b c t → Makes (spec.Sort order) a c t
  makes-after a b c t p m = record {
    means = λ x worked outs h. m.means x worked outs
        (p.means (chunk_rows (worked 0)) (chunk_rows (outs 0) ++ []) h);
    types = m.types;
    sizes = m.sizes;
    progress = m.progress;
    nothing = grind arith;
    ends = λ i n. sym p.ended ∙ m.ends i n;
  }
