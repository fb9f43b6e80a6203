-- The clauses of a merge's kernel.
use Rattle.std.proofs.lemmas.Grind.{common_steps}
use Rattle.std.proofs.Common.{◌≡◌, Bool, Option, ℕ, suc, ◌+◌, ◌<◌, ◌≤◌, ◌&&◌, not, true, false, List, [], ◌∷◌, ◌++◌, length, take, drop, get_or, set, append_assoc, Some, None, refl, sym, ap, ap₂, subst, ◌∙◌, arith, inl, inr}
use Rattle.sort_procs.proofs.Imports.{AreBlank, AreMerged, Begins, FitsOrder, Head, InputHead, AreRanked, AreUsedFrom, IsFirstHead, IsFirstBut, IsMoved, length-take, IsRanked, IsRowRun, AllByRecursion, IsBeforeNone, every-weaker, drop-drop, take-append-drop, next_rows, row_at, rows-ordered, get_or-set_other, Leaves, Makes, Merges, MergesSome, NotesEnds, Offer, OfferComes, Offers, Picture, Ranked, Row, SortKey, SortSpec, Table, Takes, WantsMore, and_parts, append-nil, at, cases_lt, chunk_rows, cond_both, drop-cons, drop_all, first_row, get_or-set_same, head_at, head_of, head_rows, heads_of, in_count, is_lt, is_open_at, is_ready, is_ready_head, is_used, le-leb, le-ltb, leb-false, leb-true, length-append, length-drop, length-map, length-set, list_all, list_all-map, lt-leb, lt-ltb, map-set, merging_own, no_head, not-true, or_left, row_cmp, with_chunk, written_back}
use Rattle.query_model.specs.declared.processor_spec.Spec.TheVariants as spec
use Rattle.sort_procs.proofs.HeadLaws.{all-pass, each-passes, head-at, read-at}
use Rattle.sort_procs.proofs.MergingLaws.{IsLeastBut, merged-none, merged-noted, merged-run, merged-taken, same-heads, set-each}

-- ---- heads, used and ready

used-none : (h : Head) → is_used h ≡ true → (head_of h).rows ≡ []
used-none h e = drop_all h.place h.chunk.rows (leb-true (length h.chunk.rows) h.place e)

none-used : (h : Head) → (head_of h).rows ≡ [] → is_used h ≡ true
none-used h e = grind (arith, le-leb, length-drop h.place h.chunk.rows)

ready-same : (h : Head) → is_ready_head (head_of h) ≡ is_ready h
ready-same h = grind (arith, cases_lt, lt-ltb, length-drop, lt-leb, le-ltb, le-leb)

none-held : (heads : List Head) → ((i : ℕ) → i < length heads → (head_of (at heads i)).rows ≡ [])
    → head_rows (heads_of heads) ≡ []
none-held [] f = refl
none-held (h ∷ heads) f = ap₂ (λ a b. a ++ b) (f 0 (omega arith))
    (none-held heads (λ i lt. f (suc i) (omega (arith, lt))))

all-used : (heads : List Head) → list_all is_used heads ≡ true → head_rows (heads_of heads) ≡ []
all-used heads h = grind (arith, none-held, used-none, each-passes)

some-left : (heads : List Head) → list_all is_used heads ≡ false
    → 0 < length (head_rows (heads_of heads))
some-left [] e = absurd (cc)
some-left (h ∷ heads) e =
    let all = length-append (head_of h).rows (head_rows (heads_of heads)) in
    elim (cases_lt h.place (length h.chunk.rows)) [
      | inl less ↦ omega (arith, less, length-drop h.place h.chunk.rows, all)
      | inr le ↦
          let rest = some-left heads (sym (ap (λ b. b && list_all is_used heads)
          (le-leb (length h.chunk.rows) h.place le)) ∙ e) in
          omega (arith, rest, all)
    ]

-- rows can be made where all are ready and some are left
pub rows-ready : (heads : List Head)
    → (list_all is_ready heads && not (list_all is_used heads)) ≡ true
    → 0 < length (merging_own heads).unmade
rows-ready heads e = grind (arith, and_parts, some-left, not-true, list_all-map, ready-same)

pub none-ready : (heads : List Head)
    → (list_all is_ready heads && not (list_all is_used heads)) ≡ false
    → (merging_own heads).unmade ≡ []
none-ready heads e = grind (arith, all-used, list_all-map, ready-same)

-- ---- it begins

pub blank-fits : (order : SortSpec) (heads : List Head) → AreBlank 32 heads → AreRanked order heads
blank-fits order heads b = grind (arith, none-used)

pub begins : (order : SortSpec) (heads : List Head) → AreBlank 32 heads
    → Begins (spec.MergeSorted order) (spec.MergeSorted order) (merging_own heads)
begins order heads b = record {
  spec = refl;
  nothing = λ files. (
    refl,
    merged-none order.keys (heads_of heads)
        (none-held heads (λ i lt. ap (λ (h : InputHead). h.rows) (b.each i)))
        (λ i. ap (λ (h : InputHead). h.rows) (head-at heads i ∙ b.each i)),
  );
  unended = grind (arith, head-at);
}

-- ---- ends are noted

-- what is left in a Vec of which a slice was passed
pub slice_written_back : (v : Picture) (old given new : List Head) (len : ℕ) → length old ≡ 32
    → given ≡ old → length given ≡ len → NotesEnds v (length given) given new
    → (take len (new ++ drop (length new) old) ≡ new) × NotesEnds v 32 old new
slice_written_back v old given new len count same e h = grind (arith, written_back)

module _ (order : SortSpec) (v : Picture) (old new : List Head) (h : NotesEnds v 32 old new)
    (count : length old ≡ 32) where
  rows-same : (j : ℕ) → (head_at (heads_of new) j).rows ≡ (head_at (heads_of old) j).rows
  rows-same j = grind (arith, head-at, cases_lt)

  leaves : Leaves (spec.MergeSorted order) (merging_own old) (merging_own new)
  leaves =
      grind (arith, merged-noted, rows-same, or_left, same-heads, cond_both, head-at, length-map)

  pub offers : (f : Offer) → in_count v ≤ 32
      → OfferComes (is_open_at new) f (spec.MergeSorted order) v (merging_own new)
      → Offers (is_open_at new) (spec.MergeSorted order) v (merging_own old) (merging_own new) f
  offers f few comes = grind (arith, leaves, lt-leb, head-at)

  pub wants-come : in_count v ≤ 32
      → (list_all is_ready new && not (list_all is_used new)) ≡ false
      → WantsMore (is_open_at new) (spec.MergeSorted order) v (merging_own new)
  wants-come few e =
      grind (arith, none-ready, each-passes, all-used, cases_lt, le-leb, all-pass)

-- ---- one head is put in the place of another

-- where it has the same end, so have all
set-ends : (heads : List Head) (i : ℕ) (new : Head) → i < length heads
    → new.ended ≡ (at heads i).ended → (j : ℕ) → (at (set heads i new) j).ended ≡ (at heads j).ended
set-ends heads i new lt e = grind (arith, common_steps, set-each)

-- ---- a chunk is taken

module _ (order : SortSpec) (heads : List Head) (i : ℕ) (t : Table) (ranks : List Ranked)
    (are : AreRanked order heads) (lt : i < 32) where
  abbrev new : Head
  new = record { chunk = t; ranks = ranks; place = 0; ended = false }

  here : i < length heads
  here = let c = are.count in omega (arith, lt, c)

  pub takes : FitsOrder order t.types → is_used (at heads i) ≡ true → (at heads i).ended ≡ false
      → Takes (spec.MergeSorted order) (merging_own heads) i t (merging_own (set heads i new)) None
  takes fit used open' = record {
    means = λ x fits worked outs h. (
      refl,
      subst (λ l. AreMerged order.keys l (with_chunk i t worked) (chunk_rows (outs 0) ++ []))
          (sym (map-set head_of heads i new))
          (merged-taken order.keys (heads_of heads) worked (chunk_rows (outs 0) ++ []) i t
          (length-map heads head_of ∙ are.count) lt
          (head-at heads i ∙ ap₂ (λ r b. record { rows = r; ended = b })
          (used-none (at heads i) used) open') h.1),
    );
    fits = inl fit;
    types = λ ins pulled. tt;
    sizes = tt;
    ends = grind (arith, head-at, set-ends, here);
  }

-- ---- rows are made

pub none-merged : (keys : List SortKey) (heads : List Head) (rows : List Row) → rows ≡ []
    → Merges keys heads heads rows
none-merged keys heads rows none = record {
  ends = λ i. refl;
  means = λ worked made m. subst (AreMerged keys (heads_of heads) worked)
      (sym (append-nil made) ∙ ap (λ l. made ++ l) (sym none)) m;
}

every-one : {X : Type 0} (P : X → Type 0) → ((x : X) → P x) → (xs : List X)
    → AllByRecursion P xs
every-one P f [] = tt
every-one P f (x ∷ xs) = (f x, every-one P f xs)

-- the run of head i that goes before the first of the others was made
module _ {order : SortSpec} {old now : List Head} {i n count room : ℕ} {made : List Row}
    {second : Option ℕ} {next : Head} (h : Merges order.keys old now made)
    (are : AreRanked order now) (ready : list_all is_ready now ≡ true)
    (used : AreUsedFrom now count) (below : i < count) (few : count ≤ length now)
    (others : IsFirstBut order.keys now i count second)
    (run : IsRowRun order.keys now (at now i) second room n)
    (moved : IsMoved n (at now i) next)
  where
    abbrev later : List Head
    later = set now i next

    abbrev keys : List SortKey
    keys = order.keys

    in-range : i < length now
    in-range = omega (arith, below, few)

    -- the row behind the run is next
    abbrev stop : Row
    stop = row_at (at now i).chunk.rows ((at now i).place + n)

    next-row : first_row next ≡ stop
    next-row = ap₂ (λ (t : Table) k. row_at t.rows k) moved.chunk moved.place

    next-free : is_used next ≡ false → (at now i).place + n < length (at now i).chunk.rows
    next-free e = subst (λ (t : Table). (at now i).place + n < length t.rows) moved.chunk
        (subst (λ k. k < length next.chunk.rows) moved.place
        (leb-false (length next.chunk.rows) next.place e))

    -- no first row of another head comes before one that the first of them doesn't come before
    abbrev NotBehind : Option ℕ → Row → Type 0
    NotBehind None x = Unit {0}
    NotBehind (Some k) x = is_lt (row_cmp keys (first_row (at now k)) x) ≡ false

    none-first : (o : Option ℕ) → IsFirstBut keys now i count o → (x : Row) → NotBehind o x
        → IsLeastBut keys i (heads_of now) x
    none-first o s x b j lt ne f rest is = by o s b
      where
        held : (head_of (at now j)).rows ≡ f ∷ rest
        held = ap (λ (g : InputHead). g.rows) (sym (head-at now j)) ∙ is

        unused : (c : Bool) → is_used (at now j) ≡ c → is_used (at now j) ≡ false
        unused false e = e
        unused true e = absurd (let l = ap length (sym (used-none (at now j) e) ∙ held) in
            omega (arith, l))

        free : is_used (at now j) ≡ false
        free = unused (is_used (at now j)) refl

        first-is : first_row (at now j) ≡ f
        first-is = ap (λ l. get_or l 0 f) (sym (drop-cons (at now j).chunk.rows (at now j).place []
            (leb-false (length (at now j).chunk.rows) (at now j).place free)) ∙ held)

        within : j < count
        within = elim (cases_lt j count) [
          | inl less ↦ less
          | inr le ↦ absurd (let c : false ≡ true = sym free ∙ used j le in cc)
        ]

        by : (p : Option ℕ) → IsFirstBut keys now i count p → NotBehind p x
            → is_lt (row_cmp keys f x) ≡ false
        by None t b = absurd (let c : false ≡ true = sym free ∙ t j within ne in cc)
        by (Some k) t b = let o = rows-ordered keys in
            o.chain f (first_row (at now k)) x
            (subst (λ g. is_lt (row_cmp keys g (first_row (at now k))) ≡ false) first-is
            (t.least j within ne free)) b

    run-first-of : (o : Option ℕ) → IsFirstBut keys now i count o → (rows : List Row)
        → ((k : ℕ) → o ≡ Some k → IsBeforeNone keys (first_row (at now k)) rows)
        → AllByRecursion (IsLeastBut keys i (heads_of now)) rows
    run-first-of None s rows b =
        every-one (IsLeastBut keys i (heads_of now)) (λ x. none-first None s x tt) rows
    run-first-of (Some k) s rows b =
        every-weaker (NotBehind (Some k)) (IsLeastBut keys i (heads_of now))
        (λ x c. none-first (Some k) s x c) rows (b k refl)

    pub run-rows : Merges keys old later (made ++ next_rows (at now i) n)
    run-rows = record {
      ends = λ j. set-ends now i next in-range moved.ended j ∙ h.ends j;
      means = λ worked done m.
          subst (AreMerged keys (heads_of later) worked)
          (append_assoc done made (next_rows (at now i) n))
          (subst (λ l. AreMerged keys l worked ((done ++ made) ++ next_rows (at now i) n))
          (sym (map-set head_of now i next))
          (merged-run keys worked i (head_of next).rows next.ended
          (let c = are.count in omega (arith, c, in-range)) (next_rows (at now i) n) (heads_of now)
          (done ++ made) (length-map now head_of ∙ are.count)
          (head-at now i ∙ ap₂ (λ r b. record { rows = r; ended = b }) split (sym moved.ended))
          (run-first-of second others (next_rows (at now i) n) run.before)
          (λ j lt ne. grind (arith, head-at, ready-same, each-passes, are.count))
          (h.means worked done m)));
    }
      where
        split : (head_of (at now i)).rows ≡ next_rows (at now i) n ++ (head_of next).rows
        split = sym (take-append-drop n (drop (at now i).place (at now i).chunk.rows))
            ∙ ap (λ l. next_rows (at now i) n ++ l)
            (drop-drop n (at now i).place (at now i).chunk.rows
            ∙ sym (ap₂ (λ k (t : Table). drop k t.rows) moved.place moved.chunk))

    pub run-fits : AreRanked order later
    run-fits = record {
      count = length-set now i next ∙ are.count;
      ranked = set-each now i next no_head (λ j g. is_used g ≡ false → IsRanked order g) in-range
          (λ free. still-ranked (are.ranked i (lt-leb (length (at now i).chunk.rows)
          (at now i).place (let l = next-free free in omega (arith, l)))))
          (λ j ne. are.ranked j);
    }
      where
        still-ranked : IsRanked order (at now i) → IsRanked order next
        still-ranked r = record {
          fits = rw moved.chunk r.fits;
          table = rw moved.chunk r.table;
          places = rw (moved.ranks, moved.chunk) r.places;
          ranks = rw (moved.ranks, moved.chunk) r.ranks;
        }

    pub run-used : AreUsedFrom later count
    run-used = set-each now i next no_head (λ j g. count ≤ j → is_used g ≡ true) in-range
        (λ le. absurd (omega (arith, le, below))) (λ j ne. used j)

    -- the first of the others is first of all, where the run ends before the room does
    pub run-second : n < room → IsFirstBut keys later count count second
    run-second more = by second others run.ends
      where
        by : (o : Option ℕ) → IsFirstBut keys now i count o
            → (n < room → (at now i).place + n < length (at now i).chunk.rows
            → (k : ℕ) × (o ≡ Some k) × (is_lt (row_cmp keys stop (first_row (at now k))) ≡ false))
            → IsFirstBut keys later count count o
        by None s ends = λ j less ne. set-each now i next no_head
            (λ j g. j < count → is_used g ≡ true) in-range (λ lt. over (is_used next) refl)
            (λ j ne lt. s j lt ne) j less
          where
            over : (b : Bool) → is_used next ≡ b → is_used next ≡ true
            over true e = e
            over false e = absurd (let w = ends more (next-free e) in cc)
        by (Some k) s ends = record {
          below = s.below;
          other = λ z. let l = s.below in omega (arith, l, z);
          unused = ap is_used same ∙ s.unused;
          least = λ j less ne free. subst (λ g. is_lt (row_cmp keys (first_row (at later j))
              (first_row g)) ≡ false) (sym same)
              (set-each now i next no_head (λ j g. j < count → is_used g ≡ false
              → is_lt (row_cmp keys (first_row g) (first_row (at now k))) ≡ false) in-range
              (λ lt unused. not-first unused)
              (λ j ne lt unused. s.least j lt ne unused) j less free);
        }
          where
            same : at later k ≡ at now k
            same = get_or-set_other now i k next no_head s.other

            by-name : (m : ℕ) → Some k ≡ Some m
                → is_lt (row_cmp keys stop (first_row (at now m))) ≡ false
                → is_lt (row_cmp keys stop (first_row (at now k))) ≡ false
            by-name m z e = grind arith

            not-first : is_used next ≡ false
                → is_lt (row_cmp keys (first_row next) (first_row (at now k))) ≡ false
            not-first unused =
                let w = ends more (next-free unused) in
                subst (λ r. is_lt (row_cmp keys r (first_row (at now k))) ≡ false) (sym next-row)
                (by-name w.0 w.1 w.2)

-- what holds of the heads once a run was made
pub record IsRunMade (order : SortSpec) (old later : List Head) (count n room : ℕ)
    (second : Option ℕ) (before rows : List Row) : Type 0 where
  pub fits : AreRanked order later
  pub merges : Merges order.keys old later rows
  pub used : AreUsedFrom later count
  pub first : n < room → IsFirstBut order.keys later count count second
  pub within : count ≤ length later
  pub some : 0 < n
  pub few : n ≤ room
  pub long : length rows ≡ length before + n

-- the same by what was read of the head
pub run-made : {order : SortSpec} {old now : List Head} {i n count room : ℕ}
    {made rows : List Row} {second : Option ℕ} {u x next : Head} → Merges order.keys old now made
    → AreRanked order now → list_all is_ready now ≡ true → AreUsedFrom now count
    → count ≤ length now
    → IsFirstHead order.keys now count count i → IsFirstBut order.keys now i count second
    → IsRowRun order.keys now (at now i) second room n → u ≡ get_or now i u → x ≡ get_or now i x
    → rows ≡ made ++ next_rows (get_or now i u) n → IsMoved n (get_or now i x) next
    → IsRunMade order old (set now i next) count n room second made rows
run-made {order} {old} {now} {i} {n} {count} {room} {made} {rows} {second} {u} {x} {next} h are
    ready
    used few first others run in-u in-x e moved =
    record {
      fits = run-fits h are ready used first.below few others run is-moved;
      merges = subst (Merges order.keys old (set now i next)) (sym is)
          (run-rows h are ready used first.below few others run is-moved);
      used = run-used h are ready used first.below few others run is-moved;
      first = run-second h are ready used first.below few others run is-moved;
      within = let l = length-set now i next in omega (arith, l, few);
      some = run.some;
      few = run.few;
      long =
          let a = ap length is in
          let b = length-append made (next_rows (at now i) n) in
          let c = length-take n (drop (at now i).place (at now i).chunk.rows) in
          let d = length-drop (at now i).place (at now i).chunk.rows in
          let w = run.within in
          omega (arith, a, b, c, d, w);
    }
  where
    here : i < length now
    here = let l = first.below in omega (arith, l, few)

    is : rows ≡ made ++ next_rows (at now i) n
    is = e ∙ ap (λ g. made ++ next_rows g n) (read-at now i u here in-u)

    is-moved : IsMoved n (at now i) next
    is-moved = subst (λ g. IsMoved n g next) (read-at now i x here in-x) moved

-- where the head that changed is ready still, all are
pub still-ready : (now : List Head) (i : ℕ) (next r : Head) → list_all is_ready now ≡ true
    → i < length now → r ≡ get_or (set now i next) i r
    → is_ready (get_or (set now i next) i r) ≡ true → list_all is_ready (set now i next) ≡ true
still-ready now i next r ready here is e = all-pass is_ready (set now i next)
    (set-each now i next no_head (λ j g. j < length (set now i next) → is_ready g ≡ true) here
    (λ lt. subst (λ g. is_ready g ≡ true) (get_or-set_same now i next r here) e)
    (λ j ne lt. each-passes is_ready now ready j
    (let l = length-set now i next in omega (arith, lt, l))))

-- where no head is first, none has rows
pub none-left : (keys : List SortKey) (heads : List Head) (count : ℕ) (first : Option ℕ)
    → AreUsedFrom heads count → IsFirstBut keys heads count count first
    → ((i : ℕ) → first ≡ Some i → ⊥) → list_all is_used heads ≡ true
none-left keys heads count first used h f = grind (arith, all-pass, cases_lt)

pub makes : (order : SortSpec) (old new : List Head) (c : Table)
    → 0 < length (merging_own old).unmade → MergesSome order old new c
    → Makes (spec.MergeSorted order) (merging_own old) (merging_own new) (Some c)
makes order old new c some p = record {
  means = λ x worked outs h. (
    refl,
    subst (AreMerged order.keys (heads_of new) worked)
        (ap (λ l. l ++ c.rows) (append-nil (chunk_rows (outs 0))))
        (p.merges.means worked (chunk_rows (outs 0) ++ []) h.1),
  );
  types = λ ins. p.types;
  sizes = let few = p.few in omega (arith, few);
  progress = grind (arith, cond_both, all-used);
  nothing = λ n. absurd (let l = ap length n in omega (arith, l, some));
  ends = grind (arith, head-at);
}
