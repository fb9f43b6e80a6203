-- What a sort and a merge keep is what they give.
use Rattle.plan_laws.proofs.Imports.{Bool, IsPermutation, IsSorted, KeepsWorked, List, Some, [], ap, append_assoc, arith, false, inl, inr, length, length-append, refl, subst, suc, sym, true, zero, ℕ, ◌++◌, ◌+◌, ◌<◌, ◌∙◌, ◌∷◌, ◌≡◌, ◌≤◌, All-nil, AllByRecursion, AllFit, AreInputsSorted, AreMerged, BoxPicture, Contains-append_left, FitFrom, FitsInput, FitsOrder, GivesHeld, GivesMerged, HoldsBack, IsBeforeNone, IsPermutation-append_left, IsPermutation-trans, IsReadUp, IsSortOf, Lists, NotesEnd, Row, SortKey, SortSpec, Spec, Stream, Table, rows_together, and_parts, append-nil, cases_eq, cases_lt, chunk_rows, every-append, every-contains, every-front, every-none, every-turned, every-weaker, first_rows, head_at, head_rows, is_lt, kept_output, order-cross, order-from_sorted, order-front, own_of, row_cmp, rows-append, rows-ordered, stream_rows, sorted-from_order, unworked_at, KeepsContract, KindGives, chunk_types, in_stream, out_stream, and_from}
use Rattle.plan_laws.proofs.meaning.KindLaws.{sort-exists}
use Rattle.query_model.specs.declared.processor_spec.Spec.TheVariants as spec
use Rattle.plan_laws.proofs.ends.KindLaws.{as-kept, one-output, all-worked-at, at-ports, front-of, kept-rows, one-fits, stays-open, types-fit}
use Rattle.plan_laws.proofs.ends.ResizeLaws.{all-done, all-ports, at_ports, each-port, none-past, split-rows}

pub front-none : {X : Type 0} (xs ys : List X) → xs ++ ys ≡ [] → xs ≡ []
front-none [] ys e = refl
front-none (x ∷ xs) ys e = absurd (cc)

back-none : (xs ys : List Row) → xs ++ ys ≡ [] → ys ≡ []
back-none [] ys e = e
back-none (x ∷ xs) ys e = absurd (cc)

-- an input whose end is noted is read up
pub read-up : {s : Spec} {files : _} {takes gives : ℕ} {p : BoxPicture} {ins outs : Lists}
    → KeepsContract s files takes gives p ins outs → (i : ℕ) → i < takes
    → NotesEnd (Some s) (own_of p.work) i → IsReadUp p i
read-up {takes = takes} {gives} {p} k i lt n = search (arith, as-kept)

-- where the ends of all inputs are noted, each is done and worked
pub all-worked : {s : Spec} {files : _} {takes gives : ℕ} {p : BoxPicture} {ins outs : Lists}
    → KeepsContract s files takes gives p ins outs → (m : KeepsWorked s p ins outs)
    → ((i : ℕ) → NotesEnd (Some s) (own_of p.work) i) → (i : ℕ)
    → (i < takes → (in_stream p ins i).done ≡ true) × (m.worked i ≡ ins i)
all-worked {takes = takes} {p = p} k m noted i =
    search (arith, cases_lt, read-up, append-nil, and_from, front-none)

-- ---- kinds that hold all rows until they note the end

-- What is gathered until the end is noted, and then made, is given once the inputs are done.
pub gives-held : (M : List Row → Type 0) (p : BoxPicture) (outs : Lists) (done : Bool)
    → (rows : List Row) × M rows
    → (p.work.ended ≡ false → chunk_rows (outs 0) ++ chunk_rows p.work.made ≡ [])
    → (p.work.ended ≡ true → (done ≡ true)
    × M ((chunk_rows (outs 0) ++ chunk_rows p.work.made) ++ p.work.unmade))
    → ((kept_output p 0).fin_out ≡ true → (p.work.made ≡ []) × (p.work.unmade ≡ [])
    × (p.work.ended ≡ true))
    → GivesHeld M done (out_stream p outs 0)
gives-held M p outs done some gathered made over =
    grind (arith, append_assoc, front-of, front-none, and_parts)

-- A sort gives the rows of its input in an order that its keys allow.
pub sort-gives : (order : SortSpec) → KindGives (spec.Sort order)
sort-gives order files takes gives n p ins outs k =
    at-ports n 1 1 k.ports.0 k.ports.1
    (λ h. one-output n h (λ fit.
    let m : KeepsWorked (spec.Sort order) p ins outs =
    kept-rows h (one-fits (spec.Sort order) (FitsOrder order) ins (λ i t x. x) h.nothing_past
    fit.0) in
    gives-held (IsSortOf order.keys (chunk_rows (ins 0))) p outs (in_stream p ins 0).done
    (sort-exists order.keys (chunk_rows (ins 0))) (λ e. (m.rows.gathered e).nothing_made)
    (λ e. let all = all-worked h m (λ i. e) 0 in (
      all.0 (omega arith),
      rw (ap chunk_rows all.1) at (m.rows.sorted e),
    ))
    (λ f. let end = m.over 0 f in (end.nothing_waits, end.all_made, end.noted))) (λ t e. e)) k

-- ---- merges

-- what is true of the rows at each of so many ports
rows-at : (P : List Row → Type 0) (f : ℕ → Stream) (n i k : ℕ)
    → AllByRecursion P (stream_rows (at_ports f n i k)) → (j : ℕ) → i ≤ j → j < i + k → P (f j).rows
rows-at P f n i zero h j le lt = absurd (omega (arith, le, lt))
rows-at P f n i (suc k) h j le lt = grind (arith, cases_eq j i, rows-at P f n (suc i) k h.1 j)

-- each chunk that was pulled fits, where those at each port do
pub all-fit-at : (s : Spec) (p : BoxPicture) (ins : Lists) (n takes : ℕ)
    → ((i : ℕ) → takes ≤ i → ins i ≡ []) → FitFrom s 0 (at_ports (in_stream p ins) n 0 takes)
    → AllFit (Some s) ins
all-fit-at s p ins n takes past fit i = grind (
  arith,
  cases_lt i takes,
  types-fit (FitsInput (Some s) i) (ins i),
  go 0 takes fit i,
  past i,
  All-nil (λ (t : Table). FitsInput (Some s) i t.types),
)
  where
    go : (j k : ℕ) → FitFrom s j (at_ports (in_stream p ins) n j k) → (i : ℕ) → j ≤ i → i < j + k
        → AllByRecursion (FitsInput (Some s) i) (chunk_types (ins i))
    go j zero f i le lt = absurd (omega (arith, le, lt))
    go j (suc k) f i le lt = grind (arith, cases_eq i j, go (suc j) k f.1 i)

every-list : (P : Row → Type 0) (n : ℕ) (lists : Lists)
    → ((i : ℕ) → i < n → AllByRecursion P (chunk_rows (lists i)))
    → AllByRecursion P (first_rows n lists)
unfolding first_rows
every-list P zero lists h = tt
every-list P (suc n) lists h = every-append P (first_rows n lists) (chunk_rows (lists n))
    (every-list P n lists (λ i lt. h i (omega (arith, lt)))) (h n (omega arith))

module _ (order : SortSpec) (files : _) (takes : ℕ) (p : BoxPicture) (ins outs : Lists)
    (k : KeepsContract (spec.MergeSorted order) files takes 1 p ins outs)
    (m : KeepsWorked (spec.MergeSorted order) p ins outs) where
  abbrev keys : List SortKey
  keys = order.keys

  abbrev lt : Row → Row → Bool
  lt a b = is_lt (row_cmp keys a b)

  abbrev out : List Row
  out = chunk_rows (outs 0)

  abbrev made : List Row
  made = chunk_rows p.work.made

  abbrev waits : List Row
  waits = made ++ (head_rows p.work.heads ++ first_rows 32 (unworked_at p.work))

  merged : AreMerged keys p.work.heads m.worked (out ++ made)
  merged = m.rows.1

  -- the rows of an input are those worked and those that aren't yet
  rows-are : (i : ℕ) → chunk_rows (ins i) ≡ chunk_rows (m.worked i) ++ chunk_rows
      (unworked_at p.work i)
  rows-are i = ap chunk_rows (m.ins_are i) ∙ rows-append (m.worked i) (unworked_at p.work i)

  -- an input whose end is noted is done, and all of it is worked
  noted-done : (i : ℕ) → (head_at p.work.heads i).ended ≡ true
      → (i < takes → (in_stream p ins i).done ≡ true) × (chunk_rows (unworked_at p.work i) ≡ [])
  noted-done i e = grind (
    arith,
    and_from,
    cases_lt i takes,
    read-up k i,
    rows-are i,
    back-none (chunk_rows (m.worked i)) (chunk_rows (unworked_at p.work i)),
  )

  -- the rows at the ports are in order, and so are those of all inputs
  inputs-sorted : (n : ℕ)
      → AllByRecursion (λ rows. IsSorted (row_cmp keys) rows)
      (stream_rows (at_ports (in_stream p ins) n 0 takes)) → AreInputsSorted keys ins
  inputs-sorted n s i = grind (
    arith,
    cases_lt i takes,
    rows-at (λ rows. IsSorted (row_cmp keys) rows) (in_stream p ins) n 0 takes s i,
    k.nothing_past i,
  )

  worked-sorted : AreInputsSorted keys ins → AreInputsSorted keys m.worked
  worked-sorted s i =
      let o = rows-ordered keys in
      sorted-from_order lt o (chunk_rows (m.worked i))
      (order-front lt o (chunk_rows (m.worked i)) (chunk_rows (unworked_at p.work i))
      (order-from_sorted lt o _ (subst (IsSorted (row_cmp keys)) (rows-are i) (s i))))

  -- no row that isn't worked yet comes before one that is out
  unworked-behind : AreInputsSorted keys ins → 0 < length out → (i : ℕ) → i < 32
      → AllByRecursion (λ y. IsBeforeNone keys y out) (chunk_rows (unworked_at p.work i))
  unworked-behind s some i less =
      elim (merged.held_back (let l = length-append out made in omega (arith, l, some)) i less) [
        | inl e ↦ subst (AllByRecursion (λ y. IsBeforeNone keys y out)) (sym (noted-done i e).1) tt
        | inr w ↦
            let o = rows-ordered keys in
            every-weaker (λ y. lt y w.0 ≡ false) (λ y. IsBeforeNone keys y out)
            (λ y b. every-weaker (λ x. lt w.0 x ≡ false) (λ x. lt y x ≡ false)
            (λ x c. o.chain y w.0 x b c) out (every-front (λ x. lt w.0 x ≡ false) out made w.2))
            (chunk_rows (unworked_at p.work i))
            (every-contains (λ x. AllByRecursion (λ y. lt y x ≡ false)
            (chunk_rows (unworked_at p.work i))) (chunk_rows (m.worked i)) w.0
            (order-cross lt o (chunk_rows (m.worked i)) (chunk_rows (unworked_at p.work i))
            (order-from_sorted lt o _ (subst (IsSorted (row_cmp keys)) (rows-are i) (s i)))) w.1)
      ]

  behind-out : AreInputsSorted keys ins → (rows : List Row) → out ≡ rows
      → AllByRecursion (λ y. IsBeforeNone keys y rows) waits
  behind-out s [] e = every-none (λ y x. lt y x ≡ false) waits
  behind-out s (r ∷ rows) e =
      let o = rows-ordered keys in
      let sorted = worked-sorted s in
      let some : 0 < length out = let l = ap length e in omega (arith, l) in
      let P : Row → Type 0 = λ y. IsBeforeNone keys y out in
      rw e at (every-append P made (head_rows p.work.heads ++ first_rows 32 (unworked_at p.work))
      (every-turned (λ x y. lt y x ≡ false) out made (order-cross lt o out made
      (order-from_sorted lt o (out ++ made) (merged.in_order sorted))))
      (every-append P (head_rows p.work.heads) (first_rows 32 (unworked_at p.work))
      (every-weaker (λ y. IsBeforeNone keys y (out ++ made)) P
      (λ y b. every-front (λ x. lt y x ≡ false) out made b) (head_rows p.work.heads)
      (merged.before_held sorted)) (every-list P 32 (unworked_at p.work) (unworked-behind s some))))

  -- an input holds back what is out
  holds-back : 0 < length out → (i : ℕ) → i < takes → HoldsBack keys out (in_stream p ins i)
  holds-back some i less =
      elim (merged.held_back (let l = length-append out made in omega (arith, l, some)) i
      (let few = k.few_inputs in omega (arith, less, few))) [
        | inl e ↦ inl ((noted-done i e).0 less)
        | inr w ↦ inr (
          w.0,
          rw (rows-are i) (Contains-append_left (chunk_rows (m.worked i))
              (chunk_rows (unworked_at p.work i)) w.0 w.1),
          every-front (λ x. lt w.0 x ≡ false) out made w.2,
        )
      ]

  same-rows : IsPermutation (first_rows 32 ins) (out ++ waits)
  same-rows =
      let heads : List Row = head_rows p.work.heads in
      let left : List Row = first_rows 32 (unworked_at p.work) in
      IsPermutation-trans _ _ _ (split-rows 32 ins m.worked (unworked_at p.work) m.ins_are)
      (rw (append_assoc (out ++ made) heads left ∙ append_assoc out made (heads ++ left)) at
      (IsPermutation-append_left left _ _ merged.same_rows))

  nothing-left : (kept_output p 0).fin_out ≡ true → waits ≡ []
  unfolding first_rows
  nothing-left f = search (arith, none-past, all-worked-at)

  merge-held : (n : ℕ)
      → GivesMerged keys (at_ports (in_stream p ins) n 0 takes) (out_stream p outs 0)
  merge-held n =
      let rows : rows_together (stream_rows (at_ports (in_stream p ins) n 0 takes))
      ≡ first_rows 32 ins =
      all-ports ins (in_stream p ins) (λ i. refl) n takes 32 k.few_inputs k.nothing_past in
      let o = rows-ordered keys in
      record {
        waits = waits;
        rows = subst (λ l. IsPermutation l (out ++ waits)) (sym rows) same-rows;
        in_order = λ s. sorted-from_order lt o out (order-front lt o out made
            (order-from_sorted lt o (out ++ made)
            (merged.in_order (worked-sorted (inputs-sorted n s)))));
        before_waits = λ s. behind-out (inputs-sorted n s) out refl;
        held = λ some. each-port (HoldsBack keys out) (in_stream p ins) n 0 takes
            (λ i le less. holds-back some i (omega (arith, less)));
        nothing_waits = λ done. nothing-left (and_parts _ _ done).0;
        inputs_done = λ done. all-done (in_stream p ins) n 0 takes (λ i le less.
            stays-open k i 0 (omega (arith, less)) (omega arith) (λ x. x) done);
      }

-- A merge gives the rows of its inputs, in order where each of these is.
pub merge-gives : (order : SortSpec) → KindGives (spec.MergeSorted order)
merge-gives order files takes gives n p ins outs k =
    at-ports n takes 1 refl k.ports
    (λ h. one-output n h (λ fit. merge-held order files takes p ins outs h
    (kept-rows h (all-fit-at (spec.MergeSorted order) p ins n takes h.nothing_past fit)) n)
    (λ t e. e)) k
