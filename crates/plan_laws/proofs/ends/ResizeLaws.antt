-- What a resize keeps is what it gives: the rows of any inputs by any outputs.
use Rattle.plan_laws.proofs.Imports.{IsPermutation, KeepsWorked, List, Some, [], ap, append_assoc, arith, false, map, refl, suc, true, zero, ℕ, ◌++◌, ◌+◌, ◌-◌, ◌<◌, ◌∙◌, ◌≡◌, ◌≤◌, AllByRecursion, AreResized, BoxPicture, Files, GivesResized, HasReadEnough, IsOver, IsPermutation-append_left, IsPermutation-refl, IsPermutation-trans, Lists, MakesType, NodePort, Row, Spec, Stream, Table, Types, all_done, rows_together, and_from, and_parts, any_done, append-nil, both_ways, chunk_rows, first_rows, flat_map-append, length-map, or_cases, ports_of, pulled_types, stream_rows, unworked_at, KeepsContract, KindGives, in_stream, out_stream, replicate}
use Rattle.plan_laws.proofs.meaning.Fronts.{pairs_of_appends}
use Rattle.plan_laws.proofs.meaning.PlanTypes.{OneType, each-fits, passes-type}
use Rattle.plan_laws.proofs.graph.Drafts.{ports-length}
use Rattle.query_model.specs.declared.processor_spec.Spec.TheVariants as spec
use Rattle.plan_laws.proofs.ends.KindLaws.{all-worked-at, is-among, kept-rows, made-typed, stays-open}

-- ---- streams at the ports of a node

abbrev pub at_ports : (ℕ → Stream) → ℕ → ℕ → ℕ → List Stream
at_ports f n i k = map (λ (q : NodePort). f q.port) (ports_of n i k)

-- the rows of the first ports, and of so many after them
ports-rows : (lists : Lists) (f : ℕ → Stream) → ((i : ℕ) → (f i).rows ≡ chunk_rows (lists i))
    → (n i k : ℕ)
    → first_rows i lists ++ rows_together (stream_rows (at_ports f n i k))
    ≡ first_rows (i + k) lists
unfolding first_rows
ports-rows lists f e n i zero = search (arith, append-nil)
ports-rows lists f e n i (suc k) = grind (arith, append_assoc, ports-rows lists f e n (suc i) k)

-- lists past the last one that has chunks add nothing
pub none-past : (lists : Lists) (m k : ℕ) → ((i : ℕ) → m ≤ i → lists i ≡ [])
    → first_rows (m + k) lists ≡ first_rows m lists
unfolding first_rows
none-past lists m zero past = search (arith)
none-past lists m (suc k) past =
    let next : m + suc k ≡ suc (m + k) = omega arith in
    ap (λ j. first_rows j lists) next
    ∙ ap (λ l. first_rows (m + k) lists ++ chunk_rows l) (past (m + k) (omega arith))
    ∙ append-nil (first_rows (m + k) lists) ∙ none-past lists m k past

-- the rows at the ports of a node are those of all lists
pub all-ports : (lists : Lists) (f : ℕ → Stream) → ((i : ℕ) → (f i).rows ≡ chunk_rows (lists i))
    → (n m most : ℕ) → m ≤ most → ((i : ℕ) → m ≤ i → lists i ≡ [])
    → rows_together (stream_rows (at_ports f n 0 m)) ≡ first_rows most lists
unfolding first_rows
all-ports lists f e n m most le past =
    grind (arith, ports-rows lists f e n 0 m, none-past lists m (most - m) past)

-- a port that is done
record DoneAt (f : ℕ → Stream) (m : ℕ) : Type 0 where
  pub port : ℕ
  pub in_range : port < m
  pub done : (f port).done ≡ true

any-done : (f : ℕ → Stream) (n i k : ℕ) → any_done (at_ports f n i k) ≡ true → DoneAt f (i + k)
any-done f n i zero e = absurd (both_ways false refl e)
any-done f n i (suc k) e = grind (arith, or_cases, any-done f n (suc i) k)

pub all-done : (f : ℕ → Stream) (n i k : ℕ)
    → ((j : ℕ) → i ≤ j → j < i + k → (f j).done ≡ true) → all_done (at_ports f n i k) ≡ true
all-done f n i zero h = refl
all-done f n i (suc k) h = and_from _ _ (h i (omega arith) (omega arith))
    (all-done f n (suc i) k (λ j le lt. h j (omega (arith, le)) (omega (arith, lt))))

pub each-port : (P : Stream → Type 0) (f : ℕ → Stream) (n i k : ℕ)
    → ((j : ℕ) → i ≤ j → j < i + k → P (f j)) → AllByRecursion P (at_ports f n i k)
each-port P f n i zero h = tt
each-port P f n i (suc k) h = (
  h i (omega arith) (omega arith),
  each-port P f n (suc i) k (λ j le lt. h j (omega (arith, le)) (omega (arith, lt))),
)

-- ---- what was worked, and what wasn't yet

pub split-rows : (n : ℕ) (whole a b : Lists) → ((i : ℕ) → whole i ≡ a i ++ b i)
    → IsPermutation (first_rows n whole) (first_rows n a ++ first_rows n b)
unfolding first_rows
split-rows zero whole a b e = IsPermutation-refl []
split-rows (suc n) whole a b e =
    let here : chunk_rows (whole n) ≡ chunk_rows (a n) ++ chunk_rows (b n) =
    ap chunk_rows (e n) ∙ flat_map-append (λ (t : Table). t.rows) (a n) (b n) in
    rw here (IsPermutation-trans _ _ _ (IsPermutation-append_left (chunk_rows (a n) ++ chunk_rows
    (b n)) _ _ (split-rows n whole a b e)) (pairs_of_appends (first_rows n a) (first_rows n b)
    (chunk_rows (a n)) (chunk_rows (b n))))

-- ---- what passes rows on as they are

-- The rows that were made and didn't leave yet, and those that aren't worked.
abbrev waiting : BoxPicture → List Row → List Row
waiting p wait = wait ++ first_rows 32 (unworked_at p.work)

-- A box that passes rows on as they are gives the rows of its inputs by its outputs; some wait.
pub gives-resized : {s : Spec} {files : Files} {takes gives : ℕ} {p : BoxPicture}
    {ins outs : Lists} → KeepsContract s files takes gives p ins outs → (n : ℕ) (wait : List Row)
    → 0 < gives → (HasReadEnough (Some s) ins → ⊥) → (m : KeepsWorked s p ins outs)
    → AreResized m.worked outs wait → (IsOver s p.work → wait ≡ [])
    → GivesResized (at_ports (in_stream p ins) n 0 takes) (at_ports (out_stream p outs) n 0 gives)
unfolding first_rows
gives-resized {takes = takes} {gives} {p} {ins} {outs} k n wait some unlimited m resized over =
    let left : List Row = first_rows 32 (unworked_at p.work) in
    let i_rows : rows_together (stream_rows (at_ports (in_stream p ins) n 0 takes))
    ≡ first_rows 32 ins =
    all-ports ins (in_stream p ins) (λ i. refl) n takes 32 k.few_inputs k.nothing_past in
    let o_rows : rows_together (stream_rows (at_ports (out_stream p outs) n 0 gives))
    ≡ first_rows 16 outs =
    all-ports outs (out_stream p outs) (λ i. refl) n gives 16 k.few_outputs k.nothing_pushed_past in
    let rows : IsPermutation (first_rows 32 ins) (first_rows 16 outs ++ waiting p wait) =
    IsPermutation-trans _ _ _ (split-rows 32 ins m.worked (unworked_at p.work) m.ins_are)
    (rw (append_assoc (first_rows 16 outs) wait left) at
    (IsPermutation-append_left left _ _ resized.same_rows)) in
    record {
      some =
          let e = length-map (ports_of n 0 gives) (λ (q : NodePort). out_stream p outs q.port) in
          omega (arith, e, some, ports-length n 0 gives);
      waits = waiting p wait;
      rows = rw i_rows (rw o_rows rows);
      nothing_waits = search (arith, any-done, and_parts, none-past, all-worked-at);
      inputs_done = λ done.
          let d = any-done (out_stream p outs) n 0 gives done in
          all-done (in_stream p ins) n 0 takes
          (λ i le lt. stays-open k i d.port (omega (arith, lt))
          (let within = d.in_range in omega (arith, within)) unlimited d.done);
    }

-- A resize gives the rows of its inputs by its outputs.
pub resize-gives : KindGives spec.Resize
resize-gives files takes gives n p ins outs k =
    let m = kept-rows k (λ i d x lt. tt) in
    let from : List Types = pulled_types (at_ports (in_stream p ins) n 0 takes) in
    record {
      gives = λ fit. gives-resized k n (chunk_rows p.work.made) k.ports (λ x. x) m m.rows.1
          (λ end. ap chunk_rows end.nothing_waits);
      typed = λ fit. each-port (λ (o : Stream). AllByRecursion (MakesType spec.Resize from) o.types)
          (out_stream p outs) n 0 gives
          (λ o le lt. made-typed k from o
          (λ t w. is-among (λ u. t ≡ u) p ins n takes t k.nothing_past w refl));
    }

-- A resize passes on chunks of the types that it takes.
pub resize-type : (m : ℕ) (u : Types) → OneType spec.Resize (replicate m u) u
resize-type m u = passes-type spec.Resize m u (each-fits spec.Resize 0 m u (λ i. tt)) (λ us t m. m)
