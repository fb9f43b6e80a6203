-- What a kind keeps is what it gives, a kind at a time.
use Rattle.plan_laws.proofs.Imports.{Bool, KeepsWorked, List, Some, [], ap, append_assoc, arith, false, filter, get_or, inl, inr, length, map, refl, subst, suc, sym, true, worked-where-fit, zero, ℕ, ◌++◌, ◌+◌, ◌<◌, ◌∷◌, ◌≡◌, ◌≤◌, ◌⊎◌, All, All-head, All-nil, All-tail, AllByRecursion, AllFit, Any, BoxPicture, ColumnType, Cond, Expr, Files, FitFrom, FitsInput, Gives, GivesFront, GivesSource, GivesThrough, HasReadEnough, IsItem, IsPulled, IsTypedCond, Keeps, Lists, MakesType, MakesTypes, NodePort, PartSpec, Row, Span, Spec, Table, WorkState, and_parts, append-nil, both_ways, cases_eq, cases_lt, chunk_rows, cond_both, false_from_ne_true, flat_map-append, get_or-map, holds, item_row, kept_output, kept_outputs, length-map, limited, no_table, not-true, ports_of, pulled_types, recursion_from_All, type_of, unworked_at, BoxGives, part_of, sources_of_files, chunk_types, in_stream, out_stream, KeepsContract, KindGives, filter-append, map-append, IsWorkOf, length-append, nil_from_length, Types, AreAsKept, AreOpen, OwnState, NotesEnd, kept_inputs, kept_ports, and_from, HasFinished, or_cases}
use Rattle.plan_laws.proofs.meaning.KindLaws.{limited-extends, Extends}
use Rattle.plan_laws.proofs.meaning.Fronts.{no-rest}
use Rattle.plan_laws.proofs.meaning.PlanTypes.{OneType, passes-type}
use Rattle.std.proofs.lemmas.Grind.{common_steps}
use Rattle.query_model.specs.declared.processor_spec.Spec.TheVariants as spec

module _ {s : Spec} {files : Files} {takes gives : ℕ} {p : BoxPicture} {ins outs : Lists}
    (k : KeepsContract s files takes gives p ins outs) where
  -- The last view, if there was one, had all ports, or each port of it is open and the kind notes
  -- no end.
  pub as-kept : AreAsKept p.notes.view takes gives ⊎ (AreOpen (kept_ports p.notes.view)
      × ((own : OwnState) (i : ℕ) → NotesEnd (Some s) own i → ⊥))
  as-kept = grind (arith, k.keeps.ports, k.still, k.ports, k.loaded)

  -- a box that finished an output has all ports
  finished-ports : (o : ℕ) → (kept_output p o).fin_out ≡ true
      → (kept_inputs p ≡ takes) × (kept_outputs p ≡ gives)
  unfolding kept_inputs kept_outputs kept_output
  finished-ports o fin = grind (arith, as-kept, both_ways)

  -- a box that finished an output which nobody closed saw each input end and closed none, but for a
  -- limit that has read enough
  open-or-enough : (i o : ℕ) → i < takes → o < gives → (out_stream p outs o).done ≡ true
      → ((in_stream p ins i).done ≡ true) ⊎ HasReadEnough (Some s) ins
  open-or-enough i o lt within done =
      grind (arith, both_ways, not-true, and_parts, and_from, finished-ports)

  -- the same of a kind that is no limit
  pub stays-open : (i o : ℕ) → i < takes → o < gives → (HasReadEnough (Some s) ins → ⊥)
      → (out_stream p outs o).done ≡ true → (in_stream p ins i).done ≡ true
  stays-open i o lt within unlimited done = search (arith, open-or-enough i o lt within done)

  -- what is kept of a kind, where each chunk that was pulled fits
  pub kept-rows : AllFit (Some s) ins → KeepsWorked s p ins outs
  kept-rows fit = grind (arith, worked-where-fit)

-- The rows that were pushed are the first of these where those that wait and others follow, none of
-- which is left once it has itself finished its output.
pub front-of : (rows left : List Row) (p : BoxPicture) (outs : Lists)
    → chunk_rows (outs 0) ++ (chunk_rows p.work.made ++ left) ≡ rows
    → ((kept_output p 0).fin_out ≡ true → (p.work.made ≡ []) × (left ≡ []))
    → GivesFront rows (out_stream p outs 0)
front-of rows left p outs e over = search (arith, and_parts, append-nil)

-- where no chunk is unworked, none of any input is
pub all-worked-at : (w : WorkState) (i : ℕ) → w.unworked ≡ [] → unworked_at w i ≡ []
all-worked-at w i e = search (arith, cond_both)

-- The rows that were pushed are the first of what a kind makes of those of its input, where it has
-- made that of the rows that it worked.
made-front : (make : List Row → List Row) → Extends make → (s : Spec) (p : BoxPicture)
    (ins outs : Lists) (m : KeepsWorked s p ins outs)
    → chunk_rows (outs 0) ++ chunk_rows p.work.made ≡ make (chunk_rows (m.worked 0))
    → GivesFront (make (chunk_rows (ins 0))) (out_stream p outs 0)
made-front make extends s p ins outs m made = grind (
  arith,
  extends (chunk_rows (m.worked 0)) (chunk_rows (unworked_at p.work 0)),
  flat_map-append,
  front-of,
  append_assoc,
  all-worked-at,
  no-rest,
  append-nil,
)

-- ---- what was pulled

-- each chunk of one input fits
pub types-fit : (P : List ColumnType → Type 0) (chunks : List Table)
    → AllByRecursion P (chunk_types chunks) → All (λ (t : Table). P t.types) chunks
types-fit P [] h = All-nil (λ (t : Table). P t.types)
types-fit P (c ∷ chunks) h = grind (arith, recursion_from_All, types-fit P chunks h.1)

-- each chunk fits a kind of one input that takes the same at each
pub one-fits : (s : Spec) (P : List ColumnType → Type 0) (ins : Lists)
    → ((i : ℕ) (t : List ColumnType) → P t → FitsInput (Some s) i t)
    → ((i : ℕ) → 1 ≤ i → ins i ≡ []) → AllByRecursion P (chunk_types (ins 0)) → AllFit (Some s) ins
one-fits s P ins same past h zero = λ k d lt. same 0 (get_or (ins 0) k d).types
    (types-fit P (ins 0) h k d lt)
one-fits s P ins same past h (suc i) = search (arith, All-nil)

any-front : {X : Type 0} (P : X → Type 0) (xs ys : List X) (k : ℕ) (y : X) → k < length xs
    → get_or xs k y ≡ y → P y → Any P (xs ++ ys)
any-front P (x ∷ xs) ys (suc k) y lt is h =
    let more = any-front P xs ys k y (omega (arith, lt)) is h in
    (suc more.0, more.1, omega (arith, more.2), more.3, more.4)
any-front P xs ys k y lt is h = grind arith

any-behind : {X : Type 0} (P : X → Type 0) (xs ys : List X) → Any P ys → Any P (xs ++ ys)
any-behind P [] ys h = h
any-behind P (x ∷ xs) ys h =
    let more = any-behind P xs ys h in
    (suc more.0, more.1, omega (arith, more.2), more.3, more.4)

-- a chunk at one of so many inputs has these types
among-pulled : (Q : List ColumnType → Type 0) (p : BoxPicture) (ins : Lists) (n i m input k : ℕ)
    → i ≤ input → input < i + m → k < length (ins input)
    → Q (get_or (ins input) k no_table).types
    → Any Q (pulled_types (map (λ (q : NodePort). in_stream p ins q.port) (ports_of n i m)))
among-pulled Q p ins n i zero input k le lt within q = absurd (omega (arith, le, lt))
among-pulled Q p ins n i (suc m) input k le lt within q = elim (cases_eq i input) [
  | inl e ↦
      let here : k < length (ins i) = subst (λ j. k < length (ins j)) (sym e) within in
      any-front Q (chunk_types (ins i)) _ k (get_or (ins i) k no_table).types
      (let same = length-map (ins i) (λ (t : Table). t.types) in omega (arith, here, same))
      (get_or-map (λ (t : Table). t.types) (ins i) k no_table _ here)
      (subst (λ j. Q (get_or (ins j) k no_table).types) (sym e) q)
  | inr ne ↦ any-behind Q (chunk_types (ins i)) _
      (among-pulled Q p ins n (suc i) m input k (omega (arith, le, ne)) (omega (arith, lt)) within
      q)
]

-- a chunk that was pulled is one of the inputs'
pub is-among : (Q : List ColumnType → Type 0) (p : BoxPicture) (ins : Lists) (n takes : ℕ)
    (types : List ColumnType) → ((i : ℕ) → takes ≤ i → ins i ≡ []) → IsPulled ins types → Q types
    → Any Q (pulled_types (map (λ (q : NodePort). in_stream p ins q.port) (ports_of n 0 takes)))
is-among Q p ins n takes types past w q =
    grind (arith, cases_lt w.input takes, among-pulled Q p ins n 0 takes w.input w.place)

-- ---- kinds

-- the chunks of an output are what the kind makes of these types, where the contract says so
pub made-typed : {s : Spec} {files : Files} {takes gives : ℕ} {p : BoxPicture} {ins outs : Lists}
    → KeepsContract s files takes gives p ins outs → (from : List (List ColumnType)) (o : ℕ)
    → ((t : List ColumnType) → MakesTypes (Some s) ins t → MakesType s from t)
    → AllByRecursion (MakesType s from) (chunk_types (outs o))
made-typed {s} {ins = ins} {outs} k from o makes =
    go (outs o) (subst (λ z. All (λ (t : Table). MakesTypes z ins t.types) (outs o)) k.loaded
    (k.keeps.types o))
  where
    go : (chunks : List Table) → All (λ (t : Table). MakesTypes (Some s) ins t.types) chunks
        → AllByRecursion (MakesType s from) (chunk_types chunks)
    go [] h = tt
    go (c ∷ chunks) h = (
      makes c.types (All-head (λ (t : Table). MakesTypes (Some s) ins t.types) c chunks h),
      go chunks (All-tail (λ (t : Table). MakesTypes (Some s) ins t.types) c chunks h),
    )

-- a kind of one output, by what it gives and the types that it makes
pub one-output : {s : Spec} {files : Files} {takes : ℕ} (n : ℕ) {p : BoxPicture} {ins outs : Lists}
    → KeepsContract s files takes 1 p ins outs
    → (FitFrom s 0 (map (λ (q : NodePort). in_stream p ins q.port) (ports_of n 0 takes))
    → Gives (sources_of_files files) s
    (map (λ (q : NodePort). in_stream p ins q.port) (ports_of n 0 takes))
    (out_stream p outs 0 ∷ []))
    → ((t : List ColumnType) → MakesTypes (Some s) ins t → MakesType s
    (pulled_types (map (λ (q : NodePort). in_stream p ins q.port) (ports_of n 0 takes))) t)
    → BoxGives s files takes 1 n p ins outs
one-output n k gives makes =
    record { gives = gives; typed = λ fit. (made-typed k _ 0 makes, tt) }

-- a kind of one input and one output that makes each chunk's rows one by one
through-kind : (make : List Row → List Row) → Extends make → (s : Spec)
    (P : List ColumnType → Type 0) (n : ℕ) {files : Files} {p : BoxPicture} {ins outs : Lists}
    → ((i : ℕ) (t : List ColumnType) → P t → FitsInput (Some s) i t)
    → (AllByRecursion (FitsInput (Some s) 0) (chunk_types (ins 0))
    → AllByRecursion P (chunk_types (ins 0)))
    → (HasReadEnough (Some s) ins → ⊥)
    → (KeepsWorked s p ins outs → (m : KeepsWorked s p ins outs)
    × (chunk_rows (outs 0) ++ chunk_rows p.work.made ≡ make (chunk_rows (m.worked 0))))
    → (GivesThrough make (in_stream p ins 0) (out_stream p outs 0)
    → Gives (sources_of_files files) s (in_stream p ins 0 ∷ []) (out_stream p outs 0 ∷ []))
    → ((t : List ColumnType) → MakesTypes (Some s) ins t
    → MakesType s (chunk_types (ins 0) ++ []) t)
    → KeepsContract s files 1 1 p ins outs → BoxGives s files 1 1 n p ins outs
through-kind make extends s P n {p = p} {ins} {outs} same from unlimited keeps gives makes k =
    one-output n k
    (λ fit.
    let m = keeps (kept-rows k (one-fits s P ins same k.nothing_past (from fit.0))) in
    gives (record {
      front = made-front make extends s p ins outs m.0 m.1;
      input_done = stays-open k 0 0 (omega arith) (omega arith) unlimited;
    })) makes

-- with as many ports as the spec says
pub at-ports : {s : Spec} {files : Files} (n : ℕ) {takes gives : ℕ} (m o : ℕ) {p : BoxPicture}
    {ins outs : Lists} → takes ≡ m → gives ≡ o
    → (KeepsContract s files m o p ins outs → BoxGives s files m o n p ins outs)
    → KeepsContract s files takes gives p ins outs → BoxGives s files takes gives n p ins outs
at-ports {s} {files} n {gives = gives} m o {p} {ins} {outs} e f h = search (arith)

-- A filter gives the rows at which its condition is true.
pub filter-gives : (c : Cond) → KindGives (spec.Filter c)
filter-gives c files takes gives n p ins outs k =
    at-ports n 1 1 k.ports.0 k.ports.1
    (λ h. through-kind (filter (holds c))
    (λ xs ys. (filter (holds c) ys, sym (filter-append (holds c) xs ys))) (spec.Filter c)
    (λ t. IsTypedCond t c) n (λ i t x. x) (λ x. x) (λ x. x) (λ m. (m, m.rows)) (λ x. x)
    (λ t w. is-among (λ u. t ≡ u) p ins n 1 t h.nothing_past w.pulled refl) h) k

-- An expression gives the row of its items' values for each row.
pub expression-gives : (items : List Expr) → KindGives (spec.Expression items)
expression-gives items files takes gives n p ins outs k =
    at-ports n 1 1 k.ports.0 k.ports.1
    (λ h. through-kind (map (item_row items))
    (λ xs ys. (map (item_row items) ys, sym (map-append (item_row items) xs ys)))
    (spec.Expression items) (λ t. All (IsItem t) items) n (λ i t x. x) (λ x. x) (λ x. x)
    (λ m. (m, m.rows)) (λ x. x)
    (λ t w. is-among (λ u. t ≡ map (λ e. type_of e u) items) p ins n 1 w.from h.nothing_past
    w.pulled w.is) h) k

-- It makes chunks of its items' types.
pub items-type : (items : List Expr) (u v : Types) → All (IsItem u) items
    → v ≡ map (λ e. type_of e u) items → OneType (spec.Expression items) (u ∷ []) v
items-type items u v h made = grind (arith, common_steps, passes-type)

-- A source gives the good rows of its part.
pub part-gives : (part : PartSpec) → KindGives (spec.Csv part)
part-gives part files takes gives n p ins outs k =
    at-ports n 0 1 k.ports.0 k.ports.1
    (λ h. one-output n h (λ fit. rows h p.work.fetched refl) (λ t e. e)) k
  where
    keeps : KeepsContract (spec.Csv part) files 0 1 p ins outs
        → KeepsWorked (spec.Csv part) p ins outs
    keeps h = kept-rows h (λ i d x lt. tt)

    rows : KeepsContract (spec.Csv part) files 0 1 p ins outs → (b : Bool) → p.work.fetched ≡ b
        → GivesSource (part_of files part) (out_stream p outs 0)
    rows h false f =
        let rows = ap length ((keeps h).rows.before f).no_rows in
        let sum = length-append (chunk_rows (outs 0)) (chunk_rows p.work.made) in
        let nothing : chunk_rows (outs 0) ≡ [] = nil_from_length _ (omega (arith, rows, sum)) in
        let never : (kept_output p 0).fin_out ≡ true → ⊥ =
        λ fin. both_ways p.work.fetched f ((keeps h).read 0 fin).fetched in
        record {
          front = record {
            rest = (part_of files part).rows;
            is = ap (λ l. l ++ (part_of files part).rows) nothing;
            all = λ done. absurd (never (and_parts _ _ done).0);
          };
          valid = λ done. absurd (never (and_parts _ _ done).0);
        }
    rows h true f = grind (arith, keeps, front-of, and_parts, append_assoc)

numbers-typed : (count rows : ℕ) (ins : Lists) (from : List (List ColumnType))
    (t : List ColumnType) → MakesTypes (Some (spec.Numbers count rows)) ins t
    → MakesType (spec.Numbers count rows) from t
numbers-typed count rows ins from t e = e

-- Numbers count up.
pub numbers-gives : (count rows : ℕ) → KindGives (spec.Numbers count rows)
numbers-gives count rows files takes gives n p ins outs k =
    grind (arith, at-ports, kept-rows, one-output, front-of, append_assoc, numbers-typed)

-- A limit gives the rows of its span.
pub limit-gives : (span : Span) → KindGives (spec.Limit span)
limit-gives span files takes gives n p ins outs k =
    at-ports n 1 1 k.ports.0 k.ports.1
    (λ h.
    one-output n h (λ fit. record {
      front =
          let m = kept-rows h (λ i d x lt. tt) in
          made-front (limited (Some span)) (limited-extends span) (spec.Limit span) p ins outs m
          m.rows.made_are;
      input_done = open-or-enough h 0 0 (omega arith) (omega arith);
    }) (λ t w. is-among (λ u. t ≡ u) p ins n 1 t h.nothing_past w refl)) k

-- A collector gives nothing.
pub collect-gives : KindGives spec.Collect
collect-gives files takes gives n p ins outs k = search (arith, at-ports)

-- a collector that has finished has all of its input
pub collector-done : (p : BoxPicture) (ins outs : Lists) (takes gives : ℕ)
    → p.spec ≡ Some spec.Collect → Keeps p ins outs → takes ≡ 1 → gives ≡ 0
    → HasFinished takes gives p → (in_stream p ins 0).done ≡ true
collector-done p ins outs takes gives e k one none f =
    grind (arith, false_from_ne_true, and_from, or_cases)

-- and what it gathered are the chunks that it pulled
pub collector-gathered : (p : BoxPicture) (ins outs : Lists) → IsWorkOf (Some spec.Collect) p.work
    → KeepsWorked spec.Collect p ins outs → p.work.gathered ≡ ins 0
collector-gathered p ins outs idle m = search (arith)
