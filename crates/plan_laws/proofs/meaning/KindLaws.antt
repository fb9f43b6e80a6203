-- What each kind gave so far is the first of what it makes where nobody closes an input.
use Rattle.plan_laws.proofs.Imports.{Bool, IsPermutation, IsSorted, List, Some, [], ap, arith, drop, false, inl, inr, is_lt, leb, length, refl, suc, take, true, zero, ℕ, ◌&&◌, ◌++◌, ◌<◌, ◌||◌, ◌∙◌, ◌∷◌, ◌≡◌, ◌≤◌, ◌⊎◌, AllByRecursion, AllZip, InOrder, IsPermutation-append_comm, IsPermutation-append_left, IsPermutation-append_right, IsPermutation-refl, IsPermutation-same, IsPermutation-trans, IsSortOf, KeyPair, Row, SortKey, Span, Spec, and_from, and_parts, append-nil, append_assoc, both_ways, cases_lt, drop-append-le, enough, eqb-true, every-append, every-none, every-permuted, joined_rows, joined_rows-append, le-leb, length-append, length-drop, length_permutation, limited, list_all, or_left, or_right, order-from_sorted, order-front, order-joined, ordered, ordered-none, ordered-order, ordered-same, row_cmp, rows-ordered, sorted-from_order, take-append-le, Flow, ManyToOne, OneToOne, SourceRows, RowsOfSources, Source, Stream, TwoToOne, all_certain, all_done, rows_together, any_done, any_needs, flow_rows, flows_of, stream_rows, GivesHeld, GivesJoined, GivesLimited, GivesMerged, GivesSource, GivesResized, GivesThrough, HoldsBack, IsMergeOf, IsFront, is_certain, is_needed}
use Rattle.plan_laws.proofs.meaning.Fronts.{Behind, behind, certain-inputs, needed-inputs, no-rest}

-- for a kind with one output
pub record CompletesOne (M : List Row → Type 0) (certain needs : Bool) (o : Stream) : Type 0 where
  pub out : List Row
  pub makes : M out
  pub front : IsFront o (record { rows = out; certain = certain; needs = needs })

pub record CompletesKind (M : List (List Row) → List (List Row) → Type 0) (certain needs : Bool)
    (fs : List Flow) (outs : List Stream) : Type 0 where
  pub lists : List (List Row)
  pub makes : M (flow_rows fs) lists
  pub fronts : AllZip IsFront outs (flows_of certain needs lists)

-- a kind with one input and one output
pub one-completes : (parts : RowsOfSources) (s : Spec) {R : Stream → Stream → Type 0}
    {M : List Row → List Row → Type 0}
    → ((i o : Stream) (f : Flow) → R i o → IsFront i f
    → CompletesOne (M f.rows) (is_certain parts s (f ∷ [])) (is_needed parts s (f ∷ [])) o)
    → (ins outs : List Stream) (fs : List Flow) → OneToOne R ins outs → AllZip IsFront ins fs
    → CompletesKind (OneToOne M) (is_certain parts s fs) (is_needed parts s fs) fs outs
one-completes parts s step (i ∷ []) (o ∷ []) (f ∷ []) r z = let w = step i o f r z.0 in
    record { lists = w.out ∷ []; makes = w.makes; fronts = (w.front, tt) }
one-completes parts s step ins outs fs r z = grind arith

-- a kind with two inputs and one output
pub two-completes : (parts : RowsOfSources) (s : Spec) {R : Stream → Stream → Stream → Type 0}
    {M : List Row → List Row → List Row → Type 0}
    → ((l r o : Stream) (f g : Flow) → R l r o → IsFront l f → IsFront r g
    → CompletesOne (M f.rows g.rows) (is_certain parts s (f ∷ g ∷ []))
    (is_needed parts s (f ∷ g ∷ [])) o)
    → (ins outs : List Stream) (fs : List Flow) → TwoToOne R ins outs → AllZip IsFront ins fs
    → CompletesKind (TwoToOne M) (is_certain parts s fs) (is_needed parts s fs) fs outs
two-completes parts s step (l ∷ r ∷ []) (o ∷ []) (f ∷ g ∷ []) q z = let w =
    step l r o f g q z.0 z.1.0 in
    record { lists = w.out ∷ []; makes = w.makes; fronts = (w.front, tt) }
two-completes parts s step ins outs fs q z = grind arith

-- a kind with any inputs and one output
pub many-completes : (parts : RowsOfSources) (s : Spec) {R : List Stream → Stream → Type 0}
    {M : List (List Row) → List Row → Type 0}
    → ((ins : List Stream) (o : Stream) (fs : List Flow) → R ins o → AllZip IsFront ins fs
    → CompletesOne (M (flow_rows fs)) (is_certain parts s fs) (is_needed parts s fs) o)
    → (ins outs : List Stream) (fs : List Flow) → ManyToOne R ins outs → AllZip IsFront ins fs
    → CompletesKind (ManyToOne M) (is_certain parts s fs) (is_needed parts s fs) fs outs
many-completes parts s step ins (o ∷ []) fs r z = let w = step ins o fs r z in
    record { lists = w.out ∷ []; makes = w.makes; fronts = (w.front, tt) }
many-completes parts s step ins outs fs r z = absurd r

-- a source
pub source-completes : (parts : RowsOfSources) (s : Spec) {P : Stream → Type 0}
    {M : List Row → Type 0}
    → ((o : Stream) → P o → CompletesOne M (is_certain parts s []) (is_needed parts s []) o)
    → (ins outs : List Stream) (fs : List Flow) → Source P ins outs → AllZip IsFront ins fs
    → CompletesKind (Source M) (is_certain parts s fs) (is_needed parts s fs) fs outs
source-completes parts s step [] (o ∷ []) [] r z = let w = step o r in
    record { lists = w.out ∷ []; makes = w.makes; fronts = (w.front, tt) }
source-completes parts s step ins outs fs r z = grind arith

-- more rows in, more rows behind those that came out
abbrev pub Extends : (List Row → List Row) → Type 0
Extends make = (xs ys : List Row) → (rest : List Row) × (make xs ++ rest ≡ make (xs ++ ys))

-- a row that came out came of one
some-input : (make : List Row → List Row) → make [] ≡ [] → (ins outs rest : List Row)
    → outs ++ rest ≡ make ins → 0 < length outs → 0 < length ins
some-input make none [] outs rest e some = grind (arith, length-append outs rest)
some-input make none (i ∷ ins) outs rest e some = omega arith

-- a kind that makes the rows of each chunk
pub through-completes : (make : List Row → List Row) → Extends make → make [] ≡ []
    → (i o : Stream) (f : Flow) → GivesThrough make i o → IsFront i f
    → CompletesOne (λ b. b ≡ make f.rows) (f.certain && true) (f.needs || false) o
through-completes make extends none i o f g h = grind (
  arith,
  extends i.rows h.rest,
  append_assoc,
  and_from,
  or_left,
  some-input make none i.rows o.rows g.front.rest,
)

pub limited-extends : (span : Span) → Extends (limited (Some span))
limited-extends span xs ys =
    let d = drop-extends span.skip xs ys in
    let t = take-extends span.count (drop span.skip xs) d.0 in
    (t.0, t.1 ∙ ap (take span.count) d.1)
  where
    drop-extends : (n : ℕ) (xs ys : List Row) → (rest : List Row)
        × (drop n xs ++ rest ≡ drop n (xs ++ ys))
    drop-extends zero xs ys = (ys, refl)
    drop-extends (suc n) [] ys = (drop (suc n) ys, refl)
    drop-extends (suc n) (x ∷ xs) ys = drop-extends n xs ys

    take-extends : (n : ℕ) (xs ys : List Row) → (rest : List Row)
        × (take n xs ++ rest ≡ take n (xs ++ ys))
    take-extends zero xs ys = ([], refl)
    take-extends (suc n) [] ys = (take (suc n) ys, refl)
    take-extends (suc n) (x ∷ xs) ys = search (arith, take-extends n xs ys)

limited-enough : (span : Span) (xs ys : List Row) → enough span ≤ length xs
    → limited (Some span) xs ≡ limited (Some span) (xs ++ ys)
limited-enough span xs ys le = grind (arith, eqb-true, length-drop, drop-append-le, take-append-le)

pub enough-some : (span : Span) → 0 < enough span
enough-some span = grind arith

limited-none : (span : Span) → limited (Some span) [] ≡ []
limited-none span = grind arith

-- a kind that gives the rows of a span
pub limit-completes : (span : Span) (i o : Stream) (f : Flow) → GivesLimited span i o → IsFront i f
    → CompletesOne (λ b. b ≡ limited (Some span) f.rows)
    ((f.certain && true) || ((f.needs || false) && leb (enough span) (length (f.rows ++ []))))
    (f.needs || false) o
limit-completes span i o f g h = grind (
  arith,
  limited-extends span i.rows h.rest,
  append_assoc,
  append-nil f.rows,
  limited-enough,
  or_left,
  and_from,
  or_right,
  enough-some,
  le-leb,
  length-append i.rows h.rest,
  some-input (limited (Some span)) (limited-none span) i.rows o.rows g.front.rest,
)

-- each output but the first stays as it is
stand-still : (c n : Bool) (outs : List Stream) → (any_done outs ≡ true → c ≡ true)
    → (0 < length (rows_together (stream_rows outs)) → n ≡ true)
    → AllZip IsFront outs (flows_of c n (stream_rows outs))
stand-still c n [] h k = tt
stand-still c n (o ∷ outs) h k =
    grind (arith, append-nil, or_left, or_right, length-append, stand-still c n outs)

-- a kind that passes rows on by any output
pub resize-completes : (ins outs : List Stream) (fs : List Flow) → GivesResized ins outs
    → AllZip IsFront ins fs
    → CompletesKind (λ a b. IsPermutation (rows_together a) (rows_together b)) (all_certain fs)
    (any_needs fs) fs outs
resize-completes ins [] fs g z = let some = g.some in absurd (omega (arith, some))
resize-completes ins (o ∷ outs) fs g z =
    let b : Behind ins fs = behind ins fs z in
    let extra : List Row = g.waits ++ b.rest in
    let total = length_permutation _ _ g.rows in
    let len = length-append (o.rows ++ rows_together (stream_rows outs)) g.waits in
    let heads = length-append o.rows (rows_together (stream_rows outs)) in
    let passed : 0 < length (o.rows ++ rows_together (stream_rows outs)) → any_needs fs ≡ true =
    (λ some. needed-inputs ins fs z (omega (arith, some, total, len))) in
    record {
      lists = (o.rows ++ extra) ∷ stream_rows outs;
      makes = grind (
        arith,
        b.are,
        IsPermutation-trans,
        IsPermutation-append_left b.rest _ _ g.rows,
        append_assoc (o.rows ++ rows_together (stream_rows outs)) g.waits b.rest,
        put-first o.rows (rows_together (stream_rows outs)) extra,
      );
      fronts = grind (arith, or_left, append-nil, certain-inputs, stand-still, or_right);
    }
  where
    put-first : (a b e : List Row) → IsPermutation ((a ++ b) ++ e) ((a ++ e) ++ b)
    put-first a b e = rw (append_assoc a b e, append_assoc a e b)
        (IsPermutation-append_right a _ _ (IsPermutation-append_comm b e))

pub done-rows : (ins : List Stream) (fs : List Flow) → AllZip IsFront ins fs → all_done ins ≡ true
    → stream_rows ins ≡ flow_rows fs
done-rows (i ∷ ins) (f ∷ fs) h e = grind (arith, and_parts, done-rows ins fs h.1)
done-rows ins fs h e = grind arith

empty-rows : (rows : List Row) → (0 < length rows → ⊥) → rows ≡ []
empty-rows [] h = refl
empty-rows (r ∷ rows) h = absurd (h (omega arith))

-- rows can be put in the order of any keys
pub sort-exists : (keys : List SortKey) (rows : List Row) → (out : List Row)
    × IsSortOf keys rows out
sort-exists keys rows =
    let lt = (λ (a b : Row). is_lt (row_cmp keys a b)) in
    let o = rows-ordered keys in (
      ordered lt o rows,
      grind (
        arith,
        ordered-same lt o rows,
        sorted-from_order lt o (ordered lt o rows) (ordered-order lt o rows),
      ),
    )

-- a kind that gives nothing before its inputs are done
pub held-completes : (M M' : List Row → Type 0) (inputs_done c : Bool)
    → (inputs_done ≡ true → c ≡ true)
    → (inputs_done ≡ true → (r : List Row) → M r → M' r) → (r : List Row) × M' r
    → (o : Stream) → GivesHeld M inputs_done o → CompletesOne M' c c o
held-completes M M' inputs_done c certain same exists o g = grind (arith, empty-rows, both_ways)

-- the same of a kind of one input
pub held-one-completes : (M : List Row → List Row → Type 0)
    → ((rows : List Row) → (out : List Row) × M rows out) → (i o : Stream) (f : Flow)
    → GivesHeld (M i.rows) i.done o → IsFront i f
    → CompletesOne (M f.rows) (f.certain && true) (f.certain && true) o
held-one-completes M exists i o f r h = search (arith, held-completes, and_from)

-- a kind that joins the rows of its inputs
pub join-completes : (pairs : List KeyPair) (l r o : Stream) (f g : Flow) → GivesJoined pairs l r o
    → IsFront l f → IsFront r g
    → CompletesOne (λ out. IsPermutation (joined_rows pairs f.rows g.rows) out)
    (f.certain && (g.certain && true)) (f.needs && g.certain) o
join-completes pairs l r o f g k h j = go r.done refl
  where
    nothing : r.done ≡ false → l.rows ≡ []
    nothing e = empty-rows l.rows (λ some. both_ways r.done e (k.held some))

    some-left : 0 < length o.rows → 0 < length l.rows
    some-left some = search (arith, cases_lt, empty-rows, length_permutation, length-append)

    go : (b : Bool) → r.done ≡ b
        → CompletesOne (λ out. IsPermutation (joined_rows pairs f.rows g.rows) out)
        (f.certain && (g.certain && true)) (f.needs && g.certain) o
    go true e =
        let extra : List Row = joined_rows pairs h.rest r.rows in
        let split : joined_rows pairs f.rows g.rows ≡ joined_rows pairs l.rows r.rows ++ extra =
        grind (arith, joined_rows-append) in
        record {
          out = o.rows ++ (k.rest ++ extra);
          makes = grind (
            arith,
            IsPermutation-same _ _ split,
            IsPermutation-append_left extra _ _ k.rows,
            IsPermutation-same _ _ (append_assoc o.rows k.rest extra),
            IsPermutation-trans,
          );
          front = grind (arith, append-nil, no-rest, and_from, some-left, j.certain e, h.needs);
        }
    go false e =
        let none : o.rows ≡ [] = grind (arith, empty-rows, some-left, nothing) in
        record {
          out = joined_rows pairs f.rows g.rows;
          makes = IsPermutation-refl _;
          front = record {
            rest = joined_rows pairs f.rows g.rows;
            is = ap (λ z. z ++ joined_rows pairs f.rows g.rows) none;
            all = λ d. absurd (both_ways r.done e (k.right_done d));
            certain = λ d. absurd (both_ways r.done e (k.right_done d));
            needs = λ some. let len = ap length none in absurd (omega (arith, some, len));
          };
        }

-- the front of a list in order is in order
front-sorted : (keys : List SortKey) (ins : List Stream) (fs : List Flow) → AllZip IsFront ins fs
    → AllByRecursion (λ (f : Flow). IsSorted (row_cmp keys) f.rows) fs
    → AllByRecursion (λ rows. IsSorted (row_cmp keys) rows) (stream_rows ins)
front-sorted keys (i ∷ ins) (f ∷ fs) z s = grind (
  arith,
  sorted-from_order,
  order-front,
  order-from_sorted,
  rows-ordered keys,
  front-sorted keys ins fs z.1 s.1,
)
front-sorted keys ins fs z s = grind arith

flows-sorted : (keys : List SortKey) (fs : List Flow)
    → AllByRecursion (λ rows. IsSorted (row_cmp keys) rows) (flow_rows fs)
    → AllByRecursion (λ (f : Flow). IsSorted (row_cmp keys) f.rows) fs
flows-sorted keys [] h = tt
flows-sorted keys (f ∷ fs) h = (h.0, flows-sorted keys fs h.1)

-- an input that holds rows back is done, or has given a row
held-needs : (keys : List SortKey) (out : List Row) (ins : List Stream) (fs : List Flow)
    → AllZip IsFront ins fs → AllByRecursion (HoldsBack keys out) ins
    → list_all (λ (f : Flow). f.certain || f.needs) fs ≡ true
held-needs keys out (i ∷ ins) (f ∷ fs) z b =
    search (arith, and_from, or_left, or_right, held-needs keys out ins fs z.1 b.1)
held-needs keys out ins fs z b = grind arith

-- a kind that merges the rows of its inputs
pub merge-completes : (keys : List SortKey) (ins : List Stream) (o : Stream) (fs : List Flow)
    → GivesMerged keys ins o → AllZip IsFront ins fs
    → CompletesOne (IsMergeOf keys (flow_rows fs)) (all_certain fs)
    (list_all (λ (f : Flow). f.certain || f.needs) fs) o
merge-completes keys ins o fs k z =
    let lt = (λ (a b : Row). is_lt (row_cmp keys a b)) in
    let w = rows-ordered keys in
    let b : Behind ins fs = behind ins fs z in
    let left : List Row = k.waits ++ b.rest in
    let tail : List Row = ordered lt w left in
    record {
      out = o.rows ++ tail;
      makes = record {
        same = IsPermutation-trans _ _ _ b.are
            (IsPermutation-trans _ _ _ (IsPermutation-append_left b.rest _ _ k.rows)
            (IsPermutation-trans _ _ _ (IsPermutation-same _ _ (append_assoc o.rows k.waits b.rest))
            (IsPermutation-append_right o.rows left tail (ordered-same lt w left))));
        in_order = λ s.
            let sorted = flows-sorted keys fs s in
            let fronts = front-sorted keys ins fs z sorted in
            let first : InOrder lt o.rows = order-from_sorted lt w o.rows (k.in_order fronts) in
            let cross = every-permuted (λ y. AllByRecursion (λ x. lt y x ≡ false) o.rows) left tail
            (ordered-same lt w left) (every-append (λ y. AllByRecursion (λ x. lt y x ≡ false)
            o.rows) k.waits b.rest (k.before_waits fronts)
            (later-all sorted b (cases_lt 0 (length o.rows)))) in
            sorted-from_order lt w (o.rows ++ tail)
            (order-joined lt w o.rows tail first (ordered-order lt w left) cross);
      };
      front = record {
        rest = tail;
        is = refl;
        all = grind (arith, append-nil, ordered, ordered-none);
        certain = λ d. certain-inputs ins fs z (k.inputs_done d);
        needs = λ some. held-needs keys o.rows ins fs z (k.held some);
      };
    }
  where
    later-all : AllByRecursion (λ (f : Flow). IsSorted (row_cmp keys) f.rows) fs
        → (b : Behind ins fs) → (0 < length o.rows) ⊎ (length o.rows ≤ 0)
        → AllByRecursion (λ y. AllByRecursion (λ x. is_lt (row_cmp keys y x) ≡ false) o.rows) b.rest
    later-all sorted b (inl some) = b.later keys o.rows sorted (k.held some)
    later-all sorted b (inr none) =
        rw (empty-rows o.rows (λ some. omega (arith, some, none)))
        (every-none (λ y x. is_lt (row_cmp keys y x) ≡ false) b.rest)

-- a part's source gives the first of its rows
pub part-front : (part : SourceRows) (o : Stream) → GivesSource part o
    → IsFront o (record { rows = part.rows; certain = part.valid; needs = true })
part-front part o p = grind arith
