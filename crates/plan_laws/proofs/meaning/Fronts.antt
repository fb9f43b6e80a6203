-- What was pulled is the first of what could pass.
use Rattle.plan_laws.proofs.Imports.{IsPermutation, IsSorted, List, [], arith, false, inl, inr, is_lt, length, refl, sym, true, ◌++◌, ◌<◌, ◌∙◌, ◌∷◌, ◌≡◌, AllByRecursion, AllZip, InOrder, IsBeforeNone, IsPermutation-append_comm, IsPermutation-append_left, IsPermutation-append_right, IsPermutation-refl, IsPermutation-same, IsPermutation-trans, Row, SortKey, and_from, and_parts, append-nil, append_assoc, append_cancel_left, cases_lt, every-append, every-contains, every-weaker, length-append, or_left, or_right, order-cross, order-from_sorted, row_cmp, rows-ordered, Flow, Stream, all_certain, all_done, rows_together, any_needs, flow_rows, stream_rows, HoldsBack, IsFront, Pulls}

pub pulled-front : (i s : Stream) (f : Flow) → Pulls i s → IsFront s f → IsFront i f
pulled-front i s f p h = search (arith, append_assoc, length-append)

pub certain-inputs : (ins : List Stream) (fs : List Flow) → AllZip IsFront ins fs
    → all_done ins ≡ true → all_certain fs ≡ true
certain-inputs (i ∷ ins) (f ∷ fs) h e =
    grind (arith, and_parts, and_from, certain-inputs ins fs h.1)
certain-inputs ins fs h e = grind arith

-- where a row passed, what one of them needs is there
pub needed-inputs : (ins : List Stream) (fs : List Flow) → AllZip IsFront ins fs
    → 0 < length (rows_together (stream_rows ins)) → any_needs fs ≡ true
needed-inputs (i ∷ ins) (f ∷ fs) h some =
    grind (arith, cases_lt, or_left, or_right, length-append, needed-inputs ins fs h.1)
needed-inputs ins fs h some = grind arith

-- the rows that are yet to pass at some ports
pub record Behind (ins : List Stream) (fs : List Flow) : Type 0 where
  pub rest : List Row
  pub are : IsPermutation (rows_together (flow_rows fs)) (rows_together (stream_rows ins) ++ rest)
  pub none : all_done ins ≡ true → rest ≡ []
  -- none of them comes before a row that all inputs hold back
  pub later : (keys : List SortKey) (out : List Row)
      → AllByRecursion (λ (f : Flow). IsSorted (row_cmp keys) f.rows) fs
      → AllByRecursion (HoldsBack keys out) ins
      → AllByRecursion (λ y. IsBeforeNone keys y out) rest

pub no-rest : (xs rest ys : List Row) → xs ++ rest ≡ ys → xs ≡ ys → rest ≡ []
no-rest xs rest ys e same = append_cancel_left xs rest [] (e ∙ sym same ∙ sym (append-nil xs))

-- two lists and their rests, in pairs
pub pairs_of_appends : {X : Type 0} (a b c d : List X)
    → IsPermutation ((a ++ b) ++ (c ++ d)) ((a ++ c) ++ (b ++ d))
pairs_of_appends a b c d = rw (append_assoc a b (c ++ d), append_assoc a c (b ++ d))
    (IsPermutation-append_right a _ _
    (IsPermutation-trans _ _ _ (IsPermutation-same _ _ (sym (append_assoc b c d)))
    (IsPermutation-trans _ _ _ (IsPermutation-append_left d _ _ (IsPermutation-append_comm b c))
    (IsPermutation-same _ _ (append_assoc c b d)))))

-- one input's rest, where the input holds the rows back
later-rest : (keys : List SortKey) (out : List Row) (i : Stream) (f : Flow) (h : IsFront i f)
    → IsSorted (row_cmp keys) f.rows → HoldsBack keys out i
    → AllByRecursion (λ y. IsBeforeNone keys y out) h.rest
later-rest keys out i f h sorted (inl done) = search (arith, no-rest)
later-rest keys out i f h sorted (inr w) =
    let lt = (λ (a b : Row). is_lt (row_cmp keys a b)) in
    let o = rows-ordered keys in
    let whole : InOrder lt (i.rows ++ h.rest) = grind (arith, order-from_sorted) in
    let behind_last = every-contains (λ x. AllByRecursion (λ y. lt y x ≡ false) h.rest) i.rows w.0
    (order-cross lt o i.rows h.rest whole) w.1 in
    every-weaker (λ y. lt y w.0 ≡ false) (λ y. AllByRecursion (λ x. lt y x ≡ false) out)
    (λ y e. every-weaker (λ x. lt w.0 x ≡ false) (λ x. lt y x ≡ false) (λ x k. o.chain y w.0 x e k)
    out w.2) h.rest behind_last

pub behind : (ins : List Stream) (fs : List Flow) → AllZip IsFront ins fs → Behind ins fs
behind [] [] h = record {
  rest = [];
  are = IsPermutation-refl [];
  none = λ e. refl;
  later = λ keys out s b. tt;
}
behind (i ∷ ins) (f ∷ fs) h =
    let more : Behind ins fs = behind ins fs h.1 in
    record {
      rest = h.0.rest ++ more.rest;
      are = rw h.0.is at (IsPermutation-trans _ _ _ (IsPermutation-append_right (i.rows ++ h.0.rest)
          _ _ more.are) (pairs_of_appends i.rows h.0.rest (rows_together (stream_rows ins))
          more.rest));
      none = grind (arith, and_parts, no-rest);
      later = λ keys out s b. every-append
          (λ y. IsBeforeNone keys y out) h.0.rest more.rest
          (later-rest keys out i f h.0 s.0 b.0) (more.later keys out s.1 b.1);
    }
behind ins fs h = absurd h
