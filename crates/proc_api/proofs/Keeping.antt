-- How what a box keeps goes on with what a `prepare` pulls and pushes.
use Rattle.proc_api.proofs.Imports.{All, All-head, All-tail, AllFit, AreFitting, BoxPicture, ColumnType, FitsInput, HasMade, HasReadEnough, IsOver, IsPulled, IsReadOut, IsWanting, KeepsMade, List, Lists, MakesTypes, NotesEnd, Option, OwnState, Picture, PulledOn, Reading, Row, Some, Spec, Table, [], arith, cases_lt, chunk_rows, file_of, flat_map-append, get_or-append-add, get_or_append_left, get_or_default, kept_output, last_count, length-append, no_table, own_of, pulled_at, raised, reading_of, refl, rows_pulled, subst, suc, total_rows, true, unworked_at, with_pulled, zero, ℕ, ◌++◌, ◌+◌, ◌<◌, ◌∙◌, ◌∷◌, ◌≡◌, ◌⊎◌}

-- ---- chunks that were pulled

pub pulled-more : (v w : Picture) (ins : Lists) (types : List ColumnType) → IsPulled ins types
    → IsPulled (with_pulled v w ins) types
pulled-more v w ins types h = grind (arith, length-append, get_or_append_left)

pub makes-more : (s : Option Spec) (v w : Picture) (ins : Lists) (types : List ColumnType)
    → MakesTypes s ins types → MakesTypes s (with_pulled v w ins) types
makes-more (Some Spec.Resize) v w ins types h = pulled-more v w ins types h
makes-more s v w ins types h = grind (arith, pulled-more)

-- what is true of all chunks of a longer list is true of its front
pub front-all : (P : Table → Type 0) (xs ys : List Table) → All P (xs ++ ys) → All P xs
front-all P xs ys h = λ k d lt. grind (arith, length-append, get_or_append_left)

-- the last of the longer list was pulled
pub pulled-last : (v w : Picture) (ins : Lists) (i : ℕ)
    → All (λ (t : Table). IsPulled (with_pulled v w ins) t.types) (pulled_at v w i)
pulled-last v w ins i = λ k d lt. grind (
  arith,
  length-append,
  get_or-append-add (ins i) (pulled_at v w i) k no_table,
  get_or_default (pulled_at v w i) k no_table d lt,
)

-- ---- chunks that fit

-- a chunk more that fits is one of those that fit, and one that doesn't isn't
pub fitting-more : (P : Table → Type 0) (chunks fit : List Table) (t : Table) → P t
    → AreFitting P chunks fit → AreFitting P (chunks ++ t ∷ []) (fit ++ t ∷ [])
fitting-more P [] fit t p h = grind arith
fitting-more P (c ∷ chunks) fit t p h = grind (arith, fitting-more P chunks)

pub fitting-past : (P : Table → Type 0) (chunks fit : List Table) (t : Table) → (P t → ⊥)
    → AreFitting P chunks fit → AreFitting P (chunks ++ t ∷ []) fit
fitting-past P (c ∷ chunks) [] t n h = (h.0, fitting-past P chunks [] t n h.1)
fitting-past P (c ∷ chunks) (u ∷ fit) t n h =
    search (arith, fitting-past P chunks fit t n, fitting-past P chunks (u ∷ fit) t n)
fitting-past P chunks fit t n h = grind arith

-- where all fit they are those that fit
pub all-fitting : (P : Table → Type 0) (chunks fit : List Table) → All P chunks
    → AreFitting P chunks fit → fit ≡ chunks
all-fitting P [] fit all h = h
all-fitting P (c ∷ chunks) fit all h =
    grind (arith, All-head P c chunks all, all-fitting P chunks, All-tail P c chunks all)

-- what is made of all chunks that were worked
pub record KeepsWorked (s : Spec) (p : BoxPicture) (ins outs : Lists) : Type 0 where
  pub worked : Lists
  pub ins_are : (i : ℕ) → ins i ≡ worked i ++ unworked_at p.work i
  pub rows : HasMade (reading_of p) s (own_of p.work) worked outs (chunk_rows p.work.made)
  pub over : (o : ℕ) → (kept_output p o).fin_out ≡ true → IsOver s p.work
  pub read : (o : ℕ) → (kept_output p o).fin_out ≡ true → IsReadOut s (file_of p)

-- it is made where each chunk that was pulled fits
pub worked-where-fit : (s : Spec) (p : BoxPicture) (ins outs : Lists) → AllFit (Some s) ins
    → KeepsMade s p ins outs → KeepsWorked s p ins outs
worked-where-fit s p ins outs all m =
    let P : ℕ → Table → Type 0 = λ i (t : Table). FitsInput (Some s) i t.types in
    let same : (i : ℕ) → m.fit i ≡ m.worked i = λ i.
    all-fitting (P i) (m.worked i) (m.fit i)
    (front-all (P i) (m.worked i) (unworked_at p.work i) (subst (All (P i)) (m.ins_are i) (all i)))
    (m.fit_are i) in
    record {
      worked = m.worked;
      ins_are = m.ins_are;
      rows = subst (λ (l : Lists).
          HasMade (reading_of p) s (own_of p.work) l outs (chunk_rows p.work.made))
          (λ z i. same i z) m.rows;
      over = m.over;
      read = m.read;
    }

-- a limit that asks for data hasn't read enough
pub wanting-not-enough : (s : Spec) (x : Reading) (own : OwnState) (worked fit outs : Lists)
    (wait : List Row) → ((i : ℕ) → AreFitting (λ (t : Table). FitsInput (Some s) i t.types)
    (worked i) (fit i)) → HasMade x s own fit outs wait → IsWanting (Some s) own.read
    → HasReadEnough (Some s) worked → ⊥
wanting-not-enough s x own worked fit outs wait are made wanting enough = grind (arith, all-fitting)

-- ---- counts

pub rows-append : (xs ys : List Table) → chunk_rows (xs ++ ys) ≡ chunk_rows xs ++ chunk_rows ys
rows-append xs ys = flat_map-append (λ (t : Table). t.rows) xs ys

pub total-append : (n : ℕ) (a b : Lists)
    → total_rows n (λ i. a i ++ b i) ≡ total_rows n a + total_rows n b
unfolding total_rows
total-append zero a b = refl
total-append (suc n) a b = search (arith, rows-append, length-append, total-append n a b)

pub total-none : (n : ℕ) (a : Lists) → ((i : ℕ) → i < n → a i ≡ []) → total_rows n a ≡ 0
unfolding total_rows
total-none zero a e = refl
total-none (suc n) a e = search (arith, total-none n a (λ i lt. e i (omega (arith, lt))))

pub total-nothing : (n : ℕ) (a : Lists) → ((i : ℕ) → a i ≡ []) → total_rows n a ≡ 0
total-nothing n a e = total-none n a (λ i lt. e i)

-- the count of pulled rows goes on with what a prepare pulls
pub counted-more : (p q : BoxPicture) (v w : Picture) (ins : Lists) → PulledOn p q → q.pulled
    ≡ raised p.pulled (rows_pulled v w) → (p.notes.pulled ≡ total_rows 32 ins) ⊎ (p.pulled
    ≡ last_count) → (q.notes.pulled ≡ total_rows 32 (with_pulled v w ins)) ⊎ (q.pulled ≡ last_count)
counted-more p q v w ins on e h =
    grind (arith, on.since, total-append 32 ins (pulled_at v w), cases_lt)

-- enough that was read stays enough
pub enough-more : (s : Option Spec) (v w : Picture) (ins : Lists) → HasReadEnough s ins
    → HasReadEnough s (with_pulled v w ins)
enough-more s v w ins h = grind (arith, rows-append, length-append)

-- a kind that notes an end never reads enough
pub never-enough : (s : Spec) (own : OwnState) (i : ℕ) (ins : Lists) → NotesEnd (Some s) own i
    → HasReadEnough (Some s) ins → ⊥
never-enough s own i ins n enough = grind arith
