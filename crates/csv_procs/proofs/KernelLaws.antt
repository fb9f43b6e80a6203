-- What the kernel of a source offers, works and makes, be it of a part or of a list.
use Rattle.csv_procs.proofs.Imports.{ArePortsOf, AreResized, Begins, Bool, ColumnType, Fetching, FileState, GivesLeft, IfSome, IsNextOfList, IsNextOfSource, IsSome, IsSourceKind, IsSpecOf, IsValid, List, ListedPaths, Makes, None, Offer, OfferComes, Offers, Option, PartSpec, Paths, Picture, Reads, Row, Rows, RowsLeft, Shut, Some, Spec, Table, Takes, TakesRows, [], ap, append-nil, append_assoc, arith, at_end, bad_place, chunk_rows, cond, csv_kind, csv_spec, eq-eqb, eqb-true, false, good_rows, grown_inputs, growth_in, in_count, inl, inputs_in, inr, kind_of, leaves-same, left_rows, length, length-append, list_growth, lists_in, makes-nothing, max, nil_from_length, open_in, out_count, refl, resized-nothing, resized-takes, row_then, sourcing, spelled_row, stage_in, subst, sym, true, types_or, with_chunk, ℕ, ◌++◌, ◌+◌, ◌<◌, ◌∙◌, ◌∷◌, ◌≡◌, ◌⊎◌}
use Rattle.query_model.specs.declared.processor_spec.Spec.TheVariants as spec
use Rattle.proc_shell.specs.declared.kernel.Offer.TheVariants as offer
use Rattle.csv_procs.proofs.GrowthLaws.{edges-count}

pub cast : (A B : Type 0) → A ≡ B → A → B
cast A B e a = subst (λ (T : Type 0). T) e a

-- ---- ports

grown-count : (b : Bool) (list : PartSpec) (paths : List (List ℕ))
    → grown_inputs (cond b (Some (list_growth list paths)) None) ≡ cond b (length paths) 0
grown-count true list paths = edges-count 0 paths
grown-count false list paths = refl

-- where it has grown, or names no path, each path has its input
grown-all : (b : Bool) (list : PartSpec) (paths : List (List ℕ))
    → (b ≡ true) ⊎ (length paths ≡ 0)
    → grown_inputs (cond b (Some (list_growth list paths)) None) ≡ length paths
grown-all true list paths why = edges-count 0 paths
grown-all false list paths (inl e) = absurd (cc)
grown-all false list paths (inr none) = sym none

-- the ports are the inputs that it has, and one output
pub ports-are : (lists : Bool) (part : PartSpec) (s : FileState) → lists_in lists s ≡ lists
    → (m n : ℕ) → ArePortsOf (Some (csv_spec lists part)) (growth_in (csv_spec lists part)
    (stage_in part s)) m n ≡ ((m ≡ inputs_in s) × (n ≡ 1))
ports-are false part Shut read m n = refl
ports-are false part (Fetching held) read m n = refl
ports-are false part (Rows r) read m n = refl
ports-are false part (Paths l) read m n = absurd (cc)
ports-are true list Shut read m n = refl
ports-are true list (Fetching held) read m n = refl
ports-are true list (Rows r) read m n = absurd (cc)
ports-are true list (Paths l) read m n =
    ap (λ k. (m ≡ k) × (n ≡ 1)) (grown-count l.grown list l.paths)

-- ---- begin

pub source-begins : (lists : Bool) (s : Spec) (part : PartSpec) → kind_of s ≡ csv_kind lists
    → IsSpecOf s part → Begins s (csv_spec lists part) (sourcing lists part Shut).own
source-begins false s part k (inl e) = record {
  spec = sym e;
  nothing = λ files. rw e
      (record {
        before = λ e. record { no_rows = refl; nothing_unmade = refl; nothing_bad = refl };
        fetched = λ e. absurd (cc);
      });
  unended = λ i n. n;
}
source-begins true s list k (inr e) = record {
  spec = sym e;
  nothing = λ files. rw e (record {
    knows = record {
      before = λ e. record { no_paths = refl; no_bad_line = refl; ungrown = refl };
      read = λ e. absurd (cc);
      grown = tt;
    };
    resized = resized-nothing;
  });
  unended = λ i n. n;
}
source-begins false s part k (inr e) = absurd (let x = sym k ∙ ap kind_of e in cc)
source-begins true s part k (inl e) = absurd (let x = sym k ∙ ap kind_of e in cc)

-- ---- the rows of a part

-- where a record is left, it is a good row, or the bad place
left-ready : (types : List ColumnType) (n : ℕ) (rest : List (List (List ℕ)))
    → at_end rest ≡ false
    → (0 < length (good_rows types rest)) ⊎ IsSome (bad_place n types rest)
unfolding good_rows bad_place
left-ready types n [] e = absurd (cc)
left-ready types n (fields ∷ more) e = go (spelled_row types fields) refl
  where
    go : (o : Option Row) → spelled_row types fields ≡ o
        → (0 < length (row_then (spelled_row types fields) (good_rows types more)))
        ⊎ IsSome (bad_place n types (fields ∷ more))
    go None e = inr (rw e refl)
    go (Some row) e = inl (rw e (omega arith))

-- where none is left, nothing is unmade, and the part is valid
over-made : (types : List ColumnType) (n : ℕ) (rest : List (List (List ℕ))) → at_end rest ≡ true
    → (good_rows types rest ≡ []) × (bad_place n types rest ≡ None)
unfolding good_rows bad_place
over-made types n [] e = (refl, refl)
over-made types n (fields ∷ more) e = absurd (cc)

module _ (part : PartSpec) (r : RowsLeft) where
  rows-reads : (b : Bool) → at_end r.rest ≡ b
      → Reads (sourcing false part (Rows r)) (cond b offer.Wants offer.Record)
  rows-reads true e =
      record { fetched = refl; valid = (over-made part.types (r.count + 1) r.rest e).1 }
  rows-reads false e = elim (left-ready part.types (r.count + 1) r.rest e) [
    | inl row ↦ inl row
    | inr bad ↦ inr (inl (refl, bad))
  ]

  rows-come : (b : Bool) (v : Picture) → at_end r.rest ≡ b → in_count v ≡ 0
      → OfferComes (λ i. false) (cond b offer.Wants offer.Record) (spec.Csv part) v
      (sourcing false part (Rows r)).own
  rows-come true v e none = record {
    nothing = (over-made part.types 1 r.rest e).0;
    wanting = tt;
    all_over = λ over i lt. absurd (omega (arith, none, lt));
    noted = λ over. tt;
  }
  rows-come false v e none = tt

  pub makes-end : at_end r.rest ≡ true
      → Makes (spec.Csv part) (sourcing false part (Rows r)).own
      (sourcing false part (Rows r)).own None × IsValid (sourcing false part (Rows r)) None
  makes-end e = (
    makes-nothing (spec.Csv part) (sourcing false part (Rows r)).own
        (over-made part.types 1 r.rest e).0,
    inr ((over-made part.types (r.count + 1) r.rest e).1, refl),
  )

  pub makes-chunk : (r' : RowsLeft) (c : Table) → at_end r.rest ≡ false → c.types ≡ part.types
      → TakesRows part.types r r' c.rows (max part.rows 1)
      → Makes (spec.Csv part) (sourcing false part (Rows r)).own
      (sourcing false part (Rows r')).own (Some c)
  makes-chunk r' c left types x =
      let some = x.some left (omega arith) in
      let m = length-append c.rows (good_rows part.types r'.rest) in
      record {
        means = λ y worked outs h. record {
          before = λ e. absurd (let b = h.before e in
              let l = ap length (sym x.good ∙ b.nothing_unmade) in
              omega (arith, l, m, some));
          fetched = λ e.
              let a = h.fetched e in
              record {
                bytes = a.bytes;
                are = a.are;
                rows_are = append_assoc (chunk_rows (outs 0)) c.rows (good_rows part.types r'.rest)
                    ∙ ap (λ l. chunk_rows (outs 0) ++ l) (sym x.good)
                    ∙ ap (λ l. l ++ good_rows part.types r.rest)
                    (sym (append-nil (chunk_rows (outs 0)))) ∙ a.rows_are;
                bad = a.bad;
              };
        };
        types = λ ins. types;
        sizes = x.within;
        progress = inl some;
        nothing = λ n. absurd (let l = ap length (sym x.good ∙ n) in omega (arith, l, m, some));
        ends = λ i n. n;
      }

-- ---- the chunks of a list

of-types : (types : List ColumnType) (o : Option Table) → types_or types o ≡ types
    → IfSome o (λ (c : Table). c.types ≡ types)
of-types types None e = tt
of-types types (Some t) e = e

module _ (list : PartSpec) (l : ListedPaths) where
  list-reads : (o : Offer) → IsNextOfList l o → Reads (sourcing true list (Paths l)) o
  list-reads offer.Record x = inr (inr (refl, x))
  list-reads offer.Rows x = tt
  list-reads offer.Grow x = record {
    list = refl;
    ungrown = ap (λ b. cond b (Some (list_growth list l.paths)) None) x.1;
    names_path = x.2;
  }
  list-reads offer.Wants x =
      record { fetched = refl; valid = x.0.valid; inputs = grown-all l.grown list l.paths x.1 }
  list-reads o x = absurd x

  list-comes : (v : Picture) (o : Offer) → IsNextOfList l o
      → (in_count v ≡ inputs_in (Paths l)) × (out_count v ≡ 1)
      → OfferComes (λ i. open_in (Paths l)) o (spec.List list) v (sourcing true list (Paths l)).own
  list-comes v offer.Record x ports = tt
  list-comes v offer.Rows x ports = x.1
  list-comes v offer.Grow x ports =
      (ports.0 ∙ ap (λ b. cond b (length l.paths) 0) x.1, ports.1)
  list-comes v offer.Wants x ports = record {
    nothing = nil_from_length (left_rows l) x.0.nothing_left;
    wanting = tt;
    all_over = λ over i lt. over i lt (eq-eqb (length (left_rows l)) 0 x.0.nothing_left);
    noted = λ over. tt;
  }
  list-comes v o x ports = absurd x

  -- a chunk that fits is left, and its first rows are given
  pub takes-list : (l' : ListedPaths) (i : ℕ) (t : Table) (o : Option Table) → i < 32
      → t.types ≡ list.types → GivesLeft (max list.rows 1) (Some t) l'.left o
      → open_in (Paths l) ≡ true
      → Takes (spec.List list) (sourcing true list (Paths l)).own i t
      (sourcing true list (Paths l')).own o
  takes-list l' i t o lt fit g wanted = record {
    means = λ x fits worked outs h. record {
      knows = h.knows;
      resized = subst (AreResized (with_chunk i t worked) outs) g.rows
          (resized-takes worked outs i t lt (subst (AreResized worked outs)
          (nil_from_length (left_rows l) (eqb-true (length (left_rows l)) 0 wanted)) h.resized));
    };
    fits = inl fit;
    types = λ ins pulled. of-types list.types o (g.types list.types fit).0;
    sizes = g.within;
    ends = λ i n. n;
  }

-- ---- offer

pub reads-file : (lists : Bool) → IsSourceKind (csv_kind lists)
reads-file false = tt
reads-file true = tt

pub next-reads : (lists : Bool) (part : PartSpec) (s : FileState) → lists_in lists s ≡ lists
    → (o : Offer) → IsNextOfSource s o → Reads (sourcing lists part s) o
next-reads lists part Shut read o e = rw e (reads-file lists, refl)
next-reads lists part (Fetching held) read o e = rw e (reads-file lists, refl)
next-reads false part (Rows r) read o e = rw e (rows-reads part r (at_end r.rest) refl)
next-reads true part (Rows r) read o e = absurd (cc)
next-reads false list (Paths l) read o x = absurd (cc)
next-reads true list (Paths l) read o x = list-reads list l o x

next-comes : (lists : Bool) (part : PartSpec) (s : FileState) → lists_in lists s ≡ lists
    → (v : Picture) (o : Offer) → IsNextOfSource s o → (in_count v ≡ inputs_in s)
    × (out_count v ≡ 1) → OfferComes (λ i. open_in s) o (csv_spec lists part) v
    (sourcing lists part s).own
next-comes lists part Shut read v o e ports = rw e tt
next-comes lists part (Fetching held) read v o e ports = rw e tt
next-comes false part (Rows r) read v o e ports =
    rw e (rows-come part r (at_end r.rest) v refl ports.0)
next-comes true part (Rows r) read v o e ports = absurd (cc)
next-comes false list (Paths l) read v o x ports = absurd (cc)
next-comes true list (Paths l) read v o x ports = list-comes list l v o x ports

pub next-offers : (lists : Bool) (part : PartSpec) (s : FileState) → lists_in lists s ≡ lists
    → (v : Picture) (o : Offer) → IsNextOfSource s o → (in_count v ≡ inputs_in s)
    × (out_count v ≡ 1) → Offers (λ i. open_in s) (csv_spec lists part) v
    (sourcing lists part s).own (sourcing lists part s).own o
next-offers lists part s read v o x ports = record {
  leaves = leaves-same (csv_spec lists part) (sourcing lists part s).own;
  comes = next-comes lists part s read v o x ports;
  ends = λ i lt n. inl n;
}
