-- The clauses of a source's calls.
use Rattle.csv_procs.proofs.Imports.{ArePartBytes, AreResized, Bool, BoxPicture, Err, Expands, Fails, FaultComes, FaultHolds, FaultInCall, FaultIsDue, Faults, Fetching, FileState, Growth, Held, IfErr, IfOk, IfSome, IsFile, IsLongFile, IsLongTold, IsRead, IsWholeFile, IsWorkOf, KeepsRows, KeepsSame, Kind, KnowsList, List, ListedPaths, Lists, MatchesReader, None, Notes, NotesEnd, OfPart, Ok, Option, OwnState, PartMatchesReader, PartSpec, Paths, Position, Prepared, ReaderState, ReaderView, ReadsList, ReadsPart, Result, RowCount, Rows, Schedules, Shut, Some, StandsBehind, Status, StaysAt, StepComes, StepsTo, ToldFiles, Wake, WakeComes, WorkFault, ap, arith, bad_line_in, bad_place, bad_place_in, chunk_rows, cond, csv_kind, cases_Bool, csv_spec, false, file_of, files_of, good_rows, growth_form, had-same, held_made, held_unworked, inl, inr, is_fetched, is_grown, is_opened, kept_input, kept_inputs, kept_output, kept_outputs, length, list_growth, list_uses, lists_in, loaded_seen, option_map, paths_of, refl, rows_if_some, shell_state, source_of, source_unmade, source_uses, sourcing, spec_growth, stage_in, subst, sym, true, with_answer, ℕ, ◌++◌, ◌+◌, ◌<◌, ◌∙◌, ◌≡◌, HasMade, IsReadOut, KeepsMade, own_of, reading_of}
use Rattle.csv_procs.proofs.HeldFiles.{told_as_pairs}
use Rattle.query_model.specs.declared.processor_spec.Spec.TheVariants as spec
use Rattle.proc_api.specs.declared.status.Wake.TheVariants as wake
use Rattle.proc_api.specs.declared.status.WorkFault.TheVariants as fault
use Rattle.csv_procs.proofs.Lists.{grown-keeps}

-- ---- what ties a source to its reader

false-true : {A : Type 0} → false ≡ true → A
false-true e = absurd (cc)

abbrev pub reads : ToldFiles → (f pd : ℕ) → Option ReaderView
reads told f pd = Some (record { files = option_map files_of told; faults = f; pendings = pd })

-- a source whose file is so far
abbrev source : ToldFiles → (f pd : ℕ) → RowCount → Bool → PartSpec → FileState → Held → Notes
    → BoxPicture
source told f pd count lists part' s h n =
    loaded_seen (csv_kind lists) (reads told f pd) count (shell_state (sourcing lists part' s) h n)

-- a bad place or line that is found is that of the file
pub fault-told : (told : ToldFiles) (position : Position) (f pd : ℕ) (k : Kind) (count : RowCount)
    (lists : Bool) (part' : PartSpec) (s : FileState) (h : Held) (n : Notes) → csv_kind lists ≡ k
    → MatchesReader told position lists part' (stage_in part' s) n.given n.pendings
    → (e : WorkFault) → Fails (sourcing lists part' s) e
    → FaultHolds (Some e)
    (loaded_seen k (reads told f pd) count (shell_state (sourcing lists part' s) h n))
fault-told told position f pd k count lists part' s h n of t fault.Memory y = tt
fault-told None position f pd k count lists part' s h n of t (fault.Bad place) y =
    (subst ReadsPart of y.0, tt)
fault-told None position f pd k count lists part' s h n of t (fault.BadList line) y =
    (subst ReadsList of y.0, tt)
fault-told (Some all) position f pd k count false part' (Rows r) h n of t (fault.Bad place) y =
    let read = t.read refl in (
      subst ReadsPart of y.0,
      ap (bad_place_in part'.header part'.types) (told_as_pairs all part'.path ∙ read.are)
          ∙ sym read.known ∙ y.1,
    )
fault-told (Some all) position f pd k count true part' (Paths l) h n of t (fault.BadList line) y =
    let read = t.read refl in (
      subst ReadsList of y.0,
      ap bad_line_in (told_as_pairs all part'.path ∙ read.are) ∙ sym read.known.1 ∙ y.1,
    )
fault-told (Some all) position f pd k count false part' s h n of t (fault.Bad place) y =
    absurd (let e = y.1 in cc)
fault-told (Some all) position f pd k count true part' s h n of t (fault.BadList line) y =
    absurd (let e = y.1 in cc)
fault-told told position f pd k count true part' s h n of t (fault.Bad place) y =
    absurd (let e = y.0 in cc)
fault-told told position f pd k count false part' s h n of t (fault.BadList line) y =
    absurd (let e = y.0 in cc)
fault-told told position f pd k count lists part' s h n of t e y = absurd y

-- a source without a fault matches its reader
pub tied-now : (told : ToldFiles) (position : Position) (lists : Bool) (part' : PartSpec)
    (s : FileState)
    (h : Held) (n : Notes)
    → PartMatchesReader told position (Some (shell_state (sourcing lists part' s) h n)) → n.fault
    ≡ None → MatchesReader told position lists part' (stage_in part' s) n.given n.pendings
tied-now told position false part' s h n tied faultless = tied faultless
tied-now told position true part' s h n tied faultless = tied faultless

told-bytes : (told : ToldFiles) (path bytes : List ℕ) → IsFile told path bytes
    → ArePartBytes (option_map files_of told) path bytes
told-bytes None path bytes e = tt
told-bytes (Some all) path bytes e = told_as_pairs all path ∙ e

of-part : (b : Bool) (part' : PartSpec) (X : PartSpec → Type 0) → X part'
    → OfPart (Some (csv_spec b part')) X
of-part false part' X x = x
of-part true part' X x = x

long-pairs : (told : ToldFiles) (b : Bool) (part' : PartSpec)
    → IsLongTold told part'.path 1073741824 → IfSome (option_map files_of told)
    (λ files. OfPart (Some (csv_spec b part')) (λ part. IsLongFile files part.path))
long-pairs None b part' x = tt
long-pairs (Some all) b part' x = of-part b part' _
    (record { bytes = x.bytes; are = told_as_pairs all part'.path ∙ x.are; long = x.long })

-- ---- schedule

-- a step of a source, which notes nothing of its view
module _ (d e : ReaderState) (count : RowCount) (lists : Bool) (part' : PartSpec) (h : Held)
    (n : Notes) (given faults pendings : ℕ) where
  abbrev told : ToldFiles
  told = d.files

  abbrev noted : Notes
  noted = record n { given = given; faults = faults; pendings = pendings }

  abbrev P : Bool → FileState → BoxPicture
  P b s = source told d.faults d.pendings count b part' s h n

  abbrev Q : Bool → FileState → Result Wake WorkFault → BoxPicture
  Q b s r = source told e.faults e.pendings count b part' s h (with_answer r noted)

  -- a file that isn't fetched whole isn't read out
  never-read : {X : Type 0} (b : Bool) (s : FileState) → is_fetched s ≡ false
      → IsReadOut (csv_spec b part') (file_of (P b s)) → X
  never-read false s none r = false-true (sym none ∙ r.fetched)
  never-read true s none r = false-true (sym none ∙ r.fetched)

  -- A step of a file that isn't fetched whole: no output was finished, so that what was made is all
  -- that is kept.
  step-made : (b : Bool) (s s' : FileState) (a : Wake) → is_fetched s ≡ false → (ins outs : Lists)
      → (t : KeepsMade (csv_spec b part') (P b s) ins outs)
      → HasMade (reading_of (Q b s' (Ok a))) (csv_spec b part') (own_of (Q b s' (Ok a)).work)
      t.fit outs (chunk_rows (held_made h))
      → KeepsMade (csv_spec b part') (Q b s' (Ok a)) ins outs
  unfolding kept_output
  step-made b s s' a none ins outs t rows = record {
    worked = t.worked;
    fit = t.fit;
    ins_are = t.ins_are;
    fit_are = t.fit_are;
    rows = rows;
    over = λ o fin. never-read b s none (t.read o fin);
    read = λ o fin. never-read b s none (t.read o fin);
  }

  -- no row is made before the file is fetched whole
  still-unread : (s : FileState) (held : List ℕ) (a : Wake) → is_fetched s ≡ false
      → (ins outs : Lists) → KeepsMade (spec.Csv part') (P false s) ins outs
      → KeepsMade (spec.Csv part') (Q false (Fetching held) (Ok a)) ins outs
  still-unread s held a none ins outs t =
      step-made false s (Fetching held) a none ins outs t (record {
        before = λ e. record {
          no_rows = (t.rows.before none).no_rows;
          nothing_unmade = refl;
          nothing_bad = refl;
        };
        fetched = λ e. absurd (cc);
      })

  -- a list that isn't fetched whole has passed on nothing, and what it knows then is of the file
  list-step : (s s' : FileState) (a : Wake) → is_fetched s ≡ false
      → source_unmade part'.types s ≡ source_unmade part'.types s'
      → KnowsList part' (option_map files_of told) (file_of (Q true s' (Ok a)))
      → (ins outs : Lists) → KeepsMade (spec.List part') (P true s) ins outs
      → KeepsMade (spec.List part') (Q true s' (Ok a)) ins outs
  list-step s s' a none same knows ins outs t = step-made true s s' a none ins outs t (record {
    knows = knows;
    resized = subst (λ l. AreResized t.fit outs (chunk_rows (held_made h) ++ l)) same
        t.rows.resized;
  })

  knows-nothing : (held : List ℕ) (a : Wake)
      → KnowsList part' (option_map files_of told) (file_of (Q true (Fetching held) (Ok a)))
  knows-nothing held a = record {
    before = λ e. record { no_paths = refl; no_bad_line = refl; ungrown = refl };
    read = λ e. absurd (cc);
    grown = tt;
  }

  knows-list : (l : ListedPaths) (a : Wake) → IsRead told true part' (Paths l)
      → KnowsList part' (option_map files_of told) (file_of (Q true (Paths l) (Ok a)))
  knows-list l a x = record {
    before = λ e. absurd (cc);
    read = λ e. record {
      text = x.bytes;
      are = told-bytes told part'.path x.bytes x.are;
      paths_are = x.whole.0;
      bad_line_is = x.whole.1;
    };
    grown = rw x.whole.2 tt;
  }

  step-rows : (b : Bool) (s s' : FileState) (a : Wake) → StepsTo told b part' s n s' noted a
      → (ins outs : Lists) → KeepsRows (Some (csv_spec b part')) (P b s) ins outs
      → KeepsRows (Some (csv_spec b part')) (Q b s' (Ok a)) ins outs
  step-rows false Shut (Fetching held) wake.Later x ins outs t =
      still-unread Shut held wake.Later refl ins outs t
  step-rows false (Fetching held) (Fetching grown) wake.Later x ins outs t =
      still-unread (Fetching held) grown wake.Later refl ins outs t
  step-rows false (Fetching held) (Rows r) wake.Ready x ins outs t =
      step-made false (Fetching held) (Rows r) wake.Ready refl ins outs t (record {
        before = λ e. absurd (cc);
        fetched = λ e. record {
          bytes = x.0.bytes;
          are = told-bytes told part'.path x.0.bytes x.0.are;
          rows_are =
              ap (λ l. l ++ good_rows part'.types r.rest) (t.rows.before refl).no_rows
              ∙ ap (good_rows part'.types) x.0.whole.0;
          bad = ap (λ c. bad_place (c + 1) part'.types r.rest) x.0.whole.1
              ∙ ap (bad_place 1 part'.types) x.0.whole.0;
        };
      })
  step-rows false (Fetching held) s' wake.Ready x ins outs t = absurd x.0.whole
  step-rows true Shut (Fetching held) wake.Later x ins outs t =
      list-step Shut (Fetching held) wake.Later refl refl (knows-nothing held wake.Later) ins outs t
  step-rows true (Fetching held) (Fetching grown) wake.Later x ins outs t =
      list-step (Fetching held) (Fetching grown) wake.Later refl refl
      (knows-nothing grown wake.Later) ins outs t
  step-rows true (Fetching held) (Paths l) wake.Ready x ins outs t =
      list-step (Fetching held) (Paths l) wake.Ready refl (sym (ap rows_if_some x.0.whole.3))
      (knows-list l wake.Ready x.0) ins outs t
  step-rows true (Fetching held) s' wake.Ready x ins outs t = absurd x.0.whole
  step-rows b s s' a x ins outs t = absurd x

  -- no end is noted
  notes-none : (b : Bool) (own : OwnState) (i : ℕ) → NotesEnd (Some (csv_spec b part')) own i → ⊥
  notes-none false own i y = y
  notes-none true own i y = y

  -- what a step reads, that it lets nothing grow, and what it wakes for
  whole-file : (b : Bool) (header : Bool) (bytes : List ℕ) (s : FileState)
      → IsWholeFile b header bytes s
      → (lists_in b s ≡ b) × (is_grown s ≡ false) × (is_fetched s ≡ true)
  whole-file false header bytes (Rows r) x = (refl, refl, refl)
  whole-file true header bytes (Paths l) x = (refl, x.2, refl)
  whole-file b header bytes s x = absurd x

  step-facts : (s s' : FileState) (a : Wake) → StepsTo told lists part' s n s' noted a
      → (lists_in lists s' ≡ lists) × ((Q lists s' (Ok a)).growth ≡ (P lists s).growth)
      × WakeComes a (P lists s) (Q lists s' (Ok a))
  step-facts Shut (Fetching held) wake.Later x =
      (refl, refl, inl (record { shut = refl; opened = refl; nothing = x }))
  step-facts (Fetching held) (Fetching grown) wake.Later x =
      (refl, refl, inr (record { opened = refl; within = x.within; some = x.some }))
  step-facts (Fetching held) s' wake.Ready x =
      let w = whole-file lists part'.header x.0.bytes s' x.0.whole in (
        w.0,
        ap (λ g. cond g (spec_growth (csv_spec lists part') (paths_of s')) None) w.1,
        record { opened = refl; unfetched = refl; fetched = w.2; nothing = x.1 },
      )
  step-facts s s' a x = absurd x

  step-opens : (s s' : FileState) (a : Wake) → StepsTo told lists part' s n s' noted a
      → is_opened s' ≡ true
  step-opens Shut (Fetching held) wake.Later x = refl
  step-opens (Fetching held) (Fetching grown) wake.Later x = refl
  step-opens (Fetching held) s' wake.Ready x = grind arith
  step-opens s s' a x = absurd x

  step-idle : (b : Bool) (s s' : FileState) (r : Result Wake WorkFault) → lists_in b s' ≡ b
      → IsWorkOf (Some (csv_spec b part')) (P b s).work
      → IsWorkOf (Some (csv_spec b part')) (Q b s' r).work
  step-idle false s s' r read idle = source_uses false part' s' read (source_of h)
      (held_unworked h) (held_made h) (inl (ap (λ w. w.source) idle, ap (λ w. w.unworked) idle))
  step-idle true s s' r read idle =
      list_uses part' s' read (source_of h) (held_unworked h) (held_made h)

  step-keeps : (s s' : FileState) (a : Wake) → StepsTo told lists part' s n s' noted a
      → KeepsSame (P lists s) (Q lists s' (Ok a))
  unfolding kept_input kept_output kept_inputs kept_outputs
  step-keeps s s' a x ins outs kept = record {
    ports = had-same n.view (P lists s) (Q lists s' (Ok a)) refl (step-facts s s' a x).1 kept.ports;
    opens = λ e. absurd (cc);
    idle = step-idle lists s s' (Ok a) (step-facts s s' a x).0 kept.idle;
    rows = step-rows lists s s' a x ins outs kept.rows;
    types = kept.types;
    made_types = kept.made_types;
    sizes = kept.sizes;
    made_sizes = kept.made_sizes;
    unworked = kept.unworked;
    counted = kept.counted;
    finishes = kept.finishes;
    closes = λ i fin. elim (kept.closes i fin) [
      | inl all ↦ inl (record { some = all.some; closed = all.closed })
      | inr enough ↦ inr enough
    ];
    noted = λ i there y. absurd (notes-none lists _ i y);
  }

  pub ok-of : (s s' : FileState) (r : Result Wake WorkFault) → n.fault ≡ None
      → StepComes r d e lists part' s s' n noted
      → IfOk r (λ a. Schedules a (P lists s) (Q lists s' r))
  ok-of s s' (Err f) faultless x = tt
  ok-of s s' (Ok a) faultless x = record {
    view = refl;
    fits = refl;
    answer = refl;
    not_acted = refl;
    growth = (step-facts s s' a x.0).1;
    not_handed_out = refl;
    faultless = faultless;
    keeps = λ lawful. step-keeps s s' a x.0;
    comes = λ lawful. (step-facts s s' a x.0).2;
  }

  -- where the reader stands after a step
  stands : (s : FileState) (a : Wake) → is_opened s ≡ true
      → MatchesReader told e.position lists part' (stage_in part' s) given pendings
      → StandsBehind (Q lists s (Ok a)) e.position part'
  stands s a opened m = elim (cases_Bool (is_fetched s)) [
    | inl all ↦ let read = m.read all in record {
      at = read.at ∙ ap (λ k. Some (part'.path, k)) (sym read.given_is);
      whole = λ _. (read.bytes, told-bytes told part'.path read.bytes read.are, sym read.given_is);
    }
    | inr more ↦ let front = m.front opened more in record {
      at = front.front.at ∙ ap (λ k. Some (part'.path, k)) (sym front.given_is);
      whole = λ all. false-true (sym more ∙ all);
    }
  ]

  pub placed-of : (s s' : FileState) (r : Result Wake WorkFault)
      → StepComes r d e lists part' s s' n noted
      → IfOk r (λ a. OfPart (Q lists s' r).spec (StandsBehind (Q lists s' r) e.position))
  placed-of s s' (Err f) x = tt
  placed-of s s' (Ok a) x = of-part lists part' (StandsBehind (Q lists s' (Ok a)) e.position)
      (stands s' a (step-opens s s' a x.0) x.1)

  stays-grown : (s s' : FileState) → StaysAt s s'
      → (Q lists s' (Err fault.Memory)).growth ≡ (P lists s).growth
  stays-grown (Paths l) (Paths l') x = ap (λ z. (P lists (Paths z)).growth) x
  stays-grown Shut Shut x = refl
  stays-grown (Fetching held) (Fetching kept) x = refl
  stays-grown (Rows r) (Rows r') x = refl
  stays-grown s s' x = absurd x

  -- what a fault tells
  told-by : (s s' : FileState) (f : WorkFault) → FaultComes f d e part' noted
      → FaultInCall f (P lists s) (Q lists s' (Err f)) × FaultHolds (Some f) (Q lists s' (Err f))
      × FaultIsDue (Some f) (Q lists s' (Err f))
  told-by s s' fault.Read x = (x.1, x.2, tt)
  told-by s s' fault.Memory x = (tt, tt, tt)
  told-by s s' fault.Stalled x = (tt, (let m = x.0 in omega (arith, m)), x.0)
  told-by s s' fault.TooLong x = (tt, x.1, long-pairs told lists part' x.2)
  told-by s s' f x = absurd x

  pub fault-of : (s s' : FileState) (r : Result Wake WorkFault)
      → StepComes r d e lists part' s s' n noted
      → IfErr r (λ f. Faults f (P lists s) (Q lists s' r))
  fault-of s s' (Ok a) x = tt
  fault-of s s' (Err f) x =
      let t = told-by s s' f x.0 in
      record {
        same = record {
          view = refl;
          fits = refl;
          answer = refl;
          growth = stays-grown s s' x.1;
          not_handed_out = refl;
        };
        kept = refl;
        in_call = t.0;
        holds = t.1;
        is_due = λ lawful. t.2;
      }

-- ---- expand

-- a valid list that names a path grows by its paths
module _ (told : ToldFiles) (position : Position) (f pd : ℕ) (count : RowCount) (list : PartSpec)
    (h : Held) (n : Notes) (g : Growth) (asks : n.answer ≡ Some (Prepared Status.ExpandPipeline))
    (faultless : n.fault ≡ None) where
  abbrev Had : Bool → FileState → BoxPicture
  Had b s = source told f pd count b list s h n

  abbrev Has : Bool → FileState → BoxPicture
  Has b s = source told f pd count b list s h (record n { acted = true })

  abbrev Ties : Bool → FileState → Type 0
  Ties b s = MatchesReader told position b list (stage_in list s) n.given n.pendings

  pub by-paths : (l : ListedPaths) → l.bad_line ≡ None → l.grown ≡ false → 0 < length l.paths
      → growth_form g ≡ list_growth list l.paths → Ties true (Paths l)
      → Expands g (Had true (Paths l)) (Has true (Paths (record l { grown = true })))
  by-paths l valid ungrown names is tied = record {
    view = refl;
    fits = refl;
    answer = refl;
    acted = refl;
    growth = ap Some (sym is);
    grows = λ lawful.
        let read = tied.read refl in
        record {
          text = read.bytes;
          are = told-bytes told list.path read.bytes read.are;
          valid = sym read.known.1 ∙ valid;
          names_path = subst (λ l. 0 < length l) read.known.0 names;
          is = ap (list_growth list) read.known.0;
        };
    not_handed_out = refl;
    faultless = faultless;
    keeps = λ lawful. grown-keeps list (Had true (Paths l)) refl asks
        (ap (λ b. cond b (Some (list_growth list l.paths)) None) ungrown) refl;
  }
