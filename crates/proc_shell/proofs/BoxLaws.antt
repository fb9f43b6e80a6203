-- The clauses of the calls of a shell, from what its kernel and its notes do.
use Rattle.proc_shell.proofs.Imports.{files_by, cases_eq, All, All-cons, All-nil, AnswerComes, AreFitting, Bool, BoxPicture, Continues, Err, Fails, FaultHolds, Faults, FitsInput, FollowsKept, HasSize, HasSpecPorts, Held, IfErr, IfSome, IsAtMost, IsBegun, IsKernelOf, IsLoadRefused, IsPulled, IsRunning, IsShelled, IsValid, IsWorkOf, Keeps, KeepsLimits, KeepsMade, KernelState, Kind, List, Lists, LoadedShell, Loads, Made, Makes, MakesTypes, Means, Moves, None, Notes, NotesNoEnd, Nothing, Ok, OnOk, Option, OwnState, Passes, Picture, PreparesLawfully, Progresses, ReaderView, Result, RowCount, ShellFails, ShellPrepares, ShellWorks, ShutsShell, Some, Spec, Status, StatusComes, Table, Takes, Unworked, WorkFault, Works, WorksHeld, [], ap, append-nil, arith, both-same, changed-by-both, chunk_rows, common_steps, false, fitting-more, fitting-past, held_made, held_option, held_unworked, in_count, inl, inr, is_some, is_wanted, kept_input, kept_inputs, kept_output, kept_outputs, kind_of, length, loaded_seen, most_rows, no_lists, no_table, none-pulled, noted_by, option_map, out_count, own_of, pulled_at, reading_of, refl, rows_if_some, rows_pulled, shell_seen, shell_state, source_of, subst, sym, total-nothing, total_rows, true, unworked_at, with_chunk, with_view, work_of, ℕ, ◌++◌, ◌+◌, ◌<◌, ◌==◌, ◌∙◌, ◌≡◌, ◌≢◌, ◌≤◌, ◌⊎◌, HasMade}
use Rattle.proc_api.specs.declared.status.Status.TheVariants as status
use Rattle.proc_api.specs.declared.status.LoadRefusal.TheVariants as refusal
use Rattle.proc_shell.proofs.PortMoves.{never-true, shut-law, total-one}
use Rattle.proc_shell.proofs.KeepLaws.{all-none, cond-none, end-own, had-same, keeps-over, made-hidden, made-shown, noted-own, pulled-so, stops}
use Rattle.proc_shell.proofs.Through.{chunk-elsewhere, chunk-here}

-- ---- a chunk that can be pushed

-- it is held where it has rows, and else nothing is
pub by-rows : (P : Held → Type 0) (t : Table) → (t.rows ≡ [] → P Nothing)
    → (0 < length t.rows → P (Made t)) → P (held_option (Some t))
by-rows P t none some = grind (arith, common_steps)

held-rows : (o : Option Table) → chunk_rows (held_made (held_option o)) ≡ rows_if_some o
held-rows o = grind (arith, common_steps, by-rows, append-nil)

pub held-worked : (o : Option Table) → held_unworked (held_option o) ≡ []
held-worked o = grind (arith, common_steps, by-rows)

pub held-source : (o : Option Table) → source_of (held_option o) ≡ 0
held-source o = grind (arith, common_steps, by-rows)

-- what is made has rows, and what is true of what came is true of it
held-all : (R : Table → Type 0) (o : Option Table) → IfSome o R
    → All (λ (t : Table). (0 < length t.rows) × R t) (held_made (held_option o))
held-all R o h = grind (arith, common_steps, All-nil, by-rows, All-cons)

-- a kind that makes none holds none
pub wanted-made : (wants : ℕ → Bool) (makes : Bool) (h : Held) → is_wanted wants makes h ≡ true
    → makes ≡ false → held_made h ≡ []
wanted-made wants makes h e f = grind (arith, common_steps, never-true)

-- a kernel of the same kind and spec that holds what it wanted
pub continues-so : (k : Kind) (x y : KernelState) (wants : ℕ → Bool) (makes : Bool) (h : Held)
    → IsKernelOf x y → (x.kind ≡ k) × (kind_of x.spec ≡ k) → IsShelled x.spec
    → ((i : ℕ) (unworked made : List Table) → ((i ≡ 0) × (unworked ≡ [])) ⊎ (wants i ≡ true)
    → (makes ≡ false → made ≡ []) → IsWorkOf (Some y.spec) (work_of y i unworked made))
    → is_wanted wants makes h ≡ true → Continues k x y h
continues-so k x y wants makes h same kind shelled uses wanted =
    grind (arith, common_steps, wanted-made)

-- ---- load

pub none-mapped : {A : Type 0} {B : Type 0} (f : A → B) (o : Option A) → is_some o ≡ false
    → is_some (option_map f o) ≡ false
none-mapped f o e = grind (arith, common_steps)

-- a blank box that was given another kind's spec, or a spec of its kind
pub wrong-kind : (k : Kind) (d : Option ReaderView) (count : RowCount) (o : Option LoadedShell)
    (s : Spec) → is_some o ≡ false → kind_of s ≢ k
    → IsLoadRefused refusal.WrongKind (shell_seen k d count o) s
wrong-kind k d count o s none h = grind (arith, common_steps)

noted-none : (d : Option ReaderView) → noted_by d 0 ≡ 0
noted-none d = grind (arith, common_steps)

module _ (k : Kind) (d : Option ReaderView) (count : RowCount) (s : Spec) (p : LoadedShell)
    (x : IsBegun s p) (since : count.since ≡ 0) where
  abbrev F : BoxPicture
  F = loaded_seen k d count p

  fresh-meant : KeepsMade p.kernel.spec F no_lists no_lists
  unfolding kept_output
  fresh-meant = record {
    worked = no_lists;
    fit = no_lists;
    fit_are = λ i. refl;
    ins_are = grind (arith, cond-none);
    rows = grind (arith, common_steps, made-shown, x.begins.nothing (files_by d));
    over = λ o fin. let f : false ≡ true = rw x.notes at fin in absurd (cc);
    read = λ o fin. let f : false ≡ true = rw x.notes at fin in absurd (cc);
  }

  fresh-keeps : Keeps F no_lists no_lists
  unfolding kept_output kept_input total_rows
  fresh-keeps = record {
    ports = rw x.notes tt;
    opens = grind arith;
    idle = x.uses;
    rows = fresh-meant;
    types = λ o. All-nil (λ (t : Table). MakesTypes (Some p.kernel.spec) no_lists t.types);
    made_types = grind arith;
    sizes = λ o. All-nil (HasSize (Some p.kernel.spec));
    made_sizes = grind arith;
    unworked = grind arith;
    counted = inl since;
    finishes = λ o fin. let f : false ≡ true = rw x.notes at fin in absurd (cc);
    closes = λ i fin. let f : false ≡ true = rw x.notes at fin in absurd (cc);
    noted = λ i there n. absurd (x.begins.unended i (noted-own _ p.kernel.own _ _ i n));
  }

-- a blank shell that was loaded
pub loads : (k : Kind) (d : Option ReaderView) (count more : RowCount) (o : Option LoadedShell)
    (s : Spec) (p : LoadedShell) → is_some o ≡ false → kind_of s ≡ k → IsBegun s p → more ≡ record {
      total = count.total;
      since = 0;
    } → Loads (shell_seen k d count o) s (loaded_seen k d more p)
loads k d count more o s p none sk x m =
    grind (arith, common_steps, noted-none d, fresh-keeps k d more s p x)

-- ---- prepare

-- the rows that a turn pulled are those that are unworked now and weren't before
pub rows-turned : (x : KernelState) (h j : Held) (v w : Picture) (st : Status) → in_count v ≤ 32
    → Moves x h j v w st → length (chunk_rows (held_unworked j))
    ≡ length (chunk_rows (held_unworked h)) + rows_pulled v w
rows-turned x h j v w st few y = elim y.pulls [
  | inl z ↦ grind (arith, total-nothing)
  | inr z ↦ grind (
    arith,
    common_steps,
    total-one 32 z.input (pulled_at v w) (omega (arith, z.in_range, few)) z.others,
  )
]

-- a prepare leaves what is counted of its reader
pub limits-stay : (k : Kind) (d : Option ReaderView) (p q : LoadedShell) (n m : RowCount)
    (w : Picture) (st : Status) (fits : Bool) → IsKernelOf p.kernel q.kernel
    → q.notes ≡ with_view w st (record p.notes { fits = fits }) → p.notes.fault ≡ None
    → KeepsLimits (loaded_seen k d n p) (loaded_seen k d m q)
limits-stay k d p q n m w st fits kernel notes faultless = grind (arith, common_steps)

-- a prepare after which the kernel has the state b
module _ (k : Kind) (d : Option ReaderView) (p : LoadedShell) (b : OwnState) (j : Held)
    (notes : Notes) (n m : RowCount) (v w : Picture) (st : Status)
    (so : Continues k p.kernel (record p.kernel { own = b }) j) where
  abbrev after : BoxPicture
  after = loaded_seen k d m (shell_state (record p.kernel { own = b }) j notes)

  abbrev before : BoxPicture
  before = loaded_seen k d n p

  abbrev PassesHere : Type 0
  PassesHere = Passes p v n (shell_state (record p.kernel { own = b }) j notes) w m st

  may-come : (u : Status) → AnswerComes u (record p.kernel { own = b }) j w → StatusComes u after
  may-come u e = grind arith

  prepares-fit : out_count v ≤ 16 → HasSpecPorts p.kernel v → PassesHere
      → FollowsKept before v → IsRunning before → PreparesLawfully before v after w st
  prepares-fit few ports x f run =
      let y = x.turns.moves in
      record {
        law = y.law;
        comes = may-come st y.comes;
        pulled = pulled-so p.held x.held v x.view w n m x.pushes x.counts;
        limits = limits-stay k d p (shell_state (record p.kernel { own = b }) j notes) n m w st
            p.notes.fits refl x.notes run.faultless;
        fits = λ fit. ap (λ z. z.fits) x.notes ∙ fit.fits;
        keeps = keeps-over k d p.kernel b p.held j p.notes notes n m v w st so x few ports f;
        stops = stops k d p.kernel b p.held j p.notes notes n m v w st so x few ports f;
        ends = λ some each. grind (arith, both-same);
        pushes = grind arith;
        room = y.room;
        misfit = λ never. absurd (never ports);
      }

  prepares-misfit : (HasSpecPorts p.kernel v → ⊥)
      → ShutsShell p v n (shell_state (record p.kernel { own = b }) j notes) w m st
      → IsRunning before → PreparesLawfully before v after w st
  prepares-misfit never x run =
      grind (arith, common_steps, total-nothing, none-pulled, shut-law, limits-stay, never-true)

-- a prepare that takes one turn
pub passes-once : (k : Kind) (p q : LoadedShell) (n m : RowCount) (v w : Picture) (st : Status)
    → Continues k p.kernel q.kernel q.held → out_count v ≤ 16 → HasSpecPorts p.kernel v
    → Passes p v n q w m st → ShellPrepares k p v n q w m st
passes-once k p q n m v w st so few ports x = record {
  continues = so;
  changed = changed-by-both v x.view w x.pushes.changed x.turns.moves.changed;
  grows = x.counts.grows;
  since = x.counts.since;
  fits = p.notes.fits;
  notes = x.notes;
  lawful = λ d run f.
      subst (λ z. Continues k p.kernel z q.held → Passes p v n (shell_state z q.held q.notes) w m st
      → PreparesLawfully (loaded_seen k d n p) v (loaded_seen k d m (shell_state z q.held q.notes))
      w st) (sym so.kernel) (λ so x. prepares-fit _ _ _ _ _ _ _ _ _ _ _ so few ports x f run) so x;
}

-- a prepare over a view with other ports
pub shuts-once : (k : Kind) (p q : LoadedShell) (n m : RowCount) (v w : Picture) (st : Status)
    → Continues k p.kernel q.kernel q.held → (HasSpecPorts p.kernel v → ⊥)
    → ShutsShell p v n q w m st → ShellPrepares k p v n q w m st
shuts-once k p q n m v w st so never x = record {
  continues = so;
  changed = x.changed;
  grows = x.counts.grows;
  since = x.counts.since;
  fits = false;
  notes = x.notes;
  lawful = λ d run f.
      subst (λ z. Continues k p.kernel z q.held
      → ShutsShell p v n (shell_state z q.held q.notes) w m st
      → PreparesLawfully (loaded_seen k d n p) v (loaded_seen k d m (shell_state z q.held q.notes))
      w st) (sym so.kernel) (λ so x. prepares-misfit _ _ _ _ _ _ _ _ _ _ _ so never x run) so x;
}

-- ---- work

-- A work after which the kernel has the state b, and from which o came.
module _ (k : Kind) (d : Option ReaderView) (count : RowCount) (x : KernelState) (n : Notes)
    (b : OwnState) (o : Option Table)
    (so : Continues k x (record x { own = b }) (held_option o)) where
  abbrev s : Spec
  s = x.spec

  abbrev P : Held → BoxPicture
  P h = loaded_seen k d count (shell_state x h n)

  abbrev Q : BoxPicture
  Q = loaded_seen k d count
      (shell_state (record x { own = b }) (held_option o) (record n { acted = true }))

  none-left : (i : ℕ) → unworked_at Q.work i ≡ []
  none-left i = grind (arith, cond-none, held-worked)

  meant-before : (h : Held) (ins outs : Lists) (t : KeepsMade s (P h) ins outs)
      → Means (reading_of (P h)) s x.own t.fit outs (chunk_rows (held_made h))
  meant-before h ins outs t = grind (arith, made-hidden)

  meant-after : (fit outs : Lists) → Means (reading_of Q) s b fit outs (rows_if_some o)
      → HasMade (reading_of Q) s (own_of Q.work) fit outs (chunk_rows Q.work.made)
  meant-after fit outs h = grind (arith, made-shown, held-rows)

  -- nothing was held, and rows were made
  makes-meant : Makes s x.own b o → (ins outs : Lists) → KeepsMade s (P Nothing) ins outs
      → KeepsMade s Q ins outs
  unfolding kept_output
  makes-meant y ins outs t = grind (
    arith,
    cond-none,
    none-left,
    held-worked,
    end-own,
    meant-after t.fit outs (y.means (reading_of Q) t.fit outs (meant-before Nothing ins outs t)),
    meant-before Nothing ins outs t,
  )

  abbrev Fits : ℕ → Table → Type 0
  Fits i t = FitsInput (Some s) i t.types

  -- a chunk that was worked is one of those that fit, or none of them
  fit-one : (i : ℕ) (c : Table) (worked fit : Lists) → Fits i c
      → ((j : ℕ) → AreFitting (Fits j) (worked j) (fit j)) → (j : ℕ)
      → AreFitting (Fits j) (with_chunk i c worked j) (with_chunk i c fit j)
  fit-one i c worked fit fits are j =
      grind (arith, cases_eq, chunk-here, chunk-elsewhere, fitting-more)

  fit-none : (i : ℕ) (c : Table) (worked fit : Lists) → (Fits i c → ⊥)
      → ((j : ℕ) → AreFitting (Fits j) (worked j) (fit j)) → (j : ℕ)
      → AreFitting (Fits j) (with_chunk i c worked j) (fit j)
  fit-none i c worked fit misfit are j =
      grind (arith, cases_eq, chunk-here, chunk-elsewhere, fitting-past)

  -- the chunk was worked, which was the last of its input: it fits, or it was dropped
  takes-meant : (i : ℕ) (c : Table) → Takes s x.own i c b o → (ins outs : Lists)
      → KeepsMade s (P (Unworked i c)) ins outs → KeepsMade s Q ins outs
  unfolding kept_output
  takes-meant i c y ins outs t =
      let before = meant-before (Unworked i c) ins outs t in
      let with : (fit : Lists)
      → ((j : ℕ) → AreFitting (Fits j) (with_chunk i c t.worked j) (fit j))
      → Means (reading_of Q) s b fit outs (rows_if_some o) → KeepsMade s Q ins outs =
      λ fit are made. record {
        worked = with_chunk i c t.worked;
        fit = fit;
        ins_are = grind (arith, append-nil, none-left);
        fit_are = are;
        rows = meant-after fit outs made;
        over = λ j fin. let none = (t.over j fin).all_worked in absurd (cc);
        read = t.read;
      } in
      elim y.fits [
        | inl fits ↦ with (with_chunk i c t.fit) (fit-one i c t.worked t.fit fits t.fit_are)
            (y.means (reading_of Q) fits t.fit outs before)
        | inr drops ↦ with t.fit (fit-none i c t.worked t.fit drops.misfit t.fit_are)
            (subst (λ l. Means (reading_of Q) s b t.fit outs (rows_if_some l)) (sym drops.none)
            (subst (λ z. Means (reading_of Q) s z t.fit outs []) (sym drops.same) before))
      ]

  makes-on : (0 < length (rows_if_some o)) ⊎ (b.unmade ≡ []) → IsValid x o
      → Progresses (P Nothing) Q
  makes-on y valid = grind (arith, common_steps, held-rows, held-worked)

  works-held : (h : Held) → ((ins outs : Lists) → KeepsMade s (P h) ins outs
      → KeepsMade s Q ins outs)
      → IfSome o (λ (t : Table). IsAtMost (most_rows (Some s)) (length t.rows))
      → ((ins : Lists) → All (λ (t : Table). IsPulled ins t.types) (held_unworked h)
      → IfSome o (λ (t : Table). MakesTypes (Some s) ins t.types))
      → NotesNoEnd s x.own b → Progresses (P h) Q → IsRunning (P h) → Works (P h) Q
  unfolding kept_input kept_output kept_inputs kept_outputs
  works-held h meant sizes types ends progresses run = record {
    same = record {
      view = refl;
      fits = refl;
      answer = refl;
      growth = refl;
      not_handed_out = run.not_handed_out;
    };
    acted = refl;
    faultless = run.faultless;
    keeps = λ lawful ins outs kept.
        let sized = held-all (λ t. IsAtMost (most_rows (Some s)) (length t.rows)) o sizes in
        let typed = held-all (λ (t : Table). MakesTypes (Some s) ins t.types) o
        (types ins kept.unworked) in
        record {
          ports = had-same n.view (P h) Q refl refl kept.ports;
          opens = kept.opens;
          idle = so.uses;
          rows = meant ins outs kept.rows;
          types = kept.types;
          made_types = λ i z lt. (typed i z lt).1;
          sizes = kept.sizes;
          made_sizes = sized;
          unworked = grind (arith, all-none, held-worked);
          counted = kept.counted;
          finishes = kept.finishes;
          closes = λ i fin. grind (arith, kept.closes);
          noted = λ i there m.
              let was = kept.noted i there (noted-own s x.own x.own.gathered
              (own_of (P h).work).gathered i
              (ends i (noted-own s b (own_of Q.work).gathered b.gathered i m))) in
              record { at_end = was.at_end; not_closed = was.not_closed; all_worked = none-left i };
        };
    progresses = λ lawful. progresses;
  }

  makes-works : Makes s x.own b o → IsValid x o → IsRunning (P Nothing) → Works (P Nothing) Q
  makes-works y valid =
      works-held Nothing (makes-meant y) y.sizes
      (λ ins pulled. y.types ins) y.ends (makes-on y.progress valid)

  takes-works : (i : ℕ) (c : Table) → Takes s x.own i c b o → IsRunning (P (Unworked i c))
      → Works (P (Unworked i c)) Q
  takes-works i c y =
      works-held (Unworked i c) (takes-meant i c y) y.sizes
      (λ ins pulled. y.types ins (pulled 0 no_table (omega arith))) y.ends
      (inl (omega (arith, ap length (held-worked o))))

-- a work of a loaded shell
pub works-part : (k : Kind) (d : Option ReaderView) (count : RowCount) (p q : LoadedShell)
    → ShellWorks k p q → IsRunning (loaded_seen k d count p)
    → Works (loaded_seen k d count p) (loaded_seen k d count q)
works-part k d count p q w = go p.held w.works
  where
    X : (h : Held) (j : LoadedShell) → Type 0
    X h j = IsRunning (loaded_seen k d count (shell_state p.kernel h p.notes))
        → Works (loaded_seen k d count (shell_state p.kernel h p.notes)) (loaded_seen k d count j)

    to : (h : Held) (o : Option Table) → q.held ≡ held_option o
        → (Continues k p.kernel (record p.kernel { own = q.kernel.own }) (held_option o)
        → X h (shell_state (record p.kernel { own = q.kernel.own }) (held_option o)
        (record p.notes { acted = true }))) → X h q
    to h o e f = grind (arith, X)

    go : (h : Held) → WorksHeld p.kernel h q.kernel.own q.held → X h q
    go Nothing y = search (arith, to, makes-works)
    go (Unworked i c) y = search (arith, to, takes-works)
    go (Made c) y = absurd y

pub works : (k : Kind) (d : Option ReaderView) (count : RowCount) (p q : LoadedShell)
    (r : Result (Unit {0}) WorkFault) → IsRunning (loaded_seen k d count p)
    → OnOk r (ShellWorks k p q) → OnOk r (Works (loaded_seen k d count p) (loaded_seen k d count q))
works k d count p q (Err f) run w = tt
works k d count p q (Ok u) run w = works-part k d count p q w run

-- ---- faults

module _ (k : Kind) (d : Option ReaderView) (count : RowCount) (p q : LoadedShell) (f : WorkFault)
    (x : ShellFails f p q) where
  -- a fault of a work, which is kept
  fails-part : Fails p.kernel f → FaultHolds (Some f) (loaded_seen k d count p)
      → p.kernel.stage.handed_out ≡ false
      → Faults f (loaded_seen k d count p) (loaded_seen k d count q)
  fails-part why due out = grind (arith, common_steps)

pub fails : (k : Kind) (d : Option ReaderView) (count : RowCount) (p q : LoadedShell)
    (r : Result (Unit {0}) WorkFault) → IsRunning (loaded_seen k d count p)
    → IfErr r (λ f. ShellFails f p q) → IfErr r (Fails p.kernel)
    → ((f : WorkFault) → Fails p.kernel f → FaultHolds (Some f) (loaded_seen k d count p))
    → IfErr r (λ f. Faults f (loaded_seen k d count p) (loaded_seen k d count q))
fails k d count p q r run w why due = grind (arith, fails-part)
