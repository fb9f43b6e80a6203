-- Why a plan gave no text, as what is said of the command, its part and the box that served it.
use Rattle.query_run.proofs.Imports.{AreLawfulOver, BoxPicture, Checked, Command, DraftNode, FailsAtPart, FailsWith, FileHas, FileRead, Files, GraphBegins, HasNoReader, IfSome, IsListNamed, IsLongFile, IsPartNamed, IsRunnable, IsSourceKind, KeepsBehind, Kind, LeavesPlan, LeavesRack, List, NoFile, OfFile, OfPart, Option, PartFailsFor, WorkFault, PartFile, PartName, PartSpec, PartsFile, PlanFailsFor, PlanFailure, PlanFault, PlanFaultHolds, RanPlan, RanWith, ReadsList, ReadsPart, RunsPlan, Some, Spec, Tells, arith, bad_line_in, both_ways, box_at, cases_lt, failure_of, file_bytes, file_read, inl, inr, kind_of, kinds_for, kinds_reserved, length, length-map, part_bad_place, refl, reserves_from, specs_in, subst, taken_at, true, used_part, ℕ, ◌<◌, ◌≡◌, ◌⊎◌, None}
use Rattle.proc_api.specs.declared.status.WorkFault.TheVariants as fault
use Rattle.plan_run.specs.declared.run.PlanFault.TheVariants as end
use Rattle.query_run.proofs.Flaws.{flawed-unlawful}
use Rattle.query_run.proofs.Grown.{formed, names_of, reads-its-name, serves}
use Rattle.query_run.proofs.Plans.{AreCopies, HasItsName, RanCopies, ReadsItsName, ended-files, ended-lawful, kinds-for-same, loaded-kind, ran-at}

-- ---- what a kind reads

-- a spec reads what its kind does
kind-reads : (s : Spec)
    → FileHas (λ part. ReadsPart (kind_of s)) (λ list. ReadsList (kind_of s)) (file_read (Some s))
kind-reads s = grind arith

reads-one : (k : Kind) → ReadsPart k → ReadsList k → ⊥
reads-one k part list = grind arith

source-kind : (k : Kind) → ReadsPart k ⊎ ReadsList k → IsSourceKind k
source-kind k reads = grind arith

-- ---- the run of a query's plan

module _ {c : Command} {q : Checked} {before : List BoxPicture} {nodes : List DraftNode}
    (after : List BoxPicture) (copies : AreCopies c q nodes) (runnable : IsRunnable c q before)
    (keeps : KeepsBehind (length nodes) (formed nodes)) where
  abbrev Runs : List BoxPicture → Type 0
  Runs = RunsPlan (specs_in nodes) (kinds_reserved (reserves_from 0 nodes)) before after

  abbrev names : ℕ → PartName
  names = names_of c nodes

  -- the plan ran
  abbrev pub ran : (ended : List BoxPicture) → Runs ended → RanPlan c q before after
  ran ended run = record { nodes = nodes; same = copies.same; ended = ended; runs = run }

  module _ {node : ℕ} {f : WorkFault}
      (g : GraphBegins (formed nodes) (kinds_for nodes) (FailsWith Runs node f)) where
    abbrev ended : List BoxPicture
    ended = g.holds.ended

    abbrev run : Runs ended
    run = g.holds.runs

    abbrev box : BoxPicture
    box = box_at ended node

    so : RanCopies c q before after nodes ended
    so = record { copies = copies; runnable = runnable; run = run }

    lt : node < length ended
    lt = g.holds.grown.holds.in_range

    -- the box that ran it, as it was taken and as it was given back
    abbrev taken : BoxPicture
    taken = taken_at (kinds_for nodes) before node

    abbrev given : BoxPicture
    given = box_at run.back.given node

    -- it was loaded
    ran-with : (s : Spec) × RanWith s taken box
    ran-with = search (arith, ran-at, cases_lt, length-map, both_ways)

    -- a box that keeps a fault of a reader is a source's
    at-source : (HasNoReader box → ⊥) → IsSourceKind box.kind
    at-source some = grind arith

    fails-at : IsSourceKind box.kind → (f : WorkFault)
        → PartFailsFor f c q (names node) before taken given
        → FailsAtPart (names node) f c q before after
    fails-at source f why = record {
      runnable = runnable;
      ran = ran ended run;
      node = node;
      serves = serves so node lt source;
      fails = why;
    }

    given_faults : given.faults ≡ box.faults
    given_faults = grind (arith, run.back.boxes.each)

    given_pendings : given.pendings ≡ box.pendings
    given_pendings = (run.back.boxes.each node lt).counts.pendings

    -- what a lawful box says of what it reads, over the files that it tells
    module _ (files : Files) (honest : AreLawfulOver files before) where
      tells : (P : PartSpec → Files → Type 0) (Q : Type 0) → IsSourceKind box.kind
          → ((part : PartSpec) → IsPartNamed c q files (names node) (used_part part)
          → part.header ≡ c.header → P part files → ReadsPart box.kind → Q)
          → ((list : PartSpec) → IsListNamed c q (names node) 0 list.path → P list files
          → ReadsList box.kind → Q)
          → (box.lawful ≡ true → IfSome box.files (λ files. OfPart box.spec (λ part. P part files)))
          → Q
      tells P Q source csv list due =
          go box.spec refl
          (reads-its-name so keeps g.boxes g.kinds_are g.starting g.holds.grown.births
          g.holds.grown.are files honest node lt)
          (rw told at (due (ended-lawful so files honest node lt)))
        where
          loaded : (s : Spec) → box.spec ≡ Some s → kind_of s ≡ box.kind
          loaded s e = loaded-kind so node s lt e

          told : box.files ≡ Some files
          told = ended-files so files honest node lt source

          each : (r : FileRead) → HasItsName c q files (names node) r
              → OfFile r (λ part. P part files)
              → FileHas (λ part. ReadsPart box.kind) (λ list. ReadsList box.kind) r → Q
          each NoFile name d k = absurd d
          each (PartFile part) name d k = csv part name.0 name.1 d k
          each (PartsFile l) name d k = list l name d k

          go : (o : Option Spec) → box.spec ≡ o → ReadsItsName c q files (names node) o
              → OfPart o (λ part. P part files) → Q
          go None e name d = absurd d
          go (Some s) e name d =
              each (file_read (Some s)) name d
              (subst (λ k. FileHas (λ part. ReadsPart k) (λ list. ReadsList k) (file_read (Some s)))
              (loaded s e) (kind-reads s))

  leaves : LeavesRack (kinds_for nodes) before after → LeavesPlan c q before after
  leaves left = grind (arith, kinds-for-same)

  -- every failure of the plan has its cause
  plan-cause : (f : PlanFault) → LeavesRack (kinds_for nodes) before after
      → PlanFaultHolds f (GraphBegins (formed nodes) (kinds_for nodes)) Runs
      → PlanFailsFor (failure_of f names) c q before after
  plan-cause (end.Fault node fault.Read) left g =
      let since = (ran-with g).1.faults_since in
      let some = g.holds.grown.holds.keeps.holds in
      fails-at g (at-source g (λ none. omega (arith, none.faults, since, some))) fault.Read
      (omega (arith, given_faults g, since, some))
  plan-cause (end.Fault node fault.Stalled) left g =
      let since = (ran-with g).1.pendings_since in
      let many = g.holds.grown.holds.keeps.holds in
      fails-at g (at-source g (λ none. omega (arith, none.pendings, since, many))) fault.Stalled
      (omega (arith, given_pendings g, since, many))
  plan-cause (end.Fault node fault.TooLong) left g =
      let long = g.holds.grown.holds.keeps.holds in
      let source = at-source g (λ none. omega (arith, none.given, long)) in
      fails-at g source fault.TooLong (λ files told.
      tells g files told (λ part files. IsLongFile files part.path) _ source
      (λ part named header long is. (part.path, inr (used_part part, named, refl), long))
      (λ list named long is. (list.path, inl named, long)) g.holds.grown.holds.keeps.is_due)
  plan-cause (end.Fault node (fault.Bad place)) left g =
      let of_kind = g.holds.grown.holds.keeps.holds.0 in
      let source = source-kind _ (inl of_kind) in
      fails-at g source (fault.Bad place) (λ files told.
      tells g files told
      (λ part files. part_bad_place part.header part.types files part.path ≡ Some place) _ source
      (λ part named header bad is. (
        used_part part,
        named,
        subst (λ b. part_bad_place b part.types files part.path ≡ Some place) header bad,
      ))
      (λ list named bad is. absurd (reads-one _ of_kind is))
      (λ _. g.holds.grown.holds.keeps.holds.1))
  plan-cause (end.Fault node (fault.BadList line)) left g =
      let of_kind = g.holds.grown.holds.keeps.holds.0 in
      let source = source-kind _ (inr of_kind) in
      fails-at g source (fault.BadList line) (λ files told.
      tells g files told (λ part files. bad_line_in (file_bytes files part.path) ≡ Some line) _
      source
      (λ part named header bad is. absurd (reads-one _ is of_kind))
      (λ list named bad is. (list.path, named, bad)) (λ _. g.holds.grown.holds.keeps.holds.1))
  plan-cause (end.Fault node fault.Memory) left g = grind arith
  plan-cause (end.Stuck k) left g = record {
    runnable = runnable;
    ran = ran g.holds.ended g.holds.runs;
    node = g.holds.node;
    in_range = g.holds.stuck.grown.holds.in_range;
    stopped = record {
      boxes = g.boxes;
      kinds_are = g.kinds_are;
      starting = g.starting;
      holds = inl (g.holds.report, g.holds.stuck);
    };
    of_kind = g.holds.of_kind;
    unlawful = g.holds.stuck.grown.holds.unlawful;
  }
  plan-cause (end.BadGrowth k) left g = record {
    runnable = runnable;
    ran = ran g.holds.ended g.holds.runs;
    node = g.holds.node;
    in_range = g.holds.bad.bad.in_range;
    stopped = record {
      boxes = g.boxes;
      kinds_are = g.kinds_are;
      starting = g.starting;
      holds = inr (g.holds.flaw, g.holds.bad);
    };
    of_kind = g.holds.of_kind;
    unlawful = flawed-unlawful copies runnable keeps k g;
  }
  plan-cause end.Memory left g = leaves left

  -- a failure that was told has its cause
  pub told-cause : (f : PlanFault) (told : PlanFailure) → Tells told (failure_of f names)
      → LeavesRack (kinds_for nodes) before after
      → PlanFaultHolds f (GraphBegins (formed nodes) (kinds_for nodes)) Runs
      → PlanFailsFor told c q before after
  told-cause f told h left why = grind (arith, plan-cause, leaves)
