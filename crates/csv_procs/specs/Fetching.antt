-- What a schedule of a source does, and what ties its part to its reader.
use Rattle.std.specs.Prelude.{◌+◌, ◌-◌, ◌<◌, ◌≡◌, ◌≤◌, ◌⊎◌}
use Rattle.csv_procs.specs.Prelude.{Bool, CountIncreased, Err, Fetched, Fetching, FileState, IfSome, IsSome, List, LoadedShell, None, Notes, Ok, Option, PartSpec, Paths, Result, Rows, Shut, Some, SourceStage, Spec, StandsAtEnd, Wake, WorkFault, bad_line_in, bad_place, false, length, part_records, paths_in, raised, told_bytes, true, ℕ}
use Rattle.query_model.specs.declared.processor_spec.Spec.TheVariants as spec
use Rattle.csv_procs.specs.declared.file_fetch.Fetched.TheVariants as fetched
use Rattle.proc_api.specs.declared.status.Wake.TheVariants as wake
use Rattle.proc_api.specs.declared.status.WorkFault.TheVariants as fault
use Rattle.csv_procs.specs.FileFetch.{HoldsFront, HoldsMore, IsFile, IsToldTooLong, PassesLimit}
use Rattle.outside_io.specs.Readers.{IsAfter, Position, ReaderState, ToldFiles}
use Rattle.csv_procs.specs.Parts.{IsWholeFile, stage_in}

-- the held bytes begin the file, and are all that the reader gave
pub record HoldsPart (told : ToldFiles) (position : Position) (part : PartSpec) (held : List ℕ)
    (given : ℕ) : Type 0 where
  pub front : HoldsFront told position part.path held
  pub found : IfSome told (λ all. IsSome (told_bytes all part.path))
  pub given_is : given ≡ length held

-- the bad place is that of the bytes, or the paths and the bad line are
abbrev pub IsKnownOf : Bool → PartSpec → List ℕ → SourceStage → Type 0
IsKnownOf false part bytes g = g.bad ≡ bad_place 1 part.types (part_records part.header bytes)
IsKnownOf true list bytes g =
    (g.paths ≡ paths_in (Some bytes)) × (g.bad_line ≡ bad_line_in (Some bytes))

-- what is known is of the file, behind whose bytes the reader stands, which gave them all
pub record HasRead (told : ToldFiles) (position : Position) (lists : Bool) (part : PartSpec)
    (g : SourceStage) (given : ℕ) : Type 0 where
  pub bytes : List ℕ
  pub are : IsFile told part.path bytes
  pub known : IsKnownOf lists part bytes g
  pub given_is : given ≡ length bytes
  pub at : position ≡ Some (part.path, length bytes)

-- how far the part is, by its reader's files and where that stands, within the limits
pub record MatchesReader (told : ToldFiles) (position : Position) (lists : Bool) (part : PartSpec)
    (g : SourceStage) (given pendings : ℕ) : Type 0 where
  pub shut : g.opened ≡ false → given ≡ 0
  pub front : g.opened ≡ true → g.fetched ≡ false → HoldsPart told position part g.held given
  pub read : g.fetched ≡ true → HasRead told position lists part g given
  pub few_pendings : pendings < 1000000
  pub few_bytes : given ≤ 1073741824

abbrev pub SpecMatchesReader : ToldFiles → Position → Spec → SourceStage → (given pendings : ℕ)
    → Type 0
SpecMatchesReader told position (spec.Csv part) g given pendings =
    MatchesReader told position false part g given pendings
SpecMatchesReader told position (spec.List list) g given pendings =
    MatchesReader told position true list g given pendings
SpecMatchesReader told position s g given pendings = ⊥

-- as long as no fault is kept
abbrev pub PartMatchesReader : ToldFiles → Position → Option LoadedShell → Type 0
PartMatchesReader told position None = Unit {0}
PartMatchesReader told position (Some p) = p.notes.fault ≡ None
    → SpecMatchesReader told position p.kernel.spec p.kernel.stage p.notes.given p.notes.pendings

-- ---- one read

-- What a read gave, and what was noted of it. Of a file that is too long no more than a byte
-- beyond the limit is noted.
abbrev pub ReadGives : (x y : ReaderState) → (held grown : List ℕ) → (n n' : Notes)
    → Result Fetched WorkFault → Type 0
ReadGives x y held grown n n' (Ok fetched.More) =
    HoldsMore x y held grown 1073741824
    × (n' ≡ record n { given = raised n.given (length grown - length held) })
ReadGives x y held grown n n' (Ok fetched.Whole) =
    StandsAtEnd x.files x.position × (y.position ≡ x.position) × (grown ≡ held) × (n' ≡ n)
ReadGives x y held grown n n' (Ok fetched.Pending) =
    CountIncreased x.pendings y.pendings × (y.position ≡ x.position) × (grown ≡ held)
    × (n' ≡ record n { pendings = raised n.pendings 1 }) × (n'.pendings < 1000000)
ReadGives x y held grown n n' (Err fault.Stalled) =
    CountIncreased x.pendings y.pendings × (n' ≡ record n { pendings = raised n.pendings 1 })
    × (1000000 ≤ n'.pendings)
ReadGives x y held grown n n' (Err fault.Read) =
    CountIncreased x.faults y.faults × (n' ≡ record n { faults = raised n.faults 1 })
ReadGives x y held grown n n' (Err fault.TooLong) = PassesLimit x y held 1073741824
    × (n' ≡ record n { given = raised n.given (1073741825 - length held) })
ReadGives x y held grown n n' (Err fault.Memory) = n' ≡ n
ReadGives x y held grown n n' (Err e) = ⊥

-- ---- one step

-- all of the file is there
pub record IsRead (told : ToldFiles) (lists : Bool) (part : PartSpec) (s : FileState) : Type 0 where
  pub bytes : List ℕ
  pub are : IsFile told part.path bytes
  pub whole : IsWholeFile lists part.header bytes s

-- a block was read, or the reader was pending
pub record NotesBlock (n n' : Notes) : Type 0 where
  pub within : n'.given ≤ n.given + 65536
  pub some : (n.given < n'.given) ⊎ (n.pendings < n'.pendings)

-- a step of the fetch, by its answer
abbrev pub StepsTo : ToldFiles → Bool → PartSpec → FileState → Notes → FileState → Notes → Wake
    → Type 0
StepsTo told lists part Shut n (Fetching held) n' wake.Later = n'.given ≡ n.given
StepsTo told lists part (Fetching held) n (Fetching grown) n' wake.Later = NotesBlock n n'
StepsTo told lists part (Fetching held) n s' n' wake.Ready =
    IsRead told lists part s' × (n'.given ≡ n.given)
StepsTo told lists part s n s' n' _ = ⊥

-- within the limits
abbrev pub IsWithin : Notes → Type 0
IsWithin n = (n.pendings < 1000000) × (n.given ≤ 1073741824)

-- why a step fails
abbrev pub FaultComes : WorkFault → (x y : ReaderState) → PartSpec → Notes → Type 0
FaultComes fault.Memory x y part n = IsWithin n
FaultComes fault.Read x y part n = IsWithin n × CountIncreased x.faults y.faults × (0 < n.faults)
FaultComes fault.Stalled x y part n = (n.pendings ≡ 1000000) × (n.given ≤ 1073741824)
FaultComes fault.TooLong x y part n =
    (n.pendings < 1000000) × (1073741824 < n.given) × IsToldTooLong x.files part.path 1073741824
FaultComes e x y part n = ⊥

-- a file that is opened or fetched whole stays so, and nothing more
abbrev pub StaysAt : FileState → FileState → Type 0
StaysAt Shut Shut = Unit {0}
StaysAt (Fetching held) (Fetching kept) = Unit {0}
StaysAt (Rows r) (Rows r') = Unit {0}
StaysAt (Paths l) (Paths l') = l' ≡ l
StaysAt _ _ = ⊥

abbrev pub StepComes : Result Wake WorkFault → (x y : ReaderState) → Bool → PartSpec
    → (s s' : FileState) → (n n' : Notes) → Type 0
StepComes (Ok a) x y lists part s s' n n' = StepsTo x.files lists part s n s' n' a
    × MatchesReader x.files y.position lists part (stage_in part s') n'.given n'.pendings
StepComes (Err e) x y lists part s s' n n' = FaultComes e x y part n' × StaysAt s s'

-- A step. The reader's counts never fall, and what is noted of them rose by no more.
pub record Steps (x y : ReaderState) (lists : Bool) (part : PartSpec) (s s' : FileState)
    (n n' : Notes) (r : Result Wake WorkFault) : Type 0 where
  pub after : IsAfter x y
  pub given_kept : n.given ≤ n'.given
  pub faults_since : (base : ℕ) → raised base n.faults ≤ x.faults → raised base n'.faults ≤ y.faults
  pub pendings_since : (base : ℕ) → raised base n.pendings ≤ x.pendings
      → raised base n'.pendings ≤ y.pendings
  pub only : n' ≡ record n { given = n'.given; faults = n'.faults; pendings = n'.pendings }
  pub comes : StepComes r x y lists part s s' n n'
