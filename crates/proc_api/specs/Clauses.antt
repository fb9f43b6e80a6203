-- The clauses of a processor's calls, over what is seen of the box before and after a call.
use Rattle.std.specs.Prelude.{T, ◌+◌, ◌<◌, ◌||◌, ◌≡◌, ◌≢◌, ◌≤◌, ◌⊎◌}
use Rattle.proc_api.specs.Prelude.{Answer, Files, Growth, IfSome, InputPort, IsAllFinished, IsSome, IsTrue, Kind, List, LoadRefusal, None, Option, PartSpec, Picture, Prepared, Scheduled, Some, Spec, Status, WaitsForData, WaitsForRoom, Wake, WorkFault, [], bad_line_in, false, file_bytes, kind_of, length, map, out_count, part_bad_place, true, ℕ, ⊤}
use Rattle.proc_api.specs.declared.status.Wake.TheVariants as wake
use Rattle.proc_api.specs.declared.status.WorkFault.TheVariants as fault
use Rattle.proc_api.specs.Boxes.{BoxPicture, FileSeen, PortFlags, file_of, no_notes}
use Rattle.proc_api.specs.Forms.{growth_form}
use Rattle.proc_api.specs.Histories.{Lists, chunk_rows, no_lists, pulled_at, raised, rows_pulled, with_pulled, with_pushed}
use Rattle.proc_api.specs.Keeping.{Keeps}
use Rattle.proc_api.specs.KindContract.{ArePartBytes}
use Rattle.proc_api.specs.KindRows.{ReadsList, ReadsPart, row_of}
use Rattle.proc_api.specs.Ports.{AllOutputsFinished, HasNoRoom, HasPorts, HasRoom, IsShut, SameChunks, StaysFit}
use Rattle.proc_api.specs.SpecContracts.{HasReadEnough, IsWanting, MayGrow, OfPart}

-- ---- what stays

-- what no call but `load` and `unload` changes
pub record SameBox (p q : BoxPicture) : Type 0 where
  pub kind : q.kind ≡ p.kind
  pub lawful : q.lawful ≡ p.lawful
  pub files : q.files ≡ p.files
  pub spec : q.spec ≡ p.spec

-- The reader's counts never fall, and what they rose since `load` is no more than they rose:
-- whatever count a reader had at `load`, by what is kept, it may still have had. At its last value
-- a count stands still.
pub record CountsOn (p q : BoxPicture) : Type 0 where
  pub faults : p.faults ≤ q.faults
  pub pendings : p.pendings ≤ q.pendings
  pub given : p.notes.given ≤ q.notes.given
  pub faults_since : (base : ℕ) → raised base p.notes.faults ≤ p.faults
      → raised base q.notes.faults ≤ q.faults
  pub pendings_since : (base : ℕ) → raised base p.notes.pendings ≤ p.pendings
      → raised base q.notes.pendings ≤ q.pendings

-- the count of pulled rows never falls, and what it rose since `load` is exactly that
pub record PulledOn (p q : BoxPicture) : Type 0 where
  pub count : p.pulled ≤ q.pulled
  pub since : q.pulled + p.notes.pulled ≡ p.pulled + q.notes.pulled

-- the count of pulled rows stands still
pub record SamePulled (p q : BoxPicture) : Type 0 where
  pub count : q.pulled ≡ p.pulled
  pub since : q.notes.pulled ≡ p.notes.pulled

-- all three counts stand still
pub record SameCounts (p q : BoxPicture) : Type 0 where
  pub faults : q.faults ≡ p.faults
  pub pendings : q.pendings ≡ p.pendings
  pub pulled : q.pulled ≡ p.pulled

-- ---- loading

-- as `load` leaves it, before any other call
pub record IsFresh (p : BoxPicture) : Type 0 where
  pub loaded : IsSome p.spec
  pub of_kind : IfSome p.spec (λ s. kind_of s ≡ p.kind)
  pub notes : p.notes ≡ no_notes
  pub ungrown : p.growth ≡ None
  pub not_handed_out : p.work.handed_out ≡ false
  pub keeps : IsTrue p.lawful → Keeps p no_lists no_lists

abbrev pub IsBlank : BoxPicture → Type 0
IsBlank p = p.spec ≡ None

-- a blank box was loaded
pub record Loads (p : BoxPicture) (s : Spec) (q : BoxPicture) : Type 0 where
  pub was_blank : IsBlank p
  pub of_kind : kind_of s ≡ p.kind
  pub kind : q.kind ≡ p.kind
  pub lawful : q.lawful ≡ p.lawful
  pub files : q.files ≡ p.files
  pub spec : q.spec ≡ Some s
  pub counts : SameCounts p q
  pub fresh : IsFresh q

-- a load is refused where the box is loaded, or else where the spec is of another kind; want of
-- memory is free
abbrev pub IsLoadRefused : LoadRefusal → BoxPicture → Spec → Type 0
IsLoadRefused LoadRefusal.NotBlank p s = IsSome p.spec
IsLoadRefused LoadRefusal.WrongKind p s = IsBlank p × (kind_of s ≢ p.kind)
IsLoadRefused LoadRefusal.Memory p s = IsBlank p × (kind_of s ≡ p.kind)

-- the box is blank, and its counts stay
pub record Unloads (p q : BoxPicture) : Type 0 where
  pub kind : q.kind ≡ p.kind
  pub lawful : q.lawful ≡ p.lawful
  pub files : q.files ≡ p.files
  pub blank : IsBlank q
  pub notes : q.notes ≡ no_notes
  pub ungrown : q.growth ≡ None
  pub counts : SameCounts p q

-- a blank box of the kind that keeps the contract, with a count of pulled rows of 0
pub record IsUnloadedProcessor (k : Kind) (p : BoxPicture) : Type 0 where
  pub kind : p.kind ≡ k
  pub lawful : p.lawful ≡ true
  pub blank : IsBlank p
  pub notes : p.notes ≡ no_notes
  pub ungrown : p.growth ≡ None
  pub pulled : p.pulled ≡ 0

-- the kinds that read a file
abbrev pub IsSourceKind : Kind → Type 0
IsSourceKind k = T ((row_of k).reads_part || (row_of k).reads_list)

-- no reader: it tells no files, and its counts are 0
pub record HasNoReader (p : BoxPicture) : Type 0 where
  pub files : p.files ≡ None
  pub faults : p.faults ≡ 0
  pub pendings : p.pendings ≡ 0
  pub given : p.notes.given ≡ 0

-- loaded, without a fault, and its rows not handed out: every call may come whose own condition
-- holds
pub record IsRunning (p : BoxPicture) : Type 0 where
  pub loaded : IsSome p.spec
  pub faultless : p.notes.fault ≡ None
  pub not_handed_out : p.work.handed_out ≡ false

-- ---- limits

abbrev pub UnlessStalled : Option WorkFault → Type 0 → Type 0
UnlessStalled (Some fault.Stalled) P = ⊤
UnlessStalled _ P = P

abbrev pub UnlessTooLong : Option WorkFault → Type 0 → Type 0
UnlessTooLong (Some fault.TooLong) P = ⊤
UnlessTooLong _ P = P

-- A lawful box stalls as soon as its reader was pending 1,000,000 times, and its file is too long
-- as soon as its bytes pass 1,073,741,824. It opens its file once, and fetches it once.
pub record KeepsLimits (p q : BoxPicture) : Type 0 where
  pub pendings : p.notes.pendings < 1000000
      → UnlessStalled q.notes.fault (q.notes.pendings < 1000000)
  pub given : p.notes.given ≤ 1073741824 → UnlessTooLong q.notes.fault (q.notes.given ≤ 1073741824)
  pub opened : p.work.opened ≡ true → q.work.opened ≡ true
  pub fetched : p.work.fetched ≡ true → q.work.fetched ≡ true

-- ---- prepare

-- the flags of each port of a picture
abbrev pub all_port_flags : Picture → PortFlags
all_port_flags v =
    record { inputs = map (λ (x : InputPort). x.flags) v.inputs; outputs = v.outputs }

-- what a prepare leaves besides: the view's flags and the answer
pub record NotesView (p q : BoxPicture) (w : Picture) (s : Status) : Type 0 where
  pub view : q.notes.view ≡ Some (all_port_flags w)
  pub answer : q.notes.answer ≡ Some (Prepared s)
  pub not_acted : q.notes.acted ≡ false
  pub growth : q.growth ≡ p.growth
  pub faultless : q.notes.fault ≡ None
  pub not_handed_out : q.work.handed_out ≡ false

-- The status law: what an answer says of the ports.
abbrev pub StatusHolds : Status → Picture → Type 0
StatusHolds Status.NeedData w = WaitsForData w
StatusHolds Status.PortFull w = WaitsForRoom w
StatusHolds Status.Ready w = ⊤
StatusHolds Status.Async w = ⊤
StatusHolds Status.ExpandPipeline w = ⊤
StatusHolds Status.Finished w = IsAllFinished w

-- a source has to answer its part's bad place, or its list's bad line
abbrev pub IsBadFile : Kind → FileSeen → Type 0
IsBadFile k f = (ReadsPart k × IsSome f.bad) ⊎ (ReadsList k × IsSome f.bad_line)

-- a chunk isn't worked, rows that can be pushed aren't made, or a bad file has to be answered
abbrev pub MayBeReady : BoxPicture → Type 0
MayBeReady p = (0 < length p.work.unworked)
    ⊎ ((0 < length p.work.unmade) ⊎ IsBadFile p.kind (file_of p))

-- a list that names a path and hasn't grown
pub record MayExpand (k : Kind) (f : FileSeen) : Type 0 where
  pub list : ReadsList k
  pub ungrown : f.growth ≡ None
  pub names_path : 0 < length f.paths

-- a source whose file isn't fetched whole
pub record IsFetching (p : BoxPicture) : Type 0 where
  pub source : IsSourceKind p.kind
  pub unfetched : p.work.fetched ≡ false

-- when an answer may come
abbrev pub StatusComes : Status → BoxPicture → Type 0
StatusComes Status.NeedData p = IsWanting p.spec p.work.read
StatusComes Status.PortFull p = ⊤
StatusComes Status.Ready p = MayBeReady p
StatusComes Status.Async p = IsFetching p
StatusComes Status.ExpandPipeline p = MayExpand p.kind (file_of p)
StatusComes Status.Finished p = ⊤

-- whatever the box kept of its lists, it keeps with what the call pulled and pushed
abbrev pub KeepsOver : BoxPicture → Picture → BoxPicture → Picture → Type 0
KeepsOver p v q w = (ins outs : Lists) → Keeps p ins outs
    → Keeps q (with_pulled v w ins) (with_pushed v w outs)

-- a limit that had read enough of its lists pulls nothing
abbrev pub PullsNoMore : BoxPicture → Picture → Picture → Type 0
PullsNoMore p v w = (ins outs : Lists) → Keeps p ins outs → HasReadEnough p.spec ins
    → (i : ℕ) → pulled_at v w i ≡ []

-- each input is closed and each output is finished, and this was answered
pub record ShutsDown (w : Picture) (s : Status) : Type 0 where
  pub answer : s ≡ Status.Finished
  pub shut : IsShut w

-- there is room where a chunk is to be fetched or made
abbrev pub NeedsRoom : Status → Type 0
NeedsRoom Status.NeedData = ⊥
NeedsRoom Status.PortFull = ⊥
NeedsRoom Status.Ready = ⊤
NeedsRoom Status.Async = ⊤
NeedsRoom Status.ExpandPipeline = ⊥
NeedsRoom Status.Finished = ⊥

-- no chunk was moved, and this was answered
pub record EndsAtOnce (v w : Picture) (s : Status) : Type 0 where
  pub answer : s ≡ Status.Finished
  pub chunks : SameChunks v w

-- A prepare of a lawful box, from the view v to w. The outputs are looked at first: where all are
-- finished it ends, a chunk that waits is pushed where there is room, and nothing is fetched or
-- made where there is none. A limit pulls nothing once it has read enough. Where the view hasn't
-- the ports of its spec and growth it shuts down.
pub record PreparesLawfully (p : BoxPicture) (v : Picture) (q : BoxPicture) (w : Picture)
    (s : Status) : Type 0 where
  pub law : StatusHolds s w
  pub comes : StatusComes s q
  pub pulled : q.pulled ≡ raised p.pulled (rows_pulled v w)
  pub limits : KeepsLimits p q
  pub fits : StaysFit p v → q.notes.fits ≡ true
  pub keeps : StaysFit p v → KeepsOver p v q w
  pub stops : StaysFit p v → PullsNoMore p v w
  pub ends : 0 < out_count v → AllOutputsFinished v → EndsAtOnce v w s
  pub pushes : 0 < length q.work.made → HasNoRoom w
  pub room : NeedsRoom s → 0 < out_count w → HasRoom w
  pub misfit : (HasPorts p v → ⊥) → ShutsDown w s

-- ---- work, schedule, expand

-- whatever the box kept of its lists, it keeps
abbrev pub KeepsSame : BoxPicture → BoxPicture → Type 0
KeepsSame p q = (ins outs : Lists) → Keeps p ins outs → Keeps q ins outs

abbrev pub MayWork : Option Answer → Type 0
MayWork (Some (Prepared Status.Ready)) = ⊤
MayWork (Some (Scheduled wake.Ready)) = ⊤
MayWork _ = ⊥

abbrev pub MaySchedule : Option Answer → Type 0
MaySchedule (Some (Prepared Status.Async)) = ⊤
MaySchedule (Some (Scheduled wake.Later)) = ⊤
MaySchedule _ = ⊥

-- it is to work, and hasn't since it said so
abbrev pub IsToWork : BoxPicture → Type 0
IsToWork p = MayWork p.notes.answer × (p.notes.acted ≡ false)

-- it is to say by what the graph grows, and hasn't since it asked
abbrev pub IsToGrow : BoxPicture → Type 0
IsToGrow p = (p.notes.answer ≡ Some (Prepared Status.ExpandPipeline)) × (p.notes.acted ≡ false)

-- a call that leaves the kept view, answer and growth
pub record SameNotes (p q : BoxPicture) : Type 0 where
  pub view : q.notes.view ≡ p.notes.view
  pub fits : q.notes.fits ≡ p.notes.fits
  pub answer : q.notes.answer ≡ p.notes.answer
  pub growth : q.growth ≡ p.growth
  pub not_handed_out : q.work.handed_out ≡ false

-- fewer chunks are unworked, or more rows are made, or nothing is left to be ready for
abbrev pub Progresses : BoxPicture → BoxPicture → Type 0
Progresses p q = (length q.work.unworked < length p.work.unworked)
    ⊎ ((length (chunk_rows p.work.made) < length (chunk_rows q.work.made)) ⊎ (MayBeReady q → ⊥))

-- a work without a fault
pub record Works (p q : BoxPicture) : Type 0 where
  pub same : SameNotes p q
  pub acted : q.notes.acted ≡ true
  pub faultless : q.notes.fault ≡ None
  pub keeps : IsTrue p.lawful → KeepsSame p q
  pub progresses : IsTrue p.lawful → Progresses p q

-- a step opens the path of its source, and reads nothing of it
pub record OpensPath (p q : BoxPicture) : Type 0 where
  pub shut : p.work.opened ≡ false
  pub opened : q.work.opened ≡ true
  pub nothing : q.notes.given ≡ p.notes.given

-- a step reads one block at most of a path that was opened before, or its reader was pending
pub record FetchesBlock (p q : BoxPicture) : Type 0 where
  pub opened : p.work.opened ≡ true
  pub within : q.notes.given ≤ p.notes.given + 65536
  pub some : (p.notes.given < q.notes.given) ⊎ (p.notes.pendings < q.notes.pendings)

-- a step reads the end of a path that was opened before
pub record FetchesEnd (p q : BoxPicture) : Type 0 where
  pub opened : p.work.opened ≡ true
  pub unfetched : p.work.fetched ≡ false
  pub fetched : q.work.fetched ≡ true
  pub nothing : q.notes.given ≡ p.notes.given

-- A source wakes later where it opened its path, fetched a byte, or its reader was pending, and is
-- ready where it has read its file's end. An executor may make several steps in a row.
abbrev pub WakeComes : Wake → BoxPicture → BoxPicture → Type 0
WakeComes wake.Later p q = OpensPath p q ⊎ FetchesBlock p q
WakeComes wake.Ready p q = FetchesEnd p q

-- The reader of a source stands in its file behind the bytes that it gave; once the file is fetched
-- whole, these are all of them.
pub record StandsBehind (p : BoxPicture) (position : Option (List ℕ × ℕ)) (part : PartSpec) : Type 0
  where
    pub at : position ≡ Some (part.path, p.notes.given)
    pub whole : p.work.fetched ≡ true
        → (bytes : List ℕ) × ArePartBytes p.files part.path bytes × (length bytes ≡ p.notes.given)

-- a schedule without a fault
pub record Schedules (a : Wake) (p q : BoxPicture) : Type 0 where
  pub view : q.notes.view ≡ p.notes.view
  pub fits : q.notes.fits ≡ p.notes.fits
  pub answer : q.notes.answer ≡ Some (Scheduled a)
  pub not_acted : q.notes.acted ≡ false
  pub growth : q.growth ≡ p.growth
  pub not_handed_out : q.work.handed_out ≡ false
  pub faultless : q.notes.fault ≡ None
  pub keeps : IsTrue p.lawful → KeepsSame p q
  pub comes : IsTrue p.lawful → WakeComes a p q

-- an expand without a fault
pub record Expands (g : Growth) (p q : BoxPicture) : Type 0 where
  pub view : q.notes.view ≡ p.notes.view
  pub fits : q.notes.fits ≡ p.notes.fits
  pub answer : q.notes.answer ≡ p.notes.answer
  pub acted : q.notes.acted ≡ true
  pub growth : q.growth ≡ Some (growth_form g)
  pub grows : IsTrue p.lawful → MayGrow p.spec p.files q.growth
  pub not_handed_out : q.work.handed_out ≡ false
  pub faultless : q.notes.fault ≡ None
  pub keeps : IsTrue p.lawful → KeepsSame p q

-- ---- faults

-- What is true of every box that keeps a fault: where its reader tells files, bad data are where
-- they are in that of its part, or of its list. Want of memory is free.
abbrev pub FaultHolds : Option WorkFault → BoxPicture → Type 0
FaultHolds None p = ⊤
FaultHolds (Some fault.Memory) p = ⊤
FaultHolds (Some fault.Read) p = 0 < p.notes.faults
FaultHolds (Some fault.Stalled) p = 1000000 ≤ p.notes.pendings
FaultHolds (Some fault.TooLong) p = 1073741824 < p.notes.given
FaultHolds (Some (fault.Bad place)) p = ReadsPart p.kind × IfSome p.files (λ files.
    OfPart p.spec (λ part. part_bad_place part.header part.types files part.path ≡ Some place))
FaultHolds (Some (fault.BadList line)) p = ReadsList p.kind × IfSome p.files (λ files.
    OfPart p.spec (λ part. bad_line_in (file_bytes files part.path) ≡ Some line))

-- the file has more bytes than a part or list may have
pub record IsLongFile (files : Files) (path : List ℕ) : Type 0 where
  pub bytes : List ℕ
  pub are : file_bytes files path ≡ Some bytes
  pub long : 1073741824 < length bytes

-- What is true besides of a lawful box that keeps a fault.
abbrev pub FaultIsDue : Option WorkFault → BoxPicture → Type 0
FaultIsDue None p = ⊤
FaultIsDue (Some fault.Memory) p = ⊤
FaultIsDue (Some fault.Read) p = ⊤
FaultIsDue (Some fault.Stalled) p = p.notes.pendings ≡ 1000000
FaultIsDue (Some fault.TooLong) p =
    IfSome p.files (λ files. OfPart p.spec (λ part. IsLongFile files part.path))
FaultIsDue (Some (fault.Bad place)) p = ⊤
FaultIsDue (Some (fault.BadList line)) p = ⊤

-- A read fault comes only in a call in which the reader's faults rose.
abbrev pub FaultInCall : WorkFault → BoxPicture → BoxPicture → Type 0
FaultInCall fault.Read p q = raised p.faults 1 ≤ q.faults
FaultInCall _ p q = ⊤

-- a call that answers a fault, which the box keeps until it is unloaded
pub record Faults (f : WorkFault) (p q : BoxPicture) : Type 0 where
  pub same : SameNotes p q
  pub kept : q.notes.fault ≡ Some f
  pub in_call : FaultInCall f p q
  pub holds : FaultHolds (Some f) q
  pub is_due : IsTrue p.lawful → FaultIsDue (Some f) q

-- ---- handing out

-- what a lawful box keeps when it hands out its chunks; a box that has handed them out for good
-- keeps nothing of them
abbrev pub KeepsUnlessOut : BoxPicture → BoxPicture → Type 0
KeepsUnlessOut p q = q.work.handed_out ≡ false → KeepsSame p q
