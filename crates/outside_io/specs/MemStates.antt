-- What contracts see of the readers and sinks in memory, and what these answer.
use Rattle.std.specs.Prelude.{ℕ, ◌-◌, ◌==◌, ◌≡◌, min, if◌then◌else◌, List, [], length, Option, Some, None, Result, Ok, Err, unwrap_or}
use Rattle.outside_io.specs.declared.entries.Failed.{Failed}
use Rattle.outside_io.specs.declared.entries.Fake.{Fake}
use Rattle.outside_io.specs.declared.entries.FakeKind.{FakeKind}
use Rattle.outside_io.specs.declared.entries.FakeKind.TheVariants.{Fail, Pend}
use Rattle.outside_io.specs.declared.entries.FileEntry.{FileEntry}
use Rattle.outside_io.specs.declared.entries.Got.{Got}
use Rattle.outside_io.specs.declared.entries.Got.TheVariants.{Bytes, End, Pending}
use Rattle.outside_io.specs.Counts.{one_more}
use Rattle.outside_io.specs.Told.{GivesNext, StandsAtEnd, moved_by, told_content, reader_place}
use Rattle.outside_io.specs.Scripts.{next_fake}

-- files in memory, where the reader stands, its counts, its script, and how many of its calls were
-- made
pub record FilesState : Type 0 where
  pub files : List FileEntry
  pub position : Option (List ℕ × ℕ)
  pub faults : ℕ
  pub pendings : ℕ
  pub script : List Fake
  pub calls : ℕ

-- the state with one more call counted
abbrev pub one_call_more : FilesState → FilesState
one_call_more s = record s { calls = one_more s.calls }

-- the fake that the next call meets
abbrev pub fake_of : FilesState → Option FakeKind
fake_of s = next_fake s.script s.calls

-- how many bytes are left in the file from where the reader stands
abbrev pub bytes_left : FilesState → ℕ
bytes_left s = length (unwrap_or (told_content (Some s.files) s.position) []) - reader_place
    s.position

-- a block, where so many bytes are left
abbrev pub block_got : ℕ → ℕ → Got
block_got room left = if left == 0 then End else Bytes (min room left)

-- the answer to a read, by the fake that it meets
abbrev pub read_answer : Option FakeKind → ℕ → ℕ → Result Got Failed
read_answer (Some Fail) room left = Err (record {})
read_answer (Some Pend) room left = Ok Pending
read_answer None room left = Ok (block_got room left)

-- what one read put into a buffer, and the state after it
abbrev pub MemBlockGiven : (x y : FilesState) → List ℕ → Result Got Failed → Type 0
MemBlockGiven x y buffer (Ok (Bytes n)) = GivesNext (Some x.files) x.position n buffer
    × (y ≡ record (one_call_more x) { position = moved_by n x.position })
MemBlockGiven x y buffer (Ok End) =
    StandsAtEnd (Some x.files) x.position × (y ≡ one_call_more x)
MemBlockGiven x y buffer (Ok Pending) =
    y ≡ record (one_call_more x) { pendings = one_more x.pendings }
MemBlockGiven x y buffer (Err e) = y ≡ record (one_call_more x) { faults = one_more x.faults }

-- a sink in memory: the bytes taken, how many it takes a call and in all, and its faults
pub record SinkState : Type 0 where
  pub taken : List ℕ
  pub step : ℕ
  pub room : ℕ
  pub faults : ℕ

-- the answer to a write of a piece of this length
abbrev pub write_answer : SinkState → ℕ → Result ℕ Failed
write_answer s size =
    if size == 0 then Ok 0
    else if length s.taken == s.room then Err (record {})
    else Ok (min size (min s.step (s.room - length s.taken)))
