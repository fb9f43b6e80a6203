-- What a fetch of a file's bytes gives, block by block.
use Rattle.std.specs.Prelude.{◌≡◌, ℕ, ◌+◌, ◌<◌, ◌≤◌, List, ◌++◌, length, take, Some, IfSome, Result, Ok, Err}
use Rattle.outside_io.specs.Counts.{CountIncreased}
use Rattle.outside_io.specs.Readers.{Position, ReaderState, ToldFiles}
use Rattle.outside_io.specs.Told.{GivesNext, StandsAtEnd, moved_by}
use Rattle.outside_io.specs.declared.entries.FileEntry.{FileEntry}
use Rattle.proc_api.specs.declared.status.WorkFault.{WorkFault}
use Rattle.proc_api.specs.declared.status.WorkFault.TheVariants as fault
use Rattle.csv_procs.specs.declared.file_fetch.Fetched.{Fetched}
use Rattle.csv_procs.specs.declared.file_fetch.Fetched.TheVariants as fetched
unfoldable use Rattle.outside_io.specs.Told.{told_bytes}

-- the bytes of one read, from where the reader stood to where it stands
pub record ReadsBlock (x y : ReaderState) (block : List ℕ) : Type 0 where
  pub some : 0 < length block
  pub bound : length block ≤ 65536
  pub next : GivesNext x.files x.position (length block) block
  pub moved : y.position ≡ moved_by (length block) x.position

-- the held bytes grew by those of one read, within the limit
pub record HoldsMore (x y : ReaderState) (held grown : List ℕ) (limit : ℕ) : Type 0 where
  pub block : List ℕ
  pub reads : ReadsBlock x y block
  pub added : grown ≡ held ++ block
  pub within : length grown ≤ limit

-- the held bytes and those of one read are more than the limit
pub record PassesLimit (x y : ReaderState) (held : List ℕ) (limit : ℕ) : Type 0 where
  pub block : List ℕ
  pub reads : ReadsBlock x y block
  pub beyond : limit < length held + length block

-- what a fetch gave; after a fault the held bytes are as they were
abbrev pub FetchGives : ℕ → (x y : ReaderState) → (held grown : List ℕ)
    → Result Fetched WorkFault → Type 0
FetchGives limit x y held grown (Ok fetched.More) = HoldsMore x y held grown limit
FetchGives limit x y held grown (Ok fetched.Whole) =
    StandsAtEnd x.files x.position × (y.position ≡ x.position) × (grown ≡ held)
FetchGives limit x y held grown (Ok fetched.Pending) =
    CountIncreased x.pendings y.pendings × (y.position ≡ x.position) × (grown ≡ held)
FetchGives limit x y held grown (Err fault.Read) =
    CountIncreased x.faults y.faults × (grown ≡ held)
FetchGives limit x y held grown (Err fault.TooLong) =
    PassesLimit x y held limit × (grown ≡ held)
FetchGives limit x y held grown (Err fault.Memory) = grown ≡ held
FetchGives limit x y held grown (Err e) = ⊥

-- ---- the front of a file

-- the held bytes begin these
abbrev pub IsFrontOfFile : List ℕ → List ℕ → Type 0
IsFrontOfFile held content = (length held ≤ length content) × (held ≡ take (length held) content)

-- the reader stands behind the held bytes, which begin the file where it is told
pub record HoldsFront (files : ToldFiles) (position : Position)
    (path held : List ℕ) : Type 0 where
  pub at : position ≡ Some (path, length held)
  pub front : IfSome files (λ all. IfSome (told_bytes all path) (IsFrontOfFile held))

-- these are the bytes of the file, where it is told
abbrev pub IsFile : ToldFiles → List ℕ → List ℕ → Type 0
IsFile files path bytes = IfSome files (λ all. told_bytes all path ≡ Some bytes)

-- the file is there and has more bytes than the limit
pub record PassesAll (all : List FileEntry) (path : List ℕ) (limit : ℕ) : Type 0 where
  pub bytes : List ℕ
  pub are : told_bytes all path ≡ Some bytes
  pub long : limit < length bytes

-- the same, where the file is told
abbrev pub IsToldTooLong : ToldFiles → List ℕ → ℕ → Type 0
IsToldTooLong files path limit = IfSome files (λ all. PassesAll all path limit)
