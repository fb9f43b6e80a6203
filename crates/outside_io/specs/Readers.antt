-- What a reader of files is seen as, and what one read gives.
use Rattle.std.specs.Prelude.{List, Option, Result, Ok, Err, None, length, ℕ, ◌<◌, ◌≡◌, ◌≤◌}
use Rattle.outside_io.specs.Counts.{CountIncreased}
use Rattle.outside_io.specs.Told.{GivesNext, StandsAtEnd, moved_by}
use Rattle.outside_io.specs.declared.entries.Failed.{Failed}
use Rattle.outside_io.specs.declared.entries.FileEntry.{FileEntry}
use Rattle.outside_io.specs.declared.entries.Got.{Got}
use Rattle.outside_io.specs.declared.entries.Got.TheVariants as got

-- where a reader stands: a path, and the place in its file
abbrev pub Position : Type 0
Position = Option (List ℕ × ℕ)

abbrev pub ToldFiles : Type 0
ToldFiles = Option (List FileEntry)

-- a reader: the files that it tells, where it stands, and its counts; one of the outside tells no
-- files
pub record ReaderState : Type 0 where
  pub files : ToldFiles
  pub position : Position
  pub faults : ℕ
  pub pendings : ℕ

-- it tells the same files, and its counts don't fall
pub record IsAfter (x y : ReaderState) : Type 0 where
  pub told : y.files ≡ x.files
  pub faults_kept : x.faults ≤ y.faults
  pub pendings_kept : x.pendings ≤ y.pendings

-- no path was opened: the faults rose, and no file stands open
pub record FailsToOpen (x y : ReaderState) : Type 0 where
  pub rises : CountIncreased x.faults y.faults
  pub closed : y ≡ record x { position = None; faults = y.faults }

-- what one read put into a buffer, and what it changed
abbrev pub BlockGiven : (x y : ReaderState) → List ℕ → Result Got Failed → Type 0
BlockGiven x y buffer (Ok (got.Bytes n)) = (0 < n) × (n ≤ length buffer)
    × GivesNext x.files x.position n buffer
    × (y ≡ record x { position = moved_by n x.position })
BlockGiven x y buffer (Ok got.End) = StandsAtEnd x.files x.position × (y ≡ x)
BlockGiven x y buffer (Ok got.Pending) =
    CountIncreased x.pendings y.pendings × (y ≡ record x { pendings = y.pendings })
BlockGiven x y buffer (Err e) =
    CountIncreased x.faults y.faults × (y ≡ record x { faults = y.faults })
