-- What is seen of a source of rows by its file.
use Rattle.csv_procs.specs.Prelude.{BoxPicture, Files, Kind, List, LoadedShell, Option, ReaderView, RowCount, Some, shell_seen, ℕ}

-- what a contract sees: the files that its reader tells, the reader's counts, and what is loaded
pub record SourceView : Type 0 where
  pub files : Option Files
  pub faults : ℕ
  pub pendings : ℕ
  -- where the reader stands
  pub position : Option (List ℕ × ℕ)
  pub count : RowCount
  pub loaded : Option LoadedShell

abbrev pub reader_of : SourceView → ReaderView
reader_of s = record { files = s.files; faults = s.faults; pendings = s.pendings }

abbrev pub seen_by : Kind → SourceView → BoxPicture
seen_by k s = shell_seen k (Some (reader_of s)) s.count s.loaded
