-- The files that a reader tells, and where it stands in one of them.
use Rattle.std.specs.Prelude.{◌≡◌, ℕ, ◌+◌, ◌≤◌, if◌then◌else◌, List, [], ◌∷◌, length, map, take, drop, Option, Some, None, IfSome}
use Rattle.std.specs.Str.{bytes_eq}
use Rattle.outside_io.specs.declared.entries.FileEntry.{FileEntry}

-- told files as pairs of a path and its bytes
abbrev pub files_of : List FileEntry → List (List ℕ × List ℕ)
files_of entries = map (λ (e : FileEntry). (e.path, e.bytes)) entries

-- the bytes of the first file with this path
unfoldable pub told_bytes : List FileEntry → List ℕ → Option (List ℕ)
told_bytes [] path = None
told_bytes (e ∷ es) path = if bytes_eq e.path path then Some e.bytes else told_bytes es path

-- the bytes of the file in which the reader stands, where files are told
abbrev pub told_content : Option (List FileEntry) → Option (List ℕ × ℕ) → Option (List ℕ)
told_content None stand = None
told_content (Some files) None = None
told_content (Some files) (Some stand) = told_bytes files stand.0

-- the place at which the reader stands
abbrev pub reader_place : Option (List ℕ × ℕ) → ℕ
reader_place None = 0
reader_place (Some stand) = stand.1

-- the same file, n bytes further on
abbrev pub moved_by : ℕ → Option (List ℕ × ℕ) → Option (List ℕ × ℕ)
moved_by n None = None
moved_by n (Some stand) = Some (stand.0, stand.1 + n)

-- a buffer begins with the next n bytes of the file, where it is told
abbrev pub GivesNext : Option (List FileEntry) → Option (List ℕ × ℕ) → ℕ → List ℕ → Type 0
GivesNext files stand n buffer =
    IfSome (told_content files stand)
    (λ content. (reader_place stand + n ≤ length content)
    × (take n buffer ≡ take n (drop (reader_place stand) content)))

-- the reader stands at the end of the file, where it is told
abbrev pub StandsAtEnd : Option (List FileEntry) → Option (List ℕ × ℕ) → Type 0
StandsAtEnd files stand =
    IfSome (told_content files stand) (λ content. reader_place stand ≡ length content)
