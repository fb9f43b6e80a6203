-- Where a reader in memory stands: at an entry, by its index.
use Rattle.std.specs.Prelude.{◌≡◌, ℕ, ◌<◌, ◌≤◌, List, [], length, map, slice_index_or, Option, Some, None, ⊤}
use Rattle.outside_io.specs.declared.entries.FileEntry.{FileEntry}
use Rattle.outside_io.specs.declared.memory_files.Standing.{Standing}
use Rattle.outside_io.specs.Told.{told_bytes}

abbrev pub path_at : List FileEntry → ℕ → List ℕ
path_at entries i = slice_index_or (map (λ (e : FileEntry). e.path) entries) i []

abbrev pub bytes_at : List FileEntry → ℕ → List ℕ
bytes_at entries i = slice_index_or (map (λ (e : FileEntry). e.bytes) entries) i []

-- the entry at the index is the first with this path
pub record IsEntryOf (entries : List FileEntry) (path : List ℕ) (i : ℕ) : Type 0 where
  pub within : i < length entries
  pub path_is : path_at entries i ≡ path
  pub bytes_are : told_bytes entries path ≡ Some (bytes_at entries i)

-- the path and the place
abbrev pub stand_of : List FileEntry → Option Standing → Option (List ℕ × ℕ)
stand_of entries None = None
stand_of entries (Some at) = Some (path_at entries at.index, at.place)

-- it stands within the bytes of the first entry with its path
pub record IsStanding (entries : List FileEntry) (at : Standing) : Type 0 where
  pub entry : IsEntryOf entries (path_at entries at.index) at.index
  pub place_within : at.place ≤ length (bytes_at entries at.index)

abbrev pub StandsWithin : List FileEntry → Option Standing → Type 0
StandsWithin entries None = ⊤
StandsWithin entries (Some at) = IsStanding entries at
