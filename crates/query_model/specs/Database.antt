-- The files of a run, the tables that declarations make of them, and the parts that a query uses.
use Rattle.std.specs.Prelude.{if◌then◌else◌, ◌+◌, ◌∷◌, ◌≡◌}
use Rattle.query_model.specs.Prelude.{All, BadPlace, Bool, Checked, CheckedJoin, ColumnDecl, ColumnType, Declared, IsSome, List, ListFile, None, Numbers, Option, PartsDecl, Paths, Row, Schema, Some, Table, TableDecl, TableUse, [], bytes_eq, flat_map, map, slice_get, ℕ}
use Rattle.query_model.specs.Parts.{part_records, good_rows, bad_place}
use Rattle.query_model.specs.ListFiles.{list_paths, list_bad_line}
use Rattle.query_model.specs.Sources.{Database}

-- files, each a path and its bytes
abbrev pub Files : Type 0
Files = List (List ℕ × List ℕ)

-- the bytes of the first file with the path
abbrev pub file_bytes : List (List ℕ × List ℕ) → List ℕ → Option (List ℕ)
file_bytes [] path = None
file_bytes (file ∷ files) path = if bytes_eq file.0 path then Some file.1 else file_bytes files path

abbrev pub column_types : Schema → List ColumnType
column_types s = map (λ (c : ColumnDecl). c.kind) s.columns

-- the paths, where no line is bad
abbrev pub paths_unless : Option ℕ → List (List ℕ) → List (List ℕ)
paths_unless None paths = paths
paths_unless (Some line) paths = []

-- the paths of a list file; none where it is not there or has a bad line
abbrev pub paths_in : Option (List ℕ) → List (List ℕ)
paths_in None = []
paths_in (Some text) = paths_unless (list_bad_line text) (list_paths text)

-- the paths of a table's parts, in order
abbrev pub part_paths : List (List ℕ × List ℕ) → PartsDecl → List (List ℕ)
part_paths files (Paths paths) = paths
part_paths files (ListFile path) = paths_in (file_bytes files path)

abbrev pub rows_in : Bool → List ColumnType → Option (List ℕ) → List Row
rows_in header types None = []
rows_in header types (Some bytes) = good_rows types (part_records header bytes)

-- the good rows of a part, those before its first bad place; none where the file is not there
abbrev pub part_rows : Bool → List ColumnType → List (List ℕ × List ℕ) → List ℕ → List Row
part_rows header types files path = rows_in header types (file_bytes files path)

abbrev pub bad_place_in : Bool → List ColumnType → Option (List ℕ) → Option BadPlace
bad_place_in header types None = None
bad_place_in header types (Some bytes) = bad_place 1 types (part_records header bytes)

-- the first bad place of a part; none where the file is not there
abbrev pub part_bad_place : Bool → List ColumnType → List (List ℕ × List ℕ) → List ℕ
    → Option BadPlace
part_bad_place header types files path = bad_place_in header types (file_bytes files path)

-- the part's file is there, and has no bad place
abbrev pub IsValidPart : Bool → List ColumnType → List (List ℕ × List ℕ) → List ℕ → Type 0
IsValidPart header types files path = IsSome (file_bytes files path)
    × (part_bad_place header types files path ≡ None)

abbrev pub bad_line_in : Option (List ℕ) → Option ℕ
bad_line_in None = None
bad_line_in (Some text) = list_bad_line text

-- where a table has a list file, it is there and has no bad line
abbrev pub IsValidList : List (List ℕ × List ℕ) → PartsDecl → Type 0
IsValidList files (Paths paths) = Unit {0}
IsValidList files (ListFile path) = IsSome (file_bytes files path)
    × (bad_line_in (file_bytes files path) ≡ None)

-- a declared table: the rows of its parts, in order of the parts
abbrev pub declared_table : Bool → List (List ℕ × List ℕ) → TableDecl → Table
declared_table header files decl = record {
  types = column_types decl.schema;
  rows = flat_map (part_rows header (column_types decl.schema) files) (part_paths files decl.parts);
}

-- the declared tables, in order
abbrev pub database : Bool → List (List ℕ × List ℕ) → List TableDecl → Database
database header files decls = map (declared_table header files) decls

-- the tables that a query uses: that of FROM, and that of JOIN
abbrev pub join_use : Option CheckedJoin → List TableUse
join_use None = []
join_use (Some join) = join.table ∷ []

abbrev pub used_tables : Checked → List TableUse
used_tables q = q.from ∷ join_use q.join

-- a part that a query uses: the place of its table from 0, its place in the table from 1, and what
-- it holds
pub record UsedPart : Type 0 where
  pub table : ℕ
  pub part : ℕ
  pub types : List ColumnType
  pub path : List ℕ

-- the parts with these paths, of which the first has place k
abbrev pub numbered_parts : ℕ → List ColumnType → ℕ → List (List ℕ) → List UsedPart
numbered_parts table types k [] = []
numbered_parts table types k (path ∷ paths) = record {
  table = table;
  part = k;
  types = types;
  path = path;
} ∷ numbered_parts table types (k + 1) paths

abbrev pub parts_declared : List (List ℕ × List ℕ) → ℕ → Option TableDecl → List UsedPart
parts_declared files t None = []
parts_declared files t (Some decl) =
    numbered_parts t (column_types decl.schema) 1 (part_paths files decl.parts)

abbrev pub parts_used : List (List ℕ × List ℕ) → List TableDecl → TableUse → List UsedPart
parts_used files decls (Declared t) = parts_declared files t (slice_get decls t)
parts_used files decls (Numbers n) = []

-- the parts that a query uses, those of FROM before those of JOIN
abbrev pub used_parts : List (List ℕ × List ℕ) → List TableDecl → Checked → List UsedPart
used_parts files decls q = flat_map (parts_used files decls) (used_tables q)

abbrev pub IsValidUsed : Bool → List (List ℕ × List ℕ) → UsedPart → Type 0
IsValidUsed header files p = IsValidPart header p.types files p.path

abbrev pub IsListDeclared : List (List ℕ × List ℕ) → Option TableDecl → Type 0
IsListDeclared files None = Unit {0}
IsListDeclared files (Some decl) = IsValidList files decl.parts

abbrev pub IsListUsed : List (List ℕ × List ℕ) → List TableDecl → TableUse → Type 0
IsListUsed files decls (Declared t) = IsListDeclared files (slice_get decls t)
IsListUsed files decls (Numbers n) = Unit {0}

-- each list file that a query uses is valid
abbrev pub AllListsValid : List (List ℕ × List ℕ) → List TableDecl → Checked → Type 0
AllListsValid files decls q = All (IsListUsed files decls) (used_tables q)

-- each part that a query uses is valid
abbrev pub AllPartsValid : Bool → List (List ℕ × List ℕ) → List TableDecl → Checked → Type 0
AllPartsValid header files decls q = All (IsValidUsed header files) (used_parts files decls q)
