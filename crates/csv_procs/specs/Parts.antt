-- A part or list inside its source.
use Rattle.std.specs.Prelude.{◌+◌, ◌++◌, ◌<◌, ◌==◌, ◌≡◌, ◌≤◌, ◌⊎◌}
use Rattle.csv_procs.specs.Prelude.{BadPlace, Bool, ColumnType, Fetching, FileState, Growth, IfSome, IsSome, KernelState, Kind, List, ListedPaths, None, Offer, Option, PartSpec, Paths, Row, Rows, Shut, Some, SourceStage, Spec, Table, [], at_end, bad_line_in, bad_place, cond, false, good_rows, growth_form, idle_own, length, list_growth, part_records, paths_in, rows_if_some, true, ℕ}
use Rattle.query_model.specs.declared.processor_spec.Kind.TheVariants as kind
use Rattle.query_model.specs.declared.processor_spec.Spec.TheVariants as spec
use Rattle.proc_shell.specs.declared.kernel.Offer.TheVariants as offer

-- ---- by whether it is a list

abbrev pub csv_kind : Bool → Kind
csv_kind false = kind.Csv
csv_kind true = kind.List

abbrev pub csv_spec : Bool → PartSpec → Spec
csv_spec false part = spec.Csv part
csv_spec true list = spec.List list

-- the spec is that of a part, or of a list
abbrev pub IsSpecOf : Spec → PartSpec → Type 0
IsSpecOf s part = (s ≡ spec.Csv part) ⊎ (s ≡ spec.List part)

-- ---- by how far its file is

-- what is fetched whole says by itself whether it is a list
abbrev pub lists_in : Bool → FileState → Bool
lists_in lists (Rows r) = false
lists_in lists (Paths l) = true
lists_in lists s = lists

abbrev pub is_opened : FileState → Bool
is_opened Shut = false
is_opened s = true

abbrev pub is_fetched : FileState → Bool
is_fetched (Rows r) = true
is_fetched (Paths l) = true
is_fetched s = false

abbrev pub held_in : FileState → List ℕ
held_in (Fetching held) = held
held_in s = []

abbrev pub bad_in : PartSpec → FileState → Option BadPlace
bad_in part (Rows r) = bad_place (r.count + 1) part.types r.rest
bad_in part s = None

abbrev pub paths_of : FileState → List (List ℕ)
paths_of (Paths l) = l.paths
paths_of s = []

abbrev pub bad_line_of : FileState → Option ℕ
bad_line_of (Paths l) = l.bad_line
bad_line_of s = None

abbrev pub is_grown : FileState → Bool
is_grown (Paths l) = l.grown
is_grown s = false

abbrev pub left_rows : ListedPaths → List Row
left_rows l = rows_if_some l.left

-- the rows that aren't made yet
abbrev pub source_unmade : List ColumnType → FileState → List Row
source_unmade types (Rows r) = good_rows types r.rest
source_unmade types (Paths l) = left_rows l
source_unmade types s = []

abbrev pub stage_in : PartSpec → FileState → SourceStage
stage_in part s = record {
  opened = is_opened s;
  fetched = is_fetched s;
  held = held_in s;
  bad = bad_in part s;
  paths = paths_of s;
  bad_line = bad_line_of s;
  grown = is_grown s;
  handed_out = false;
}

abbrev pub sourcing : Bool → PartSpec → FileState → KernelState
sourcing lists part s = record {
  kind = csv_kind lists;
  spec = csv_spec lists part;
  own = record idle_own { unmade = source_unmade part.types s };
  stage = stage_in part s;
}

-- the inputs of a list that has grown
abbrev pub inputs_in : FileState → ℕ
inputs_in (Paths l) = cond l.grown (length l.paths) 0
inputs_in s = 0

-- a list works a chunk where nothing is left of the last one
abbrev pub open_in : FileState → Bool
open_in (Paths l) = length (left_rows l) == 0
open_in s = false

abbrev pub types_or : List ColumnType → Option Table → List ColumnType
types_or types None = types
types_or types (Some t) = t.types

abbrev pub left_types : List ColumnType → FileState → List ColumnType
left_types types (Paths l) = types_or types l.left
left_types types s = types

-- what is left of a chunk has the types of the list
abbrev pub HasFitLeft : List ColumnType → FileState → Type 0
HasFitLeft types s = left_types types s ≡ types

-- ---- what is done with a file that is fetched whole

-- what is made of its bytes
abbrev pub IsWholeFile : Bool → (header : Bool) → List ℕ → FileState → Type 0
IsWholeFile false header bytes (Rows r) = (r.rest ≡ part_records header bytes) × (r.count ≡ 0)
IsWholeFile true header bytes (Paths l) =
    (l.paths ≡ paths_in (Some bytes)) × (l.bad_line ≡ bad_line_in (Some bytes))
    × (l.grown ≡ false) × (l.left ≡ None)
IsWholeFile lists header bytes s = ⊥

-- nothing is bad, and nothing is left of a chunk
pub record IsListUsedUp (l : ListedPaths) : Type 0 where
  pub valid : l.bad_line ≡ None
  pub nothing_left : length (left_rows l) ≡ 0

-- what comes next of a list
abbrev pub IsNextOfList : ListedPaths → Offer → Type 0
IsNextOfList l offer.Record = IsSome l.bad_line
IsNextOfList l offer.Rows = (l.bad_line ≡ None) × (0 < length (left_rows l))
IsNextOfList l offer.Grow = IsListUsedUp l × (l.grown ≡ false) × (0 < length l.paths)
IsNextOfList l offer.Wants = IsListUsedUp l × ((l.grown ≡ true) ⊎ (length l.paths ≡ 0))
IsNextOfList l _ = ⊥

-- what comes next
abbrev pub IsNextOfSource : FileState → Offer → Type 0
IsNextOfSource (Rows r) o = o ≡ cond (at_end r.rest) offer.Wants offer.Record
IsNextOfSource (Paths l) o = IsNextOfList l o
IsNextOfSource s o = o ≡ offer.Fetch

-- the first rows that are left are given, of one chunk
pub record GivesLeft (most : ℕ) (old new given : Option Table) : Type 0 where
  pub rows : rows_if_some old ≡ rows_if_some given ++ rows_if_some new
  pub within : IfSome given (λ (t : Table). length t.rows ≤ most)
  pub types : (types : List ColumnType) → types_or types old ≡ types
      → (types_or types given ≡ types) × (types_or types new ≡ types)
  pub nothing : rows_if_some old ≡ [] → given ≡ None
  pub some : (0 < length (rows_if_some given)) ⊎ (rows_if_some new ≡ [])

-- a valid list that names a path and hasn't grown grows by its paths
pub record GrowsByPaths (lists : Bool) (list : PartSpec) (old new : FileState) (g : Growth) : Type
    0 where
  pub is_list : lists ≡ true
  pub before : ListedPaths
  pub old_is : old ≡ Paths before
  pub new_is : sourcing true list new ≡ sourcing true list (Paths (record before { grown = true }))
  pub valid : before.bad_line ≡ None
  pub ungrown : before.grown ≡ false
  pub names_path : 0 < length before.paths
  pub is : growth_form g ≡ list_growth list before.paths
