-- What is named of the boxes that lie on a shelf, as of the cells of an executor.
use Rattle.std.specs.Prelude.{◌≡◌, ◌≤◌, ◌+◌, ℕ, zero, suc, List, [], Bool, true, Option, Some, None}
use Rattle.atomic_table.specs.Seated.{TableId}

-- A box: its kind, its told files, whether it keeps its contract, its spec, and its counts with
-- what each rose since the box was loaded.
pub record NamedBox : Type 0 where
  pub kind : ℕ
  pub files : Option (List ℕ)
  pub lawful : Bool
  pub spec : Option ℕ
  pub faults : ℕ
  pub faults_since : ℕ
  pub pendings : ℕ
  pub pendings_since : ℕ
  pub pulled : ℕ
  pub pulled_since : ℕ

-- The box is as it was named. A base count is a count less what it rose since the box was loaded;
-- those of faults and pendings are no lower, and that of pulled rows is the same.
pub record IsAsNamed (was now : NamedBox) : Type 0 where
  pub kind : now.kind ≡ was.kind
  pub files : now.files ≡ was.files
  pub lawful : now.lawful ≡ was.lawful
  pub spec : (s : ℕ) → was.spec ≡ Some s → now.spec ≡ Some s
  pub faults : was.faults + now.faults_since ≤ now.faults + was.faults_since
  pub pendings : was.pendings + now.pendings_since ≤ now.pendings + was.pendings_since
  pub pulled : now.pulled + was.pulled_since ≡ was.pulled + now.pulled_since

-- A cell fits place n: its seat is of the named table, its number is n, and its box is as named.
pub record NamedCellFits
    (table : TableId)
    (named : ℕ → NamedBox)
    (seat : TableId)
    (k : ℕ)
    (box : NamedBox)
    (n : ℕ) : Type 0 where
  pub of : seat ≡ table
  pub number : k ≡ n
  pub same : IsAsNamed (named n) box

abbrev pub two_names : NamedBox → NamedBox → ℕ → NamedBox
two_names a b zero = a
two_names a b (suc n) = b

-- a worker that only pulls rows
abbrev pub counter : ℕ → ℕ → NamedBox
counter kind pulled = record {
  kind = kind;
  files = None;
  lawful = true;
  spec = None;
  faults = 0;
  faults_since = 0;
  pendings = 0;
  pendings_since = 0;
  pulled = pulled;
  pulled_since = pulled;
}

abbrev pub no_table_id : TableId
no_table_id = record {
  words = 0;
  slots = 0;
  views_name = 0;
  atom = 0;
  block = 0;
  offset = 0;
  slot_names = [];
}
