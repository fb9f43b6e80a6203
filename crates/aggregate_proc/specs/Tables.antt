-- A group table: of rows, their groups.
use Rattle.std.specs.Prelude.{◌≡◌, ℕ, ◌≤◌, List, [], ◌∷◌, ◌++◌, length, map}
use Rattle.aggregate_proc.specs.Prelude.{All, AllByRecursion, Call, ColumnType, HasKeyAt, Row, SeenKeys, Value, codes_in, combined, count_up, distinct_rows, grouped_by, key_at, key_code, rows_of, rows_with, value_at}
use Rattle.chunk_data.specs.Values.{type_at}
use Rattle.aggregate_proc.specs.declared.fold.Fold.{Fold}
use Rattle.aggregate_proc.specs.declared.fold.Fold.TheVariants as fold
use Rattle.aggregate_proc.specs.Cells.{FitsColumn}
use Rattle.aggregate_proc.specs.Folds.{FoldColumn, folded}

-- what is folded of which column of the input
pub record Folding : Type 0 where
  pub op : Fold
  pub input : ℕ
  pub kind : ColumnType

abbrev pub folding_of : FoldColumn → Folding
folding_of c = record { op = c.op; input = c.input; kind = c.kind }

abbrev pub argument_at : Folding → Row → Value
argument_at f row = value_at row f.input

-- the key of a row: its first n values
abbrev pub key_of : ℕ → Row → Row
key_of n row = key_at (count_up n) row

-- the keys of the groups, in order of first appearance
abbrev pub group_keys : ℕ → List Row → List Row
group_keys n rows = distinct_rows (map (key_of n) rows)

-- what is folded of the rows with a key
abbrev pub folded_at : ℕ → List Row → Folding → Row → Value
folded_at n rows f key = folded f.op (map (argument_at f) (rows_with (key_of n) key rows))

abbrev pub group_column : ℕ → List Row → Folding → FoldColumn
group_column n rows f = record {
  op = f.op;
  input = f.input;
  kind = f.kind;
  values = map (folded_at n rows f) (group_keys n rows);
}

-- the first n values of the row are a key
abbrev pub HasKeyFirst : List ColumnType → ℕ → Row → Type 0
HasKeyFirst types n row = HasKeyAt types (count_up n) row

-- The table of these rows of the types: the codes seen are those of their keys, the first n values,
-- and each column has
-- what is folded of each group.
pub record IsGroupTableOf (types : List ColumnType) (n : ℕ) (foldings : List Folding)
    (codes : List (List ℕ)) (columns : List FoldColumn) (rows : List Row) : Type 0 where
  pub input : AllByRecursion (HasKeyFirst types n) rows
  pub seen : codes ≡ map key_code (group_keys n rows)
  pub folds : columns ≡ map (group_column n rows) foldings

-- what is seen of a group table: the types of its input, of which the first are its keys, the codes
-- seen, and its columns
pub record GroupTableView : Type 0 where
  pub types : List ColumnType
  pub keys : ℕ
  pub codes : List (List ℕ)
  pub columns : List FoldColumn

abbrev pub group_table_view : List ColumnType → ℕ → SeenKeys → List FoldColumn → GroupTableView
group_table_view types keys seen columns =
    record { types = types; keys = keys; codes = codes_in seen; columns = columns }

-- the table of some rows
pub record IsGroupTable (t : GroupTableView) : Type 0 where
  pub wide : t.keys ≤ length t.types
  pub fits : All (FitsColumn t.types) t.columns
  pub rows : List Row
  pub is : IsGroupTableOf t.types t.keys (map folding_of t.columns) t.codes t.columns rows

abbrev pub foldings_of : GroupTableView → List Folding
foldings_of t = map folding_of t.columns

abbrev pub fold_types : GroupTableView → List ColumnType
fold_types t = map (λ (c : FoldColumn). c.kind) t.columns

-- the rows of a table: of each group its key, and what is folded of it
abbrev pub group_table_rows : GroupTableView → List Row
group_table_rows t = rows_of (length t.codes) (map (λ (c : FoldColumn). c.values) t.columns)

-- the columns that keep the first n values
abbrev pub key_foldings : List ColumnType → ℕ → List Folding
key_foldings types n =
    map (λ c. record { op = fold.First; input = c; kind = type_at types c })
    (count_up n)

-- the calls make of rows what is folded of them
abbrev pub AreCalls : List Folding → List Call → Type 0
AreCalls [] [] = Unit {0}
AreCalls (f ∷ foldings) (call ∷ calls) =
    ((rows : List Row)
    → folded f.op (map (argument_at f) rows) ≡ combined call.op (map call.arg rows))
    × AreCalls foldings calls
AreCalls foldings calls = ⊥

-- The groups of rows, and of more rows behind them.
pub record GroupsMore (old : GroupTableView) (more : List Row) (new : GroupTableView) : Type 0 where
  pub types : new.types ≡ old.types
  pub keys : new.keys ≡ old.keys
  pub foldings : foldings_of new ≡ foldings_of old
  pub groups : (calls : List Call) (foldings : List Folding)
      → foldings_of old ≡ key_foldings old.types old.keys ++ foldings
      → AreCalls foldings calls → (rows : List Row)
      → group_table_rows old ≡ grouped_by (key_of old.keys) calls rows
      → group_table_rows new ≡ grouped_by (key_of old.keys) calls (rows ++ more)
