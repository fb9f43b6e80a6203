-- The records of a part that are left.
use Rattle.chunk_data.specs.Names.{AreLong, FitsTypes, Row, append_each, column_type, rows_of, values}
use Rattle.chunk_data.specs.declared.typed_column.Column.{Column}
use Rattle.query_model.specs.Parts.{bad_place, good_rows}
use Rattle.query_model.specs.Prelude.{ColumnType, Value}
use Rattle.std.specs.Prelude.{Bool, List, [], false, length, map, true, ℕ, ◌++◌, ◌+◌, ◌<◌, ◌∷◌, ◌≡◌, ◌≤◌}

-- what a contract sees: the records that are left, and how many were passed
pub record RowsLeft : Type 0 where
  pub rest : List (List (List ℕ))
  pub count : ℕ

abbrev pub at_end : List (List (List ℕ)) → Bool
at_end [] = true
at_end (fields ∷ more) = false

-- The good rows of the records that were left are the rows taken, at most so many, and those of the
-- records that are left now. A row at least was taken where a record was left.
pub record TakesRows (types : List ColumnType) (old new : RowsLeft) (rows : List Row) (most : ℕ)
    : Type 0 where
  pub good : good_rows types old.rest ≡ rows ++ good_rows types new.rest
  pub places :
      bad_place (old.count + 1) types old.rest ≡ bad_place (new.count + 1) types new.rest
  pub within : length rows ≤ most
  pub some : at_end old.rest ≡ false → 0 < most → 0 < length rows

-- the rows that were taken are those of the columns
pub record ReadsFront (types : List ColumnType) (old new : RowsLeft) (columns : List (List Value))
    (count most : ℕ) : Type 0 where
  pub long : AreLong count columns
  pub takes : TakesRows types old new (rows_of count columns) most

-- one record, which is a row, was taken and added to the columns
pub record TakesRow (old new : RowsLeft) (before after : List Column) : Type 0 where
  pub row : Row
  pub fits : FitsTypes (map column_type before) row
  pub good : good_rows (map column_type before) old.rest
      ≡ row ∷ good_rows (map column_type before) new.rest
  pub places : bad_place (old.count + 1) (map column_type before) old.rest
      ≡ bad_place (new.count + 1) (map column_type before) new.rest
  pub added : map values after ≡ append_each (map values before) (map (λ v. v ∷ []) row)
