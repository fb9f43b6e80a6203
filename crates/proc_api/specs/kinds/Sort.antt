-- A sort gives all rows in an order that its keys allow.
use Rattle.std.specs.Prelude.{◌++◌, ◌<◌, ◌≡◌}
use Rattle.proc_api.specs.KindContract.{All, ColumnType, IsGatheringWork, IsPermutation, IsSorted, KindContract, List, OwnState, Row, Some, SortKey, SortSpec, [], chunk_rows, false, fixed_ports, length, reads_all_first, row_cmp, true}

-- each key is of one of the columns
abbrev pub AreKeysWithin : SortSpec → Type 0
AreKeysWithin order = All (λ (key : SortKey). key.column < length order.types) order.keys

-- the types are those of the order, which has the columns of its keys
pub record FitsOrder (order : SortSpec) (types : List ColumnType) : Type 0 where
  pub types_are : types ≡ order.types
  pub keys_within : AreKeysWithin order

-- the rows in an order that the keys allow
pub record IsSortOf (keys : List SortKey) (rows out : List Row) : Type 0 where
  pub same : IsPermutation rows out
  pub in_order : IsSorted (row_cmp keys) out

-- nothing is made yet, and the rows are gathered
pub record AreGathered (own : OwnState) (rows made : List Row) : Type 0 where
  pub nothing_made : made ≡ []
  pub nothing_unmade : own.unmade ≡ []
  pub rows_are : chunk_rows own.gathered ≡ rows

-- The rows are gathered until the end is noted. From then on those that are made, and behind them
-- those that can be made, are the rows in order.
pub record AreSorted (keys : List SortKey) (own : OwnState) (rows made : List Row) : Type 0 where
  pub gathered : own.ended ≡ false → AreGathered own rows made
  pub sorted : own.ended ≡ true → IsSortOf keys rows (made ++ own.unmade)

abbrev pub sort_contract : SortSpec → KindContract
sort_contract order = record {
  ports = fixed_ports 1 1;
  fits = λ i. FitsOrder order;
  types = λ ins types. types ≡ order.types;
  most_rows = Some order.rows;
  idle = IsGatheringWork;
  made = λ x own worked outs wait.
      AreSorted order.keys own (chunk_rows (worked 0)) (chunk_rows (outs 0) ++ wait);
  traits = reads_all_first;
}
