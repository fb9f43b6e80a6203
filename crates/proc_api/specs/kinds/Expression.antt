-- An expression gives the row of its items' values for each row.
use Rattle.std.specs.Prelude.{◌++◌, ◌≡◌}
use Rattle.proc_api.specs.KindContract.{All, ColumnType, Expr, IsItem, IsPulled, KindContract, List, Lists, None, chunk_by_chunk, chunk_rows, fixed_ports, idle_work, item_row, map, type_of}

-- a chunk was pulled that fits the items, of which they make these types
pub record IsMadeOfPulled (items : List Expr) (ins : Lists) (types : List ColumnType) : Type 0 where
  pub from : List ColumnType
  pub pulled : IsPulled ins from
  pub fits : All (IsItem from) items
  pub is : types ≡ map (λ e. type_of e from) items

abbrev pub expression_contract : List Expr → KindContract
expression_contract items = record {
  ports = fixed_ports 1 1;
  fits = λ i types. All (IsItem types) items;
  types = IsMadeOfPulled items;
  most_rows = None;
  idle = λ w. w ≡ record idle_work { unworked = w.unworked; made = w.made };
  made = λ x own worked outs wait.
      chunk_rows (outs 0) ++ wait ≡ map (item_row items) (chunk_rows (worked 0));
  traits = chunk_by_chunk;
}
