-- What is named of a run.
use Rattle.std.specs.Prelude.{ℕ}
use Rattle.atomic_table.specs.Seated.{TableId}
use Rattle.exec_table.specs.Seats.{Identity}
use Rattle.node_births.specs.Left.{NamedNode}

-- the table of the cells' seats, that of the notes of growths, and what each node's box and reserve
-- were before the run
pub record Names : Type 0 where
  pub identity : Identity
  pub notes : TableId
  pub node : ℕ → NamedNode
