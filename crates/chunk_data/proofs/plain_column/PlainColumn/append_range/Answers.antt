use Rattle.chunk_data.proofs.Imports.{arith, map-append}
use Rattle.chunk_data.proofs.Cells.{maps}
use Rattle.chunk_data.proofs.plain_column.PlainColumn.append_range.Goals as goal
use Rattle.chunk_data.proofs.plain_column.PlainColumn.append_range.Goals.{in-Int64-Int64+in_ok-extend_from_slice-in-Int64-Int64, in-UInt64-UInt64+in_ok-extend_from_slice-in-UInt64-UInt64, in-Text-Text}

pub returns-clause-ok : goal.returns-clause-ok
returns-clause-ok c = elim c.match-self.branch [
  | in-Int64-Int64+in_ok-extend_from_slice-in-Int64-Int64 w ↦ grind (arith, map-append, maps)
  | in-UInt64-UInt64+in_ok-extend_from_slice-in-UInt64-UInt64 w ↦ grind (arith, map-append, maps)
  | in-Text-Text w ↦ grind (arith, map-append, maps)
]
