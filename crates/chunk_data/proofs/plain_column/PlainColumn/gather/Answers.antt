use Rattle.chunk_data.proofs.Imports.{[], pos}
use Rattle.chunk_data.proofs.Cells.{places_of}
use Rattle.chunk_data.proofs.plain_column.PlainColumn.gather.Goals as goal

pub returns-in_ok-gather_ints-in-Int64-clause-values :
    goal.returns-in_ok-gather_ints-in-Int64-clause-values
returns-in_ok-gather_ints-in-Int64-clause-values c =
    places_of _ c.in-Int64.numbers.items _ _ _ (pos 0) _ (rw c.in-Int64.is) c.requires
    c.in_ok-gather_ints-in-Int64.ensures

pub returns-in_ok-gather_uints-in-UInt64-clause-values :
    goal.returns-in_ok-gather_uints-in-UInt64-clause-values
returns-in_ok-gather_uints-in-UInt64-clause-values c =
    places_of _ c.in-UInt64.numbers.items _ _ _ 0 _ (rw c.in-UInt64.is) c.requires
    c.in_ok-gather_uints-in-UInt64.ensures

pub returns-in_ok-gather-in-Text-clause-values : goal.returns-in_ok-gather-in-Text-clause-values
returns-in_ok-gather-in-Text-clause-values c =
    places_of _ c.in-Text.texts _ _ _ [] _ (rw c.in-Text.is) c.requires
    c.in_ok-gather-in-Text.ensures
