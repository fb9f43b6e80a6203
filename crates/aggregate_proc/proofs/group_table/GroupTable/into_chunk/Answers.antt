use Rattle.aggregate_proc.proofs.Imports.{group_table_view}
use Rattle.aggregate_proc.proofs.GroupLaws.{chunk-long}
use Rattle.aggregate_proc.proofs.group_table.GroupTable.into_chunk.Goals as goal

pub of_columns-requires : goal.of_columns-requires
of_columns-requires c =
    let t = group_table_view c.self.inside.types c.self.inside.keys c.self.inside.seen
    c.self.inside.columns.items in
    chunk-long t c.len.result c.in_ok-columns.columns c.self.invariant.0 c.len.ensures
    c.in_ok-columns.ensures.values
