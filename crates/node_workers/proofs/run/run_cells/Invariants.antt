use Rattle.node_workers.proofs.Imports.{identity_of, named_by}
use Rattle.node_workers.proofs.run.run_cells.Given as goal

abbrev pub ghosts-run_named : goal.ghosts-run_named
ghosts-run_named g a = record {
  names = record {
    identity = identity_of a.table;
    notes = a.notes.table.shared.table_id;
    node = named_by g.P.Processor.seen a.cells.items;
  };
}
