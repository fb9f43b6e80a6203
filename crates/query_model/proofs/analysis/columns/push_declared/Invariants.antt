use Rattle.query_model.proofs.Imports.{Named, length, table_columns, ◌≡◌}
use Rattle.query_model.proofs.analysis.columns.push_declared.Given as goal

abbrev pub invariant-loop-schema : goal.invariant-loop-schema
invariant-loop-schema l = record {
  unchanged : l.columns.items ≡ l.fn.columns.items;
  later : table_columns l.tables (Named l.table) ≡ table_columns l.rest (Named l.table);
}

abbrev pub decreases-loop-schema : goal.decreases-loop-schema
decreases-loop-schema l = length l.rest
