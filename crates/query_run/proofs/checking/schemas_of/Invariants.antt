use Rattle.query_run.proofs.Imports.{TableDecl, map, take, ◌≡◌}
use Rattle.query_run.proofs.checking.schemas_of.Given as goal

abbrev pub invariant-loop-table : goal.invariant-loop-table
invariant-loop-table l =
    l.schemas.items ≡ map (λ (t : TableDecl). t.schema) (take l.table-index l.tables)
