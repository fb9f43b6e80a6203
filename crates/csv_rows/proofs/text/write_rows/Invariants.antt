use Rattle.csv_rows.proofs.Imports.{heading, Table, flat_map, rows_text, option_copied}
use Rattle.query_model.proofs.Imports.{take, ◌++◌, ◌≡◌}
use Rattle.csv_rows.proofs.text.write_rows.Given as goal

abbrev pub invariant-loop-chunk : goal.invariant-loop-chunk
invariant-loop-chunk l =
    l.out.items ≡ heading (option_copied l.fn.names)
    ++ rows_text (flat_map (λ (c : Table). c.rows) (take l.chunk-index l.chunks))
