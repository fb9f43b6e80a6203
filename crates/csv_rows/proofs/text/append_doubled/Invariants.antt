use Rattle.csv_rows.proofs.Imports.{doubled, flat_map}
use Rattle.query_model.proofs.Imports.{take, ◌++◌, ◌≡◌}
use Rattle.csv_rows.proofs.text.append_doubled.Given as goal

abbrev pub invariant-loop-byte : goal.invariant-loop-byte
invariant-loop-byte l =
    l.out.items ≡ l.initial.out.items ++ flat_map doubled (take l.byte-index l.text)
