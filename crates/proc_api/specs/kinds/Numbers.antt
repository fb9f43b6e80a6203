-- Numbers are a source without a file.
use Rattle.std.specs.Prelude.{◌++◌, ◌∷◌, ◌≡◌}
use Rattle.proc_api.specs.KindContract.{ColumnType, KindContract, Some, [], chunk_by_chunk, chunk_rows, fixed_ports, moved_work, numbers, ℕ, ⊤}

abbrev pub numbers_contract : (n rows : ℕ) → KindContract
numbers_contract n rows = record {
  ports = fixed_ports 0 1;
  fits = λ i types. ⊤;
  types = λ ins types. types ≡ ColumnType.UInt64 ∷ [];
  most_rows = Some rows;
  idle = λ w. w ≡ record (moved_work w) { unmade = w.unmade };
  made = λ x own worked outs wait. (chunk_rows (outs 0) ++ wait) ++ own.unmade ≡ (numbers n).rows;
  traits = chunk_by_chunk;
}
