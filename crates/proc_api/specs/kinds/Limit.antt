-- A limit gives the rows of a span, and ends as soon as it has read enough. It takes every chunk.
use Rattle.std.specs.Prelude.{◌++◌, ◌-◌, ◌<◌, ◌^◌, ◌≡◌, ◌≤◌}
use Rattle.proc_api.specs.KindContract.{IsPulled, KindContract, List, None, Row, Some, Span, chunk_by_chunk, chunk_rows, enough, fixed_ports, idle_work, length, limited, min, ℕ, ⊤}

-- the last value of a count of rows that were read
abbrev pub last_read : ℕ
last_read = 2 ^ 128 - 1

-- the rows of the span
pub record AreLimited (span : Span) (rows made : List Row) (read : ℕ) : Type 0 where
  pub read_are : read ≡ min (length rows) last_read
  pub made_are : made ≡ limited (Some span) rows

abbrev pub limit_contract : Span → KindContract
limit_contract span = record {
  ports = fixed_ports 1 1;
  fits = λ i types. ⊤;
  types = IsPulled;
  most_rows = None;
  idle = λ w. w ≡ record idle_work { unworked = w.unworked; made = w.made; read = w.read };
  made = λ x own worked outs wait.
      AreLimited span (chunk_rows (worked 0)) (chunk_rows (outs 0) ++ wait) own.read;
  traits = record chunk_by_chunk {
    enough = λ ins. enough span ≤ length (chunk_rows (ins 0));
    wanting = λ read. read < min (enough span) last_read;
    reads_whole = ⊥;
  };
}
