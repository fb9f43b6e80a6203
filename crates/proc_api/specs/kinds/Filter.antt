-- A filter gives the rows at which its condition is true.
use Rattle.std.specs.Prelude.{◌++◌, ◌≡◌}
use Rattle.proc_api.specs.KindContract.{ColumnType, Cond, IsPulled, IsTypedCond, KindContract, List, Lists, None, chunk_by_chunk, chunk_rows, filter, fixed_ports, holds, idle_work}

-- a chunk of these types was pulled, and fits the condition
pub record IsFitPulled (c : Cond) (ins : Lists) (types : List ColumnType) : Type 0 where
  pub pulled : IsPulled ins types
  pub fits : IsTypedCond types c

abbrev pub filter_contract : Cond → KindContract
filter_contract c = record {
  ports = fixed_ports 1 1;
  fits = λ i types. IsTypedCond types c;
  types = IsFitPulled c;
  most_rows = None;
  idle = λ w. w ≡ record idle_work { unworked = w.unworked; made = w.made };
  made = λ x own worked outs wait.
      chunk_rows (outs 0) ++ wait ≡ filter (holds c) (chunk_rows (worked 0));
  traits = chunk_by_chunk;
}
