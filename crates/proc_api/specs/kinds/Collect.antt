-- A collector keeps its chunks until they are handed out.
use Rattle.std.specs.Prelude.{◌++◌, ◌≡◌}
use Rattle.proc_api.specs.KindContract.{KindContract, None, chunk_by_chunk, false, fixed_ports, idle_work, ⊤}

-- What it gathered are the chunks that it worked and, behind them, those that it hasn't worked yet.
abbrev pub collect_contract : KindContract
collect_contract = record {
  ports = fixed_ports 1 0;
  fits = λ i types. ⊤;
  types = λ ins types. ⊤;
  most_rows = None;
  idle = λ w. w ≡ record idle_work
      { unworked = w.unworked; gathered = w.gathered; handed_out = w.handed_out };
  made = λ x own worked outs wait. own.gathered ≡ worked 0 ++ x.unworked;
  traits = record chunk_by_chunk { in_order = false };
}
