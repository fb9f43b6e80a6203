-- A resize passes on what it is given, by outputs that have room. It takes every chunk, and may get
-- more ports as long as it has closed and finished none.
use Rattle.std.specs.Prelude.{◌<◌, ◌≡◌}
use Rattle.proc_api.specs.KindContract.{AreResized, IsPulled, KindContract, MayGrowOpen, None, [], chunk_by_chunk, false, moved_work, ⊤}

abbrev pub resize_contract : KindContract
resize_contract = record {
  ports = λ growth i o. 0 < o;
  fits = λ i types. ⊤;
  types = IsPulled;
  most_rows = None;
  idle = λ w. w ≡ moved_work w;
  made = λ x own worked outs wait. (own.unmade ≡ []) × AreResized worked outs wait;
  traits = record chunk_by_chunk { still = MayGrowOpen; in_order = false };
}
