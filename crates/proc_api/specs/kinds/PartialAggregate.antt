-- A partial aggregate gives the groups of its rows, with a state for each call. No chunk fits a
-- spec that sums texts.
use Rattle.std.specs.Prelude.{◌++◌, ◌≡◌}
use Rattle.proc_api.specs.Grouped.{AreGrouped, FitsGroups, partial_rows, partial_types, spec_group_types}
use Rattle.proc_api.specs.KindContract.{GroupSpec, IsGatheringWork, KindContract, Some, chunk_rows, fixed_ports, reads_all_first}

abbrev pub partial_contract : GroupSpec → KindContract
partial_contract groups = record {
  ports = fixed_ports 1 1;
  fits = λ i. FitsGroups groups (partial_types groups);
  types = λ ins types. types ≡ spec_group_types groups;
  most_rows = Some groups.rows;
  idle = IsGatheringWork;
  made = λ x own worked outs wait. AreGrouped (partial_types groups) (partial_rows groups)
      (partial_rows groups) own (chunk_rows (worked 0)) (chunk_rows (outs 0) ++ wait);
  traits = reads_all_first;
}
