-- A merge of partial groups gives the groups of all inputs. No chunk fits a spec that sums texts.
use Rattle.std.specs.Prelude.{◌++◌, ◌≡◌}
use Rattle.proc_api.specs.Grouped.{AreGrouped, FitsGroups, merged_rows, merged_states, spec_group_types}
use Rattle.proc_api.specs.KindContract.{AreAsKept, GroupSpec, IsGatheringWork, KindContract, Some, all_rows, chunk_rows, reads_all_first}

abbrev pub merge_contract : GroupSpec → KindContract
merge_contract groups = record {
  ports = λ growth i o. o ≡ 1;
  fits = λ i. FitsGroups groups (spec_group_types groups);
  types = λ ins types. types ≡ spec_group_types groups;
  most_rows = Some groups.rows;
  idle = IsGatheringWork;
  made = λ x own worked outs wait. AreGrouped (spec_group_types groups) (merged_states groups)
      (merged_rows groups) own (all_rows 32 worked) (chunk_rows (outs 0) ++ wait);
  traits = record reads_all_first { still = AreAsKept };
}
