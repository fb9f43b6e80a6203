use Rattle.std.proofs.Common.{◌≡◌, ◌<◌, ◌≤◌, ◌-◌, length, true}
use Rattle.sort_procs.proofs.Imports.{AreRanked, AreUsedFrom, IsFirstBut, Merges, is_ready, list_all}
use Rattle.sort_procs.proofs.merged_rows.merge_chunk.Given as goal

abbrev pub invariant-fill : goal.invariant-fill
invariant-fill l = record {
  are : AreRanked l.order l.heads;
  ready : list_all is_ready l.heads ≡ true;
  types : l.chunk.types ≡ l.order.types;
  few : length l.chunk.rows ≤ l.most;
  merges : Merges l.order.keys l.fn.heads l.heads l.chunk.rows;
  within : l.count ≤ length l.heads;
  behind : AreUsedFrom l.heads l.count;
  first : length l.chunk.rows < l.most → IsFirstBut l.order.keys l.heads l.count l.count l.first;
}

abbrev pub decreases-fill : goal.decreases-fill
decreases-fill l = l.most - length l.chunk.rows
