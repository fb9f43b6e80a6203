use Rattle.std.proofs.Common.{◌≡◌, map}
use Rattle.sort_procs.proofs.Imports.{All, HasRanks, count_up, ranked_place}
use Rattle.sort_procs.proofs.ranks.ranks_of.Given as goal

abbrev pub invariant-loop-place : goal.invariant-loop-place
invariant-loop-place l = record {
  places : map ranked_place l.ranks.items ≡ count_up l.place;
  ranked : All (HasRanks l.rows l.keys) l.ranks.items;
}
