use Rattle.std.proofs.Common.{◌≡◌, map, take}
use Rattle.sort_procs.specs.Ranks.{ranked_place}
use Rattle.sort_procs.proofs.ranks.gather_ranked.Given as goal

abbrev pub invariant-loop-ranked : goal.invariant-loop-ranked
invariant-loop-ranked l = l.places.items ≡ map ranked_place (take l.ranked-index l.ranks)
