use Rattle.sort_procs.proofs.RankLaws.{MovesFront}
use Rattle.sort_procs.proofs.ranks.move_front.Given as goal

abbrev pub invariant-loop-i : goal.invariant-loop-i
invariant-loop-i l = MovesFront l.rows l.keys l.pivot l.i l.count l.initial.ranks l.ranks
