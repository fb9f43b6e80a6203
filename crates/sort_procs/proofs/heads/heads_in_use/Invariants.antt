use Rattle.std.proofs.Common.{◌≡◌, ◌<◌, ◌≤◌, true, ℕ}
use Rattle.sort_procs.specs.Heads.{at, is_used}
use Rattle.sort_procs.proofs.heads.heads_in_use.Given as goal

abbrev pub invariant-loop-i : goal.invariant-loop-i
invariant-loop-i l = record {
  few : l.count ≤ l.i;
  behind : (j : ℕ) → l.count ≤ j → j < l.i → is_used (at l.heads j) ≡ true;
}
