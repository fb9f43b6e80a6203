use Rattle.port_word.proofs.Imports.{Bool, drop, noted_want, take, ◌++◌, ◌≡◌}
use Rattle.port_word.proofs.notes.want_place.Given as goal

abbrev pub invariant-loop-k : goal.invariant-loop-k
invariant-loop-k l = (b : Bool)
    → noted_want l.i b l.actions ≡ take l.k l.actions ++ noted_want l.i b (drop l.k l.actions)
