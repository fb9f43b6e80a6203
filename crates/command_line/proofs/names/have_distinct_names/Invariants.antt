use Rattle.command_line.proofs.Imports.{are_distinct, drop, map, ◌≡◌}
use Rattle.command_line.proofs.names.have_distinct_names.Given as goal

abbrev pub invariant-loop-i : goal.invariant-loop-i
invariant-loop-i g l = are_distinct (map g.T.Named.named l.items) ≡ are_distinct
    (map g.T.Named.named (drop l.i l.items))
