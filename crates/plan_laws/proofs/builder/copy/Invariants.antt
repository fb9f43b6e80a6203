use Rattle.std.proofs.Common.{take, ◌++◌, ◌≡◌}
use Rattle.plan_laws.proofs.builder.copy.Given as goal

abbrev pub invariant-loop-end : goal.invariant-loop-end
invariant-loop-end l = l.to ≡ l.initial.to ++ take l.end-index l.from
