use Rattle.std.proofs.Common.{◌++◌, ◌≡◌}
use Rattle.plan_laws.proofs.Imports.{ports_of}
use Rattle.plan_laws.proofs.builder.add_outputs.Given as goal

abbrev pub invariant-loop-port : goal.invariant-loop-port
invariant-loop-port l = l.to ≡ l.initial.to ++ ports_of l.number 0 l.port
