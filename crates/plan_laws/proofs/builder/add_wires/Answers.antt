use Rattle.plan_laws.proofs.graph.Building.{wire_to, wires-more}
use Rattle.proc_api.proofs.Imports.{append_assoc, arith}
use Rattle.plan_laws.proofs.builder.add_wires.Goals as goal

pub loop-i-preserved : goal.loop-i-preserved
loop-i-preserved c = grind (arith, wire_to, wires-more, append_assoc)
