use Rattle.node_ports.proofs.Imports.{identity_of, ports_picture}
use Rattle.node_ports.specs.Sights.{LooksOn}
use Rattle.node_ports.proofs.sights.look_at_updated.Given as goal

abbrev pub invariant-loop-k : goal.invariant-loop-k
invariant-loop-k l =
    LooksOn (identity_of l.table) l.k (ports_picture l.initial.ports l.initial.seat) l.ports l.seat
