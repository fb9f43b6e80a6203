use Rattle.node_births.proofs.Imports.{GainsPorts, IsSeatOf, identity_of, ports_picture, view, ◌≡◌}
use Rattle.node_births.proofs.more_ports.add_ports.Given as goal

abbrev pub invariant-loop-port : goal.invariant-loop-port
invariant-loop-port l = record {
  seat : IsSeatOf (identity_of l.table) l.seat;
  number : (view l.seat).number ≡ (view l.initial.seat).number;
  gains : GainsPorts l.consumer l.first l.wires l._port
      (ports_picture l.initial.ports l.initial.seat) (ports_picture l.ports l.seat);
}
