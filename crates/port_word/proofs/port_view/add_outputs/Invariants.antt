use Rattle.port_word.proofs.Imports.{no_flags, replicate, vec_capacity, ◌++◌, ◌≡◌, ◌≤◌}
use Rattle.port_word.proofs.port_view.add_outputs.Given as goal

abbrev pub invariant-loop-o : goal.invariant-loop-o
invariant-loop-o l = record {
  added : l.ports.items ≡ l.initial.ports.items ++ replicate l._o no_flags;
  room : vec_capacity l.initial.ports ≤ vec_capacity l.ports;
}
