use Rattle.port_word.proofs.Imports.{new_input, replicate, vec_capacity, ◌++◌, ◌≡◌, ◌≤◌}
use Rattle.port_word.proofs.port_view.add_inputs.Given as goal

abbrev pub invariant-loop-i : goal.invariant-loop-i
invariant-loop-i l = record {
  added : l.ports.items ≡ l.initial.ports.items ++ replicate l._i new_input;
  room : vec_capacity l.initial.ports ≤ vec_capacity l.ports;
}
