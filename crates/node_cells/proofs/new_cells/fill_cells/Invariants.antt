use Rattle.node_cells.proofs.Imports.{length, ◌++◌, ◌+◌, ◌≡◌, ◌≤◌}
use Rattle.node_cells.specs.NewCells.{node_of_cell}
use Rattle.std.specs.Prelude.{map, vec_capacity}
use Rattle.node_cells.proofs.new_cells.fill_cells.Given as goal

abbrev pub invariant-loop-node : goal.invariant-loop-node
invariant-loop-node g l = record {
  processors : map (λ c. c.processor) l.cells.items ++ l.boxes.items ≡ l.initial.boxes.items;
  nodes : map node_of_cell l.cells.items ++ l.nodes.items ≡ l.initial.nodes.items;
  seats : map (λ c. c.seat) l.cells.items ++ l.seats.items ≡ l.initial.seats.items;
  done : length l.cells.items ≡ l._node;
  left : l._node + length l.boxes.items ≡ length l.initial.boxes.items;
  nodes_left : length l.nodes.items ≡ length l.boxes.items;
  seats_left : length l.seats.items ≡ length l.boxes.items;
  room : vec_capacity l.initial.cells ≤ vec_capacity l.cells;
}
