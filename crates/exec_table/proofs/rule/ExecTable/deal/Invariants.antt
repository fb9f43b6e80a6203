use Rattle.exec_table.proofs.Imports.{IsOpen, NodeSeat, [], get_elem?, identity_of, length, no_view, sizes_in, some, vec_capacity, ℕ, ◌-◌, ◌≡◌}
use Rattle.exec_table.proofs.Starting.{nodes_from}
use Rattle.exec_table.proofs.rule.ExecTable.deal.Given as goal

abbrev pub invariant-loop-i : goal.invariant-loop-i
invariant-loop-i l = record {
  table : l.root.seat.table_id ≡ l.self.table.shared.table_id;
  view : l.root.seat.me ≡ (
    record no_view {
      nodes = nodes_from (sizes_in l.self) l.i ((sizes_in l.self).nodes - l.i);
      sizes = sizes_in l.self;
    },
    [],
  );
  count : length l.nodes.items ≡ l.i;
  room : vec_capacity l.nodes ≡ vec_capacity l.initial.nodes;
  each : (k : ℕ) (s : NodeSeat) → get_elem? l.nodes.items k ≡ some s
      → IsOpen (identity_of l.self) k s;
}
