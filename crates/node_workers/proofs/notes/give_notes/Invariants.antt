use Rattle.node_workers.proofs.Imports.{HaveFirstNotes, IsRootOf, List, NodeCell, as_named, length, map, reserve_count, ◌≡◌}
use Rattle.node_workers.proofs.notes.give_notes.Given as goal

abbrev pub invariant-loop-k : goal.invariant-loop-k
invariant-loop-k g l = record {
  root_of : IsRootOf l.notes l.root;
  made : l.root.made ≡ l.k;
  one_each : reserve_count l.notes ≡ length l.reserves;
  first : (cells : List (NodeCell g.row.P.Denot)) → l.initial.named.items ≡ map as_named cells
      → HaveFirstNotes l.notes.table.shared.table_id l.reserves l.k cells l.named.items;
}
