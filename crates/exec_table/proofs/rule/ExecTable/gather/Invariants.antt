use Rattle.exec_table.proofs.Imports.{IsLent, [], take, views, ◌≡◌}
use Rattle.exec_table.proofs.Surveying.{Between}
use Rattle.exec_table.proofs.rule.ExecTable.gather.Given as goal

abbrev pub invariant-loop-i : goal.invariant-loop-i
invariant-loop-i l = record {
  table : l.root.table_id ≡ l.initial.root.table_id;
  nodes : l.root.me.0.nodes ≡ views (take l.i l.initial.seats);
  noted : l.root.me.0.noted ≡ [];
  seats : Between IsLent (λ was s. was ≡ s) l.i l.initial.seats l.seats;
}
