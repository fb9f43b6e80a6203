use Rattle.exec_table.proofs.Imports.{IsBack, IsLent, drop, identity_of, views, ◌≡◌}
use Rattle.exec_table.proofs.Surveying.{Between}
use Rattle.exec_table.proofs.rule.ExecTable.survey.Given as goal

abbrev pub invariant-loop-i : goal.invariant-loop-i
invariant-loop-i l = record {
  table : l.root.table_id ≡ l.self.table.shared.table_id;
  nodes : l.root.me.0.nodes ≡ views (drop l.i l.fn.seats);
  seats : Between (IsBack (identity_of l.self)) IsLent l.i l.fn.seats l.seats;
}
