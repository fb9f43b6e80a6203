use Rattle.exec_table.proofs.Imports.{take, ◌≡◌}
use Rattle.exec_table.proofs.rule.ExecTable.note.Given as goal

abbrev pub invariant-loop-i : goal.invariant-loop-i
invariant-loop-i l = record {
  table : l.root.table_id ≡ l.initial.root.table_id;
  nodes : l.root.me.0.nodes ≡ l.initial.root.me.0.nodes;
  noted : l.root.me.0.noted ≡ take l.i l.words;
}
