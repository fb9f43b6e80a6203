use Rattle.query_model.proofs.Imports.{AreColumnsFrom, take}
use Rattle.query_model.proofs.analysis.outputs.all_columns.Given as goal

abbrev pub invariant-loop-i : goal.invariant-loop-i
invariant-loop-i l = AreColumnsFrom 0 (take l.i l.columns) l.exprs.items
