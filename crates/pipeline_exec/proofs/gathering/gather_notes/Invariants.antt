use Rattle.pipeline_exec.specs.Gathering.{AreGatheredTo, AreOfNotes}
use Rattle.pipeline_exec.proofs.gathering.gather_notes.Given as goal

abbrev pub invariant-loop-n : goal.invariant-loop-n
invariant-loop-n g l = record {
  note : AreOfNotes l.notes.table.shared.table_id l.cells.items;
  gathered : AreGatheredTo l.reserves l.n l.fn.cells.items l.cells.items;
}
