use Rattle.query_run.proofs.Imports.{GrewBy, flat_map, piece_bytes, take, ◌≤◌}
use Rattle.query_run.proofs.telling.write_pieces.Given as goal

abbrev pub invariant-loop-i : goal.invariant-loop-i
invariant-loop-i g l = record {
  grew : GrewBy (g.E.Sink.written l.initial.err) (g.E.Sink.written l.err)
      (flat_map piece_bytes (take l.i l.pieces));
  kept : g.E.Sink.faults l.initial.err ≤ g.E.Sink.faults l.err;
}
