use Rattle.join_proc.proofs.Imports.{AreFit, JoinsRows, length, ◌≡◌}
use Rattle.join_proc.proofs.left_rows.LeftRows.pair_some.Given as goal

abbrev pub invariant-loop-done : goal.invariant-loop-done
invariant-loop-done l = record {
  fit : AreFit l.join.pairs l.index.rows.rows l.self;
  chunk : l.self.chunk ≡ l.initial.self.chunk;
  joins : JoinsRows l.join.pairs l.index.rows.rows l.initial.self l.self l.pairs;
  many : length l.pairs.lefts.items ≡ l._done;
}
