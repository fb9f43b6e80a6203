use Rattle.graph_checks.proofs.Imports.{blank_place, drop, take, without_blank, ◌++◌, ◌≡◌}
use Rattle.graph_checks.proofs.places.take_blank.Given as goal

abbrev pub invariant-loop-i : goal.invariant-loop-i
invariant-loop-i l = record {
  same : l.blanks.items ≡ l.initial.blanks.items;
  place : blank_place l.kind l.blanks.items l.past
      ≡ blank_place l.kind (drop l.i l.blanks.items) l.past;
  rest : without_blank l.kind l.blanks.items
      ≡ take l.i l.blanks.items ++ without_blank l.kind (drop l.i l.blanks.items);
}
