use Rattle.plan_run.proofs.Imports.{LoadsFirst, drop, map, ◌≡◌}
use Rattle.plan_run.proofs.boxes.load_boxes.Given as goal

abbrev pub invariant-loop-i : goal.invariant-loop-i
invariant-loop-i g l = record {
  loads : LoadsFirst l.i l.fn.specs.items (map g.P.Processor.seen l.initial.boxes.items)
      (map g.P.Processor.seen l.boxes.items);
  rest : l.specs.items ≡ drop l.i l.fn.specs.items;
}
