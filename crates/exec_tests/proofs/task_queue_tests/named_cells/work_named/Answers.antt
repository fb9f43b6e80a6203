use Rattle.std.proofs.Common.{sym, ap, subst, ◌∙◌}
use Rattle.exec_tests.specs.NamedCells.{IsAsNamed}
use Rattle.exec_tests.proofs.task_queue_tests.named_cells.work_named.Goals as goal

pub work_cells-requires-clause-first : goal.work_cells-requires-clause-first
work_cells-requires-clause-first g c = λ κs lives. let a = c.new-a.ensures in record {
  of = ap (λ s. s.table_id) a.place.1 ∙ c.requires.seats.0;
  number = a.place.0;
  same = subst (λ p. IsAsNamed (g.J.Naming.named 0) (g.P.Worker.seen p)) (sym a.worker)
      c.requires.boxes.0;
}

pub work_cells-requires-clause-second : goal.work_cells-requires-clause-second
work_cells-requires-clause-second g c = λ κs lives. let b = c.new-b.ensures in record {
  of = ap (λ s. s.table_id) b.place.1 ∙ c.requires.seats.1;
  number = b.place.0;
  same = subst (λ p. IsAsNamed (g.J.Naming.named 1) (g.P.Worker.seen p)) (sym b.worker)
      c.requires.boxes.1;
}

pub returns : goal.returns
returns g c = let fit = c.in_ok-first.ensures in (
  subst (λ p. IsAsNamed (g.J.Naming.named 0) (g.P.Worker.seen p)) (sym c.into_worker.ensures)
      fit.0.same,
  subst (λ p. IsAsNamed (g.J.Naming.named 1) (g.P.Worker.seen p)) (sym c.into_worker-2.ensures)
      fit.1.same,
)
