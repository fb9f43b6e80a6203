use Rattle.query_run.proofs.Imports.{Table, ap₂, arith, chunk_rows, flat_map, heading, inl, refl, rows_text, ◌++◌, ◌∙◌}
use Rattle.plan_run.specs.declared.run.PlanFault.TheVariants as end
use Rattle.query_run.specs.declared.ending.PlanFailure.TheVariants as plan
use Rattle.query_run.proofs.Composing.{heading_before_rows}
use Rattle.query_run.proofs.Planned.{few-edges, made-cause, made-runnable, made-text}
use Rattle.query_run.proofs.answer.planned_text.Goals as goal

pub graph_of-requires : goal.graph_of-requires
graph_of-requires g c = few-edges c.requires.within c.requires.checked c.requires.planned

pub run_plan-requires-clause-runnable : goal.run_plan-requires-clause-runnable
run_plan-requires-clause-runnable g c κs lives =
    made-runnable c.requires.within c.requires.checked c.requires.planned
    c.in-Ok-graph_of.ensures c.requires.runnable _ c.requires.blank c.workers_for.ensures.some
    (omega (arith, c.workers_for.ensures.few, c.requires.within.few_threads))

pub returns-in-Ok-write_rows : goal.returns-in-Ok-write_rows
returns-in-Ok-write_rows g c = record {
  blank = c.in-Ok-run_plan.ensures.blank;
  text = made-text c.requires.within c.requires.checked c.requires.planned
      c.in-Ok-graph_of.ensures c.requires.runnable _ (record {
        chunks = c.in-Ok-run_plan.chunks.items;
        gives = c.in-Ok-run_plan.ensures.gives.rows;
        is = c.in-Ok-write_rows.ensures
            ∙ ap₂ (λ o l. heading o ++ rows_text (flat_map (λ (t : Table). t.rows) l))
            c.heading_names-heading.ensures c.as_slice.ensures.value
            ∙ heading_before_rows c.args.command.now.header c.args.checked.now.names
            (chunk_rows c.in-Ok-run_plan.chunks.items);
      });
  cause = tt;
}

pub returns-in-Ok-run_plan : goal.returns-in-Ok-run_plan
returns-in-Ok-run_plan g c = grind (
  arith,
  made-cause c.requires.within c.requires.checked c.requires.planned c.in-Ok-graph_of.ensures
      c.requires.runnable end.Memory plan.Memory refl refl c.in-Ok.ensures (inl refl)
      c.in-Ok-run_plan.ensures.rack tt,
)

pub returns : goal.returns
returns g c = grind (
  arith,
  made-cause c.requires.within c.requires.checked c.requires.planned c.in-Ok-graph_of.ensures
      c.requires.runnable c.in-Err.fault c.failure_of.result c.as_slice-tables.ensures
      c.as_slice-in-Err.ensures.value c.in-Ok.ensures c.failure_of.ensures c.in-Err.ensures.rack
      c.in-Err.ensures.gives.fault,
)
