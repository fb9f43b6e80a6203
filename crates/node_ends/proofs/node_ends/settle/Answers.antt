use Rattle.node_ends.proofs.Imports.{IsSurveyRoom, ap, get_or, identity_of, refl, subst, sym, ◌∙◌}
use Rattle.node_ends.proofs.CellChanges.{stopped-both, visited-both}
use Rattle.node_ends.proofs.Settling.{settled-cells}
use Rattle.node_ends.proofs.Surveys.{all-seats, surveyed-visited}
use Rattle.node_ends.proofs.node_ends.settle.Goals as goal

pub survey_cells-requires-clause-seats : goal.survey_cells-requires-clause-seats
survey_cells-requires-clause-seats g c = all-seats g.P.Processor.seen
    (identity_of c.args.table.now) c.requires.cells.0 c.loop.cells.items
    (c.loop.invariant.visited.cells c.requires.cells.0 c.requires.cells.1)

pub returns-then-is_settled-clause-visited : goal.returns-then-is_settled-clause-visited
returns-then-is_settled-clause-visited g c = surveyed-visited (identity_of c.args.table.now) _ _
    c.survey_cells.ensures.cells g.P.Processor.seen _ c.loop.invariant.visited

pub returns-then-is_settled-clause-settled : goal.returns-then-is_settled-clause-settled
returns-then-is_settled-clause-settled g c =
    let visited = surveyed-visited (identity_of c.args.table.now) _ _ c.survey_cells.ensures.cells
    g.P.Processor.seen _ c.loop.invariant.visited in
    λ graph all. settled-cells g.P.Processor.seen (identity_of c.args.table.now) graph
    c.survey_cells.new.cells.items c.survey_cells.new.room.words.items (visited.cells graph all)
    (c.if-is_settled.ensures.rest refl) c.survey_cells.ensures.shown
    (ap (λ l. get_or l 0 0) (sym c.as_slice.ensures.value) ∙ c.if-is_settled.ensures.pending refl)

pub visit_all-requires-clause-cells : goal.visit_all-requires-clause-cells
visit_all-requires-clause-cells g c κs within = (
  c.requires.cells.0,
  (surveyed-visited (identity_of c.args.table.now) _ _ c.survey_cells.ensures.cells
      g.P.Processor.seen _ c.loop.invariant.visited).cells c.requires.cells.0 c.requires.cells.1,
)

pub returns-in-Err-clause-stop : goal.returns-in-Err-clause-stop
returns-in-Err-clause-stop g c = stopped-both g.P.Processor.seen (identity_of c.args.table.now)
    _ _ _ (surveyed-visited _ _ _ c.survey_cells.ensures.cells g.P.Processor.seen _
    c.loop.invariant.visited) _ _ c.in-Err.ensures.stop

pub loop-preserved : goal.loop-preserved
loop-preserved g c =
    let t = identity_of c.args.table.now in record {
      pass = c.visit_all.ensures.pass;
      visited = visited-both g.P.Processor.seen t _ _ _ (surveyed-visited _ _ _
          c.survey_cells.ensures.cells g.P.Processor.seen _ c.loop.invariant.visited)
          c.in-Ok.ensures.ok;
      room = subst (λ k. IsSurveyRoom t k c.survey_cells.new.room)
          c.loop.invariant.visited.count c.survey_cells.ensures.room;
    }
