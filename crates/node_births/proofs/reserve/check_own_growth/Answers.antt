use Rattle.node_births.proofs.Imports.{Blank, IfErr, IfOk, List, None, Some, Wire, flaw_over, growth_form, subst, ◌∙◌, ◌≡◌}
use Rattle.node_births.proofs.reserve.check_own_growth.Goals as goal

pub returns-clause-flaw : goal.returns-clause-flaw
returns-clause-flaw g c = let cell = c.args.cell.now in
    subst (λ (x : List Wire × List Blank). IfOk c.check_growth_at.result (λ r. IfErr r (λ f.
    flaw_over cell.reserve.rank cell.reserve.nodes x.0 (record {
      blanks = x.1;
      edges =
          cell.reserve.edges;
    }) cell.seat.node (growth_form c.args.growth.now) ≡ Some f))) (λ j.
    (c.in_ok-wires.ensures j, (c.in_ok-blanks.ensures ∙ c.as_slice.ensures.value) j))
    c.check_growth_at.ensures.flaw

pub returns-clause-none : goal.returns-clause-none
returns-clause-none g c = let cell = c.args.cell.now in
    subst (λ (x : List Wire × List Blank). IfOk c.check_growth_at.result (λ r. IfOk r (λ g.
    flaw_over cell.reserve.rank cell.reserve.nodes x.0 (record {
      blanks = x.1;
      edges =
          cell.reserve.edges;
    }) cell.seat.node (growth_form c.args.growth.now) ≡ None))) (λ j.
    (c.in_ok-wires.ensures j, (c.in_ok-blanks.ensures ∙ c.as_slice.ensures.value) j))
    c.check_growth_at.ensures.none
