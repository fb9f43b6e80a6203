use Rattle.std.specs.Prelude.{IfErr, IfOk}
use Rattle.graph_checks.proofs.Imports.{Some, None, growth_form, rank_at, subst, sym, ◌≡◌}
use Rattle.graph_checks.proofs.FlawLaws.{growth-flaw-is}
use Rattle.graph_checks.proofs.growths.check_growth.Goals as goal

pub returns-clause-flaw : goal.returns-clause-flaw
unfolding rank_at
returns-clause-flaw c =
    subst (λ o. IfOk c.check_growth_at.result (λ r. IfErr r (λ f. o ≡ Some f)))
    (sym (growth-flaw-is c.args.ranks.now c.args.wires.now
    (record { blanks = c.args.blanks.items; edges = c.args.edges_left }) c.args.n
    (growth_form c.args.growth.now))) c.check_growth_at.ensures.flaw

pub returns-clause-none : goal.returns-clause-none
unfolding rank_at
returns-clause-none c =
    subst (λ o. IfOk c.check_growth_at.result (λ r. IfOk r (λ g. o ≡ None)))
    (sym (growth-flaw-is c.args.ranks.now c.args.wires.now
    (record { blanks = c.args.blanks.items; edges = c.args.edges_left }) c.args.n
    (growth_form c.args.growth.now))) c.check_growth_at.ensures.none
