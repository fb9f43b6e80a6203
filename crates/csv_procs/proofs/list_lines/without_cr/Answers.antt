use Rattle.csv_procs.proofs.Imports.{None, Some, [], eq-eqb, eqb-true, strip_suffix_is, subst, sym, without_cr, ◌∷◌, ◌≡◌}
use Rattle.csv_procs.proofs.ListTexts.{cr-dropped, cr-kept}
use Rattle.csv_procs.proofs.list_lines.without_cr.Goals as goal

pub returns-in-Some : goal.returns-in-Some
returns-in-Some c =
    let front = c.in-Some.front.now in
    subst (λ line. front ≡ without_cr line)
    (sym (strip_suffix_is (λ a b. (eqb-true a b, eq-eqb a b)) c.args.line.now (13 ∷ [])
    (Some c.in-Some.front) c.in-Some.ensures.cases)) (sym (cr-dropped front))

pub returns-in-None : goal.returns-in-None
returns-in-None c =
    sym (cr-kept c.args.line.now (strip_suffix_is (λ a b. (eqb-true a b, eq-eqb a b))
    c.args.line.now (13 ∷ []) None c.in-None.ensures.cases))
