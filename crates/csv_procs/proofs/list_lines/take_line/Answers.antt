use Rattle.csv_procs.proofs.Imports.{IsLineTaken, [], arith, eqb-true, inl, inr, length, rules, subst, sym, true, ◌++◌, ◌∙◌, ◌∷◌, ◌≡◌}
use Rattle.csv_procs.proofs.ListTexts.{bad-here, takes-empty, takes-path}
use Rattle.csv_procs.proofs.list_lines.take_line.Goals.{then-not-is_listed_path-via-then-not-is_listed_path, then-not-is_listed_path-via-else-not-is_listed_path+then-len-ge-MOST_PATHS}
use Rattle.csv_procs.proofs.list_lines.take_line.Goals as goal

pub returns-then-is_empty-clause-taken : goal.returns-then-is_empty-clause-taken
returns-then-is_empty-clause-taken c = takes-empty c.args.line.now c.args.paths.now.items
    (eqb-true (length c.args.line.now) 0 (sym c.is_empty.ensures ∙ c.if-is_empty.true))

pub returns-then-not-is_listed_path-clause-taken : goal.returns-then-not-is_listed_path-clause-taken
returns-then-not-is_listed_path-clause-taken c = bad-here c.args.line.now c.args.paths.now.items
    (sym c.is_empty.ensures ∙ c.if-is_empty.false) (elim c.then-not-is_listed_path.branch [
      | then-not-is_listed_path-via-then-not-is_listed_path w ↦ inl
          (sym c.is_listed_path.ensures ∙ w.if-not-is_listed_path.true)
      | then-not-is_listed_path-via-else-not-is_listed_path+then-len-ge-MOST_PATHS w ↦
          inr (omega (arith, w.len.ensures, w.if-len-ge-MOST_PATHS.true))
    ])

pub returns-clause-taken : goal.returns-clause-taken
returns-clause-taken c =
    let e : c.push.new.self.items ≡ c.args.paths.now.items ++ c.args.line.now ∷ [] = search rules in
    subst (IsLineTaken true c.args.line.now c.args.paths.now.items) (sym e)
    (takes-path c.args.line.now c.args.paths.now.items
    (sym c.is_listed_path.ensures ∙ c.if-not-is_listed_path.false)
    (omega (arith, c.len.ensures, c.if-len-ge-MOST_PATHS.false)))
