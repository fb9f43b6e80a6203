use Rattle.csv_procs.proofs.Imports.{[], ap, arith, get_or, rules, subst, sym, without_cr, ◌++◌, ◌+◌, ◌∙◌, ◌∷◌, ◌≡◌}
use Rattle.csv_procs.proofs.ListTexts.{ReadsOn, reads-byte, reads-last, reads-line}
use Rattle.csv_procs.proofs.list_lines.read_lines.Goals as goal

pub loop-i-preserved-then-text-i-ne10 : goal.loop-i-preserved-then-text-i-ne10
loop-i-preserved-then-text-i-ne10 c =
    let text = c.args.text.now in
    let l = c.loop-i in
    let e : c.push.new.self.items ≡ l.line.items ++ get_or text l.i 0 ∷ [] = search rules in
    subst (λ line. ReadsOn text line (l.i + 1) l.number l.paths.items) (sym e)
    (reads-byte text l.line.items l.i l.number 0 l.paths.items (search rules) (search rules)
    l.invariant)

pub returns-then-not-branch-clause-bad_line : goal.returns-then-not-branch-clause-bad_line
returns-then-not-branch-clause-bad_line c =
    let l = c.loop-i in
    rw c.if-not-branch.true at (reads-line _ _ c.without_cr.result.now _ _ 0 _
    c.take_line.new.paths.items c.in_ok-take_line.field-0 (search rules) (search rules)
    (c.without_cr.ensures ∙ ap without_cr c.deref.ensures.value) l.invariant
    c.in_ok-take_line.ensures.taken)

pub loop-i-preserved : goal.loop-i-preserved
loop-i-preserved c =
    let l = c.loop-i in
    let new = c.take_line.new.paths.items in
    subst (λ line. ReadsOn c.args.text.now line (l.i + 1) (l.number + 1) new)
    (sym c.clear.ensures.items)
    ((rw c.if-not-branch.false at (reads-line _ _ c.without_cr.result.now _ _ 0 _
    new c.in_ok-take_line.field-0 (search rules) (search rules)
    (c.without_cr.ensures ∙ ap without_cr c.deref.ensures.value) l.invariant
    c.in_ok-take_line.ensures.taken)) c.in_ok-take_line.ensures.few)

pub returns-then-not-branch-2-clause-bad_line : goal.returns-then-not-branch-2-clause-bad_line
returns-then-not-branch-2-clause-bad_line c =
    let l = c.loop-i in
    rw c.if-not-branch-2.true at (reads-last _ _ c.without_cr-2.result.now _ _ _
    c.take_line-2.new.paths.items c.in_ok-take_line-2.field-0 (omega (arith, c.loop-i-test.false))
    (c.without_cr-2.ensures ∙ ap without_cr c.deref-2.ensures.value) l.invariant
    c.in_ok-take_line-2.ensures.taken)

pub returns-clause-bad_line : goal.returns-clause-bad_line
returns-clause-bad_line c =
    let l = c.loop-i in
    (rw c.if-not-branch-2.false at (reads-last _ _ c.without_cr-2.result.now _ _ _
    c.take_line-2.new.paths.items c.in_ok-take_line-2.field-0 (omega (arith, c.loop-i-test.false))
    (c.without_cr-2.ensures ∙ ap without_cr c.deref-2.ensures.value) l.invariant
    c.in_ok-take_line-2.ensures.taken)).0

pub returns-clause-paths : goal.returns-clause-paths
returns-clause-paths c = λ none.
    let l = c.loop-i in
    (rw c.if-not-branch-2.false at (reads-last _ _ c.without_cr-2.result.now _ _ _
    c.take_line-2.new.paths.items c.in_ok-take_line-2.field-0 (omega (arith, c.loop-i-test.false))
    (c.without_cr-2.ensures ∙ ap without_cr c.deref-2.ensures.value) l.invariant
    c.in_ok-take_line-2.ensures.taken)).1
