use Rattle.std.proofs.Common.{◌+◌, sym, ◌∙◌, subst}
use Rattle.sort_procs.specs.Heads.{IsFirstBut}
use Rattle.sort_procs.proofs.HeadLaws.{first-changes, first-stays}
use Rattle.sort_procs.proofs.heads.first_but.Goals.{then-i-but+then-goes_before, else-i-but, else-i-but-via-then-i-but+else-goes_before, else-i-but-via-else-i-but}
use Rattle.sort_procs.proofs.heads.first_but.Goals as goal

pub loop-i-preserved : goal.loop-i-preserved
loop-i-preserved c =
    let keys = c.args.order.now.keys in
    let heads = c.args.heads.now in
    let but = c.args.but in
    let i = c.loop-i.i in
    let first = c.loop-i.first in
    elim c.if-i-but.branch [
      | then-i-but+then-goes_before w ↦ subst (IsFirstBut keys heads but (i + 1)) (sym w.first-is)
          (first-changes keys heads but i first c.loop-i.invariant w.if-i-but.true
          (sym w.goes_before.ensures ∙ w.if-goes_before.true))
      | else-i-but w ↦ subst (IsFirstBut keys heads but (i + 1)) (sym w.first-is)
          (first-stays keys heads but i first c.loop-i.invariant
          (λ ne. elim w.else-i-but.branch [
            | else-i-but-via-then-i-but+else-goes_before v ↦
                sym v.goes_before.ensures ∙ v.if-goes_before.false
            | else-i-but-via-else-i-but v ↦ absurd (ne v.if-i-but.false)
          ]))
    ]
