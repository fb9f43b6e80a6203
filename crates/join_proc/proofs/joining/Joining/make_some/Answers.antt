use Rattle.join_proc.proofs.Imports.{IsJoining, JoinSpec, JoiningView, Makes, Some, ap, ap₂, joining_own, leb-false, length, subst, sym, ◌++◌, ◌∙◌}
use Rattle.join_proc.proofs.JoiningLaws.{makes}
use Rattle.join_proc.proofs.LeftLaws.{some-left}
use Rattle.query_model.specs.declared.processor_spec.Spec.TheVariants as spec
use Rattle.join_proc.proofs.joining.Joining.make_some.Goals as goal

pub returns-in-Ok-clause-makes : goal.returns-in-Ok-clause-makes
returns-in-Ok-clause-makes c =
    let join = c.self.inside.join in
    let x = c.args.index in
    let old = c.args.left in
    let new = c.next_chunk.new.self in
    let e = ap (λ (v : JoiningView). v.join) c.self.view_is in
    let is = subst (λ (j : JoinSpec). IsJoining j x old) (sym e) c.requires in
    let s = c.in-Ok.ensures.joins in
    rw c.put_phase-in-Ok.ensures (subst
    (λ (j : JoinSpec). Makes (spec.HashJoin j) (joining_own j x old) (joining_own join x new)
    (Some c.in-Ok.chunk)) e (makes join x old new c.in-Ok.chunk s
    (s.types ∙ ap₂ ◌++◌ is.left_types is.right_types)
    (some-left join.pairs x.rows.rows old is.fit
    (leb-false (length old.starts.items) old.at (sym c.is_joined.ensures ∙ c.if-is_joined.false)))))
