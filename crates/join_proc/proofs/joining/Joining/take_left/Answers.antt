use Rattle.join_proc.proofs.Imports.{FitsJoin, JoinSpec, JoiningView, None, Table, Takes, [], ap, gathered_right, joining_own, refl, subst, sym, ◌∷◌}
use Rattle.join_proc.proofs.JoiningLaws.{takes-left}
use Rattle.query_model.specs.declared.processor_spec.Spec.TheVariants as spec
use Rattle.join_proc.proofs.joining.Joining.take_left.Goals as goal

pub returns-in-Ok-clause-takes : goal.returns-in-Ok-clause-takes
returns-in-Ok-clause-takes c =
    let join = c.self.inside.join in
    let x = c.left_rows.new.self in
    let fit : FitsJoin join 0 c.args.chunk.types =
    rw (ap (λ (v : JoiningView). v.join) c.self.view_is)
    (record { types_are = c.requires.types; pairs_within = c.requires.pairs }) in
    rw c.put_phase.ensures (subst
    (λ (j : JoinSpec). Takes (spec.HashJoin j) (gathered_right c.args.index.rows) 0 c.args.chunk
    (joining_own join x c.in-Ok.left) None) (ap (λ (v : JoiningView). v.join) c.self.view_is)
    (takes-left join (gathered_right c.args.index.rows) x c.in-Ok.left c.args.chunk fit refl refl
    (ap (λ (t : Table). t ∷ []) (sym c.in-Ok.ensures.rows)) c.in-Ok.ensures.starts))
