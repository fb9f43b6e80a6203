use Rattle.exec_core.proofs.Imports.{List, Sight, ap, arith, drop, seeing, sym, take, ◌++◌, ◌∙◌}
use Rattle.exec_core.proofs.Lists.{seeing-hit}
use Rattle.exec_core.proofs.places.with_sight.Goals as goal

pub returns-then-index-e : goal.returns-then-index-e
returns-then-index-e c = c.from_vec.ensures
    ∙ (seeing-hit c.args.e c.args.flags c.loop-i.seen.items c.loop-i.i c.index.result.now
    (omega arith) (ap (λ (z : Sight). z.edge) (sym c.index.ensures) ∙ c.if-index-e.true)
    ∙ (ap (λ (l : List Sight). take c.loop-i.i l ++ seeing c.args.e c.args.flags
    (drop c.loop-i.i l)) c.loop-i.invariant.seen ∙ sym c.loop-i.invariant.list))
