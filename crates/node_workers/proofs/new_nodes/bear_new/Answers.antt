use Rattle.node_workers.proofs.Imports.{CellFits, IsSeatOf, Option, StopCause, ap, subst, sym, view, ℕ, ◌∙◌}
use Rattle.node_workers.proofs.NewNodeLaws.{fits-born, lost-new, may-gain, with-outputs}
use Rattle.node_workers.proofs.new_nodes.bear_new.Goals as goal

pub get_ports-requires-clause-may : goal.get_ports-requires-clause-may
get_ports-requires-clause-may g c κs within = may-gain (with-outputs c.requires.may.outputs)

pub returns-in-Err-clause-lost : goal.returns-in-Err-clause-lost
returns-in-Err-clause-lost g c = let may = c.requires.may in let out = may.outputs in
    lost-new may.wired may.new out.unborn out.fits out.knows c.get_ports.new.cell (rw
    c.requires.shared.table at c.get_ports.ensures.seat) (c.get_ports.ensures.number ∙
    out.got.gains.gains.number) (ap g.P.Processor.seen (c.get_ports.ensures.processor ∙
    out.processor))

pub returns-in-Err-bear-clause-lost : goal.returns-in-Err-bear-clause-lost
returns-in-Err-bear-clause-lost g c = let may = c.requires.may in let out = may.outputs in
    lost-new may.wired may.new out.unborn out.fits out.knows c.bear.new.cell (subst (λ t. IsSeatOf t
    c.bear.new.cell.seat) c.requires.shared.table c.in-Err-bear.ensures.waits.seat) ((λ j. (view
    (c.in-Err-bear.ensures.same j).seat).number) ∙ (c.get_ports.ensures.number ∙
    out.got.gains.gains.number)) (c.in-Err-bear.ensures.unchanged ∙ ap g.P.Processor.seen
    (c.get_ports.ensures.processor ∙ out.processor))

pub returns-in-Ok-bear-clause-ok : goal.returns-in-Ok-bear-clause-ok
returns-in-Ok-bear-clause-ok g c = let may = c.requires.may in let out = may.outputs in
    subst (λ (o : Option StopCause). CellFits g.J.Naming.names g.P.Processor.seen c.args.p
    c.bear.new.cell o c.args.named.now.note) (sym out.going) (fits-born may.wired may.new out.unborn
    out.fits out.knows out.got
    (rw (c.requires.shared.table, may.wired.first_is, may.wired.wires_are) at c.in-Ok.ensures.ok)
    (ap g.P.Processor.seen (c.get_ports.ensures.processor ∙ out.processor))
    (c.get_ports.ensures.reserve ∙ out.reserve) (rw c.requires.shared.table at
    c.in-Ok-bear.ensures.born) may.form)
