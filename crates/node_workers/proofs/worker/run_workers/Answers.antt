use denote.Exit as exit
use Rattle.node_workers.proofs.Imports.{ap, arg_send, arg_sync, param_send, param_sync, parts_of, shr_sync, sym, total-same, ◌∙◌}
use Rattle.node_workers.proofs.SentNotes.{pair_sync, shared_sync, worker_sent}
use Rattle.node_workers.proofs.worker.run_workers.Goals as goal

pub returns-clause-parts : goal.returns-clause-parts
returns-clause-parts g c = total-same parts_of c.args.workers.now c.for_each_mut.new.s
    c.for_each_mut.auto.s (λ i d less. let at = (c.for_each_mut.ensures i d less).1 in
    ap parts_of (sym at.left) ∙ (at.call.1 ∙ ap parts_of at.argument_is))

pub for_each_mut-requires-send-T : goal.for_each_mut-requires-send-T
for_each_mut-requires-send-T g c κs lives = param_send 1 _ (arg_send _ exit.no _
    (worker_sent _ _ c.type_bounds.send-P c.type_bounds.send-J))

pub for_each_mut-requires-sync-F : goal.for_each_mut-requires-sync-F
for_each_mut-requires-sync-F g c κs lives = param_sync 2 _ (arg_sync _ exit.no _ (pair_sync _ _ _
    (shr_sync _ _ _ c.type_bounds.sync-R) (shr_sync _ _ _ (shared_sync _ _ c.type_bounds.send-P
    c.type_bounds.send-J g.P.Processor g.J.Naming))))
