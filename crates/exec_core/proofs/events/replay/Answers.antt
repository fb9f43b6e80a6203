use Rattle.exec_core.proofs.Imports.{Event, Laws, Some, ap, arith, get_or, laws-kept, subst, sym, ◌∙◌}
use Rattle.core_laws.specs.declared.types.Step.TheVariants as step
use Rattle.exec_core.proofs.Runs.{run-more}
use Rattle.exec_core.proofs.events.replay.Goals as goal

pub loop-k-preserved : goal.loop-k-preserved
loop-k-preserved c =
    let d : Event = record { seat = 0; step = step.Look 0 } in
    let ev = get_or c.args.events.now c.loop-k.k d in
    let g = sym c.is_step.ensures ∙ c.if-not-is_step.false in
    record {
      run = run-more c.args.start c.args.events.now c.loop-k.k c.loop-k.core d
          (omega arith) c.loop-k.invariant.run g ∙ ap Some (sym c.in-Ok.ensures);
      laws = subst Laws (sym c.in-Ok.ensures)
          (laws-kept c.loop-k.core ev.seat ev.step g c.loop-k.invariant.laws);
    }
