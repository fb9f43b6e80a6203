use Rattle.proc_shell.proofs.Imports.{Finished, HasSpecPorts, ap, refl, sym, with_view, ◌∙◌}
use Rattle.proc_shell.proofs.BoxLaws.{continues-so, shuts-once}
use Rattle.proc_shell.proofs.PortMoves.{same-ports, unless-true}
use Rattle.proc_shell.proofs.loaded.Loaded.prepare.Goals as goal

pub returns-then-not-fits : goal.returns-then-not-fits
returns-then-not-fits g c =
    let k = c.args.self.now.kernel in
    let never : HasSpecPorts (g.K.Kernel.state k) c.args.view.now → ⊥ =
    λ ports. unless-true _ c.fits.ensures c.if-not-fits.true (same-ports _ _ _ _ _ _
    (sym c.inputs.ensures.count) (sym c.outputs.ensures.count) ports) in
    shuts-once _ _ _ _ _ _ _ _
    (continues-so _ _ _ _ _ _ refl (g.met.K.Kernel.of_kind k) (g.met.K.Kernel.shelled k)
    (g.met.K.Kernel.uses k) c.args.self.now.wanted) never (record {
      changed = c.shut_down.ensures.changed;
      shut = c.shut_down.ensures.shut;
      chunks = c.shut_down.ensures.chunks;
      status = refl;
      counts = record {
        total = c.add.ensures.total;
        grows = c.add.ensures.grows;
        since = c.add.ensures.since;
      };
      notes = c.note_view.ensures
          ∙ ap (with_view c.shut_down.new.view Finished) c.note_misfit.ensures;
    })

pub returns : goal.returns
returns g c =
    rw c.note_view-2.ensures (c.move_chunks-status.ensures.moves c.args.self.now.notes)
