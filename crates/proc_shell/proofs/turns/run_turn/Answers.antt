use Rattle.proc_shell.proofs.Imports.{ap, arith, raised, ◌∙◌}
use Rattle.proc_shell.proofs.BoxLaws.{continues-so, rows-turned}
use Rattle.proc_shell.proofs.turns.run_turn.Goals as goal

pub returns-clause-takes : goal.returns-clause-takes
returns-clause-takes g c =
    let t = c.take_turn-status in
    let rows = rows-turned _ _ _ _ _ _ c.requires.few_in t.ensures.turns.moves in
    record {
      continues = continues-so _ _ _ _ _ _ t.ensures.same (g.met.K.Kernel.of_kind c.args.kernel.now)
          (g.met.K.Kernel.shelled c.args.kernel.now) (g.met.K.Kernel.uses t.new.kernel)
          t.ensures.wanted;
      turns = t.ensures.turns;
      counts = record {
        total = c.add.ensures.total ∙ ap (raised c.args.pulled.now.total)
            (omega (arith, rows, c.unworked_rows.ensures, c.unworked_rows-before.ensures));
        grows = c.add.ensures.grows;
        since = c.add.ensures.since;
      };
    }
