use Rattle.node_workers.proofs.Imports.{ap, crosses, sendable, ℕ, ◌∙◌}
use Rattle.node_workers.proofs.NewNodeLaws.{awaits, copy-knows, lost-new, may-gain}
use Rattle.node_workers.proofs.SentNotes.{noted_sent}
use Rattle.node_workers.proofs.new_nodes.give_outputs.Goals as goal

pub copy-requires-send-G : goal.copy-requires-send-G
copy-requires-send-G g c κs = search (sendable, crosses, noted_sent)

pub get_ports-requires-clause-may : goal.get_ports-requires-clause-may
get_ports-requires-clause-may g c κs within = may-gain (awaits g.P.Processor.seen
    g.J.Naming.names.identity c.args.named.now.cell c.requires.named.unborn
    c.requires.named.fits.lies)

pub returns-in-Ok-clause-ok : goal.returns-in-Ok-clause-ok
returns-in-Ok-clause-ok g c = λ step k wired ends new. record {
  taken = c.args.named.now.cell;
  fits = c.requires.named.fits;
  unborn = c.requires.named.unborn;
  knows = copy-knows wired new c.copy.result (c.copy.ensures.copy ∙ c.requires.shared.notes_are)
      (c.copy.ensures.same ∙ ends.reserve_is) (c.copy.ensures.seen ∙ ends.noted_is);
  got = rw (c.requires.shared.table, wired.first_is, wired.wires_are) at c.in-Ok.ensures.ok;
  processor = c.get_ports.ensures.processor;
  reserve = c.get_ports.ensures.reserve;
  going = c.requires.named.going;
}

pub returns-in-Err-clause-lost : goal.returns-in-Err-clause-lost
returns-in-Err-clause-lost g c = λ step k wired ends new. lost-new wired new c.requires.named.unborn
    c.requires.named.fits (copy-knows wired new c.copy.result (c.copy.ensures.copy ∙
    c.requires.shared.notes_are) (c.copy.ensures.same ∙ ends.reserve_is) (c.copy.ensures.seen ∙
    ends.noted_is)) c.get_ports.new.cell (rw c.requires.shared.table at c.get_ports.ensures.seat)
    c.get_ports.ensures.number (ap g.P.Processor.seen c.get_ports.ensures.processor)
