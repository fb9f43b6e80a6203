use Rattle.node_births.proofs.Imports.{identity_of}
use Rattle.node_births.proofs.Births.{awaits-more}
use Rattle.node_births.proofs.WidenLaws.{grows-on}
use Rattle.node_births.proofs.widening.get_ports.Goals as goal

pub returns-in-Ok-clause-ok : goal.returns-in-Ok-clause-ok
returns-in-Ok-clause-ok g c = let t = identity_of c.args.table.now in
    let ports = c.add_ports.new.ports in let seat = c.add_ports.new.seat in
    let at = c.add_ports.ensures.seat in let gains = c.in-Ok.ensures.ok.gains in record {
      gains = c.in-Ok.ensures.ok;
      awaits = λ h. awaits-more g.P.Processor.seen t c.args.cell.now ports seat h at gains;
      grows = λ growth before h. grows-on g.P.Processor.seen t growth before c.args.cell.now ports
          seat h at gains;
    }
