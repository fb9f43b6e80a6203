use Rattle.node_births.proofs.WidenLaws.{widened-due}
use Rattle.node_births.proofs.widening.law_of_widened_cells.Goals as goal

pub returns : goal.returns
returns g c = record {
  due = λ growth old new mark widened due. widened-due g.P.Processor.seen _ _ _ _ widened _ due;
}
