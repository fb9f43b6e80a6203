use Rattle.csv_procs.proofs.Imports.{eq-eqb, eqb-true, sym, ◌∙◌}
use Rattle.csv_procs.proofs.KernelLaws.{cast, ports-are}
use Rattle.csv_procs.proofs.sourcing.SourcingKernel.fits.Goals as goal

pub returns-then-inputs-inputs_of : goal.returns-then-inputs-inputs_of
returns-then-inputs-inputs_of g c =
    let k = c.args.self.now in
    let ports = ports-are g.S.Sourced.lists k.part k.state k.read c.args.inputs c.args.outputs in (
      λ t. cast _ _ (sym ports)
          (c.if-inputs-inputs_of.true ∙ c.inputs_of.ensures, eqb-true c.args.outputs 1 t),
      λ h. eq-eqb c.args.outputs 1 (cast _ _ ports h).1,
    )

pub returns-else-inputs-inputs_of : goal.returns-else-inputs-inputs_of
returns-else-inputs-inputs_of g c =
    let k = c.args.self.now in
    let ports = ports-are g.S.Sourced.lists k.part k.state k.read c.args.inputs c.args.outputs in (
      λ t. absurd (c.if-inputs-inputs_of.false (eqb-true c.args.inputs c.inputs_of.result t)),
      λ h. eq-eqb c.args.inputs c.inputs_of.result ((cast _ _ ports h).0 ∙ sym c.inputs_of.ensures),
    )
