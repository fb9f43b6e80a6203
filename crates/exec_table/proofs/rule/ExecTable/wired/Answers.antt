use Rattle.exec_table.proofs.Imports.{ap, arith, false, refl, sym, wire_in, wired, ◌∙◌}
use Rattle.exec_table.proofs.Wording.{read-wire}
use Rattle.exec_table.proofs.Seating.{edge-asks, edge-did, quiet-makes}
use Rattle.exec_table.proofs.Working.{wire-in-read}
use Rattle.core_laws.specs.declared.types.Step.TheVariants as step
use Rattle.exec_table.proofs.rule.ExecTable.wired.Goals as goal

pub load-requires : goal.load-requires
load-requires c = edge-asks c.args.self.now false c.args.seat.now.seat (λ _. step.Wired)
    c.args.e c.requires.seat refl c.requires.seat.single (let s = c.requires.seat.sizes in
    let g = c.requires.ready in grind arith) c.wire_place-place.ensures c.requires.ready refl
    (λ _ _ _. (refl, refl))

pub returns : goal.returns
returns c = let d = edge-did c.args.seat.now.seat.me false (λ _. step.Wired) c.args.e
    c.requires.seat refl c.wire_place-place.ensures c.load.ensures.2 in let g = d.may in
    quiet-makes refl c.requires.seat d c.load.ensures.0 refl refl (ap wired (sym
    (c.wire_in_word.ensures ∙ (ap wire_in (d.word ∙ read-wire d.before.core d.holds.laws c.args.e
    (grind arith)) ∙ wire-in-read d.before c.args.e d.holds (grind arith)))))
