use Rattle.exec_table.proofs.Imports.{refl, rules, true}
use Rattle.exec_table.proofs.Seating.{edge-asks, edge-did, quiet-makes}
use Rattle.core_laws.specs.declared.types.Step.TheVariants as step
use Rattle.exec_table.proofs.rule.ExecTable.finish.Goals as goal

pub fetch_or-requires : goal.fetch_or-requires
fetch_or-requires c = let o = c.requires.seat in
    edge-asks c.args.self.now true c.args.seat.now.seat (λ _. step.Finish) c.args.e o refl
    o.single (search rules) c.port_place-place.ensures c.requires.ready refl (λ _ _ _. (refl, refl))

pub returns : goal.returns
returns c = quiet-makes refl c.requires.seat (edge-did c.args.seat.now.seat.me true
    (λ _. step.Finish) c.args.e c.requires.seat refl c.port_place-place.ensures
    c.fetch_or.ensures.2) c.fetch_or.ensures.0 refl refl refl
