use Rattle.exec_table.proofs.Imports.{ap, arith, bit_or, refl, true, ◌^◌}
use Rattle.exec_table.proofs.Working.{stop-word, worker-allowed, worker-does}
use Rattle.core_laws.specs.declared.types.Step.TheVariants as step
use Rattle.exec_table.proofs.rule.ExecTable.stop.Goals as goal

pub fetch_or-requires : goal.fetch_or-requires
fetch_or-requires c = let w = c.args.self.now.words in (
  c.requires.table,
  omega arith,
  worker-allowed _ _ _ c.args.seat.now.seat.me step.Stop (λ n. bit_or n (2 ^ 63))
      (λ _. true) (λ _ _. refl)
      (λ _ _. refl) stop-word (ap (λ m. m.0.sizes) c.requires.view),
)

pub returns-clause-told : goal.returns-clause-told
returns-clause-told c = let e = c.fetch_or.ensures.2 in
    worker-does c.requires e.0 e.1 (λ _ _ _. refl)
