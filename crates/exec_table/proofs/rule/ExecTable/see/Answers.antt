use Rattle.exec_table.proofs.Imports.{ap, arith, refl, seen, seen_in_word, sym, ◌∙◌}
use Rattle.exec_table.proofs.Working.{seen-read, worker-allowed, worker-does}
use Rattle.core_laws.specs.declared.types.Step.TheVariants as step
use Rattle.exec_table.proofs.rule.ExecTable.see.Goals as goal

pub load-requires : goal.load-requires
load-requires c = let w = c.args.self.now.words in (
  c.requires.table,
  omega arith,
  worker-allowed _ _ _ c.args.seat.now.seat.me step.See (λ n. n) (λ t. t) (λ _ _. refl)
      (λ _ _. refl) (λ _ _ _. refl) (ap (λ m. m.0.sizes) c.requires.view),
)

pub returns-clause-told : goal.returns-clause-told
returns-clause-told c = let e = c.load.ensures.2 in worker-does c.requires e.0 e.1 (λ b h word.
    ap seen (seen-read b h ∙ (ap seen_in_word (sym word) ∙ sym c.seen.ensures)))
