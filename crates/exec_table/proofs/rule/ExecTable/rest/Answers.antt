use Rattle.exec_table.proofs.Imports.{ap, arith, eq-eqb, is_idle, ne_eqb, refl, sym, ◌^◌, ◌∙◌}
use Rattle.exec_table.proofs.Wording.{read-node}
use Rattle.exec_table.proofs.Seating.{node-asks, quiet-makes}
use Rattle.exec_table.proofs.rule.ExecTable.rest.Goals as goal

pub compare_exchange-requires : goal.compare_exchange-requires
compare_exchange-requires c = node-asks c.args.self.now c.requires.seat refl c.requires.ready refl
    (λ _ _ _. (refl, refl))

pub returns-then-compare_exchange-eq-HELD : goal.returns-then-compare_exchange-eq-HELD
returns-then-compare_exchange-eq-HELD c = let d = c.compare_exchange.ensures.2 in
    let g = d.may in quiet-makes refl c.requires.seat d c.compare_exchange.ensures.0 refl refl
    (ap is_idle (eq-eqb _ (2 ^ 62) (sym (d.word ∙ read-node d.before.core _ (grind arith))
    ∙ c.if-compare_exchange-eq-HELD.true)))

pub returns-else-compare_exchange-eq-HELD : goal.returns-else-compare_exchange-eq-HELD
returns-else-compare_exchange-eq-HELD c = let d = c.compare_exchange.ensures.2 in
    let g = d.may in quiet-makes refl c.requires.seat d c.compare_exchange.ensures.0 refl refl
    (ap is_idle (ne_eqb _ (2 ^ 62) (λ q. c.if-compare_exchange-eq-HELD.false
    (d.word ∙ read-node d.before.core _ (grind arith) ∙ q))))
