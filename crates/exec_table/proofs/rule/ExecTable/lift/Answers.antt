use Rattle.exec_table.proofs.Imports.{AreEdgesOnce, HandHolds, None, Some, ap, edges_out, rest, subst, sym, view, ◌∙◌, ◌∷◌}
use Rattle.exec_table.proofs.Handling.{at-front, full-slot, hand-lifted, hand-turned}
use Rattle.exec_table.proofs.Seating.{seat-other}
use Rattle.exec_table.proofs.rule.ExecTable.lift.Goals as goal

pub exchange-requires : goal.exchange-requires
exchange-requires c = let b = c.bring_to_front.ensures in let x = full-slot _ c.requires.slot in
    let f = at-front c.bring_to_front.new.self c.args.e _ _ b.hand b.first.1
    (b.slots c.args.e ∙ x.1) in (
      b.same.0 ∙ c.requires.seat.table,
      (Some x.0, f.1 ∙ ap (λ l. (c.args.e, Some x.0) ∷ rest l) (sym f.1)),
    )

pub returns-clause-seat : goal.returns-clause-seat
returns-clause-seat c = let b = c.bring_to_front.ensures in let x = full-slot _ c.requires.slot in
    let e = c.args.e in let old = c.args.seat.now in let o = c.requires.seat in
    let f = at-front c.bring_to_front.new.self e _ _ b.hand b.first.1 (b.slots e ∙ x.1) in
    let now = ap (λ m. m.1) c.exchange.ensures.3 ∙ ap (λ l. (e, None) ∷ rest l) f.1 in
    seat-other _ old _ o (c.exchange.ensures.0 ∙ b.same.0)
    (ap (λ m. m.0.nodes) c.exchange.ensures.3 ∙ ap (λ v. v.nodes) b.same.1) b.same.2
    (subst (HandHolds (view old)) (sym now) (hand-lifted (view old) e (Some x.0) f.0
    (subst (HandHolds (view old)) f.1 (hand-turned (view old) _ _
    (subst (λ l. AreEdgesOnce l) b.hand.places b.hand.once) b.slots o.hand))))
    (b.hand.places ∙ (ap edges_out f.1 ∙ sym (ap edges_out now))) b.same.3
