use Rattle.exec_table.proofs.Imports.{AreEdgesOnce, HandHolds, None, ap, board_after, drop, edges_out, end_of_view, front, inl, length, push_of, refl, rest, rules, slot_in, slots, subst, sym, true, view, ◌∙◌, ◌∷◌}
use Rattle.exec_table.specs.Plays.{first_node}
use Rattle.exec_table.proofs.Handling.{at-front, full-front, hand-turned, held-there}
use Rattle.exec_table.proofs.Hands.{hand-pushed, rest-slots}
use Rattle.exec_table.proofs.Seating.{edge-asks, edge-did, makes}
use Rattle.core_laws.specs.declared.types.Step.TheVariants as step
use Rattle.exec_table.proofs.rule.ExecTable.push.Goals as goal

pub bring_to_front-requires-clause-there : goal.bring_to_front-requires-clause-there
bring_to_front-requires-clause-there c =
    held-there _ c.args.seat.now c.args.e _ c.requires.seat c.requires.slot

pub fetch_or-requires : goal.fetch_or-requires
fetch_or-requires c = let s = c.requires.seat in let b = c.bring_to_front.ensures in
    let had = c.exchange.ensures.3 in
    edge-asks c.args.self.now true c.exchange.new.seat
    (λ x e. step.Push e (length (end_of_view x e).chunks)) c.args.e s
    (c.exchange.ensures.0 ∙ b.same.0) (ap (λ m. m.0.nodes) had
    ∙ (ap (λ v. v.nodes) b.same.1 ∙ s.single)) (search rules) c.port_place-place.ensures
    c.requires.ready (full-front c.args.e _ c.args.chunk _ (ap (λ m. m.1) had))
    (λ _ _ _. (refl, refl))

pub returns : goal.returns
returns c = let s = c.requires.seat in let old = c.args.seat.now in
    let b = c.bring_to_front.ensures in let mid = c.bring_to_front.new.self in
    let e = c.args.e in let had = c.exchange.ensures.3 in let l = c.exchange.new.seat.me.1 in
    let f = at-front mid e _ _ b.hand b.first.1 (b.slots e ∙ c.requires.slot) in
    let one = subst (λ l. AreEdgesOnce l) b.hand.places b.hand.once in
    let d = edge-did c.exchange.new.seat.me true
    (λ x e. step.Push e (length (end_of_view x e).chunks)) e s
    (ap (λ m. first_node m.0) had ∙ ap first_node b.same.1) c.port_place-place.ensures
    c.fetch_or.ensures.2 in
    let left = d.hand ∙ (ap (λ m. rest m.1) had ∙ ap rest f.1) in
    makes {l = l} s d (subst (HandHolds _) (sym (d.hand ∙ ap (λ m. rest m.1) had))
    (hand-pushed d.before (view old).number d.holds (slots mid)
    (subst (λ x. HandHolds x (slots mid)) (sym d.was)
    (hand-turned (view old) _ _ one b.slots s.hand))
    e _ (front l) None d.may d.kept (f.1 ∙ ap (λ l. (e, None) ∷ rest l) (sym f.1))))
    (c.fetch_or.ensures.0 ∙ (c.exchange.ensures.0 ∙ b.same.0)) b.same.2
    (c.pop_front.ensures.rest ∙ (ap (drop 1) b.first.1 ∙ (sym f.2 ∙ sym (ap edges_out left))))
    (c.pop_front.ensures.capacity ∙ b.same.3)
    (ap (λ z. board_after d.before (view old).number (push_of old e) z) (ap (λ m. front m.1) had))
    refl (λ k v q. inl (sym (b.slots k) ∙ rest-slots (slots mid) f.0 e None one f.1 k v
    (sym (ap (slot_in k) left) ∙ q)))
