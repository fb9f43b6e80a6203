use Rattle.exec_table.proofs.Imports.{AreEdgesOnce, HandHolds, None, ap, drop, edges_out, inl, refl, rest, rules, slot_in, slots, subst, sym, true, view, ◌∙◌}
use Rattle.exec_table.specs.Plays.{first_node}
use Rattle.exec_table.proofs.Handling.{at-front, empty-front, hand-turned, held-there}
use Rattle.exec_table.proofs.Hands.{hand-after, rest-slots}
use Rattle.exec_table.proofs.Seating.{edge-asks, edge-did, makes}
use Rattle.core_laws.specs.declared.types.Step.TheVariants as step
use Rattle.exec_table.proofs.rule.ExecTable.pull.Goals as goal

pub bring_to_front-requires-clause-there : goal.bring_to_front-requires-clause-there
bring_to_front-requires-clause-there c =
    held-there _ c.args.seat.now c.args.e _ c.requires.seat c.requires.slot

pub fetch_and-requires : goal.fetch_and-requires
fetch_and-requires c = let s = c.requires.seat in let b = c.bring_to_front.ensures in
    let f = at-front c.bring_to_front.new.self c.args.e _ _ b.hand b.first.1
    (b.slots c.args.e ∙ c.requires.slot) in
    edge-asks c.args.self.now true c.bring_to_front.new.self.seat (λ _. step.Pull) c.args.e s
    b.same.0 (ap (λ v. v.nodes) b.same.1 ∙ s.single) (search rules) c.port_place-place.ensures
    c.requires.ready (empty-front c.args.e _ f.0 f.1) (λ _ _ _. (refl, refl))

pub returns : goal.returns
returns c = let s = c.requires.seat in let old = c.args.seat.now in
    let b = c.bring_to_front.ensures in let mid = c.bring_to_front.new.self in let e = c.args.e in
    let f = at-front mid e _ _ b.hand b.first.1 (b.slots e ∙ c.requires.slot) in
    let one = subst (λ l. AreEdgesOnce l) b.hand.places b.hand.once in
    let d = edge-did mid.seat.me true (λ _. step.Pull) e s (ap first_node b.same.1)
    c.port_place-place.ensures c.fetch_and.ensures.2 in let left = d.hand ∙ ap rest f.1 in
    makes {l = slots mid} s d (subst (HandHolds _) (sym d.hand)
    (hand-after d.before (view old).number d.holds (slots mid)
    (subst (λ x. HandHolds x (slots mid)) (sym d.was)
    (hand-turned (view old) _ _ one b.slots s.hand))
    (step.Pull e) d.may (empty-front e _ f.0 f.1) d.kept)) (c.fetch_and.ensures.0 ∙ b.same.0)
    b.same.2 (c.pop_front.ensures.rest ∙ (ap (drop 1) b.first.1 ∙ (sym f.2
    ∙ sym (ap edges_out left)))) (c.pop_front.ensures.capacity ∙ b.same.3) refl refl
    (λ k v q. inl (sym (b.slots k) ∙ rest-slots (slots mid) f.0 e None one f.1 k v
    (sym (ap (slot_in k) left) ∙ q)))
