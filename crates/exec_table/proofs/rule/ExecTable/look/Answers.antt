use Rattle.exec_table.proofs.Imports.{Did, HandHolds, NodeView, None, Sat, Some, aiming, ap, arith, beq, deque_capacity, edges_out, end_of_view, eqb, false, front, has, length, port_at, port_place, refl, slot_in, slots, subst, sym, true, view, ◌-◌, ◌<◌, ◌∙◌, ◌≡◌, ◌⊎◌}
use Rattle.exec_table.specs.Plays.{first_node}
use Rattle.core_laws.specs.Steps.{flags as flags_answer}
use Rattle.exec_table.proofs.Handling.{look-found, look-places, look-turn, room-for}
use Rattle.exec_table.proofs.Seating.{edge-asks, edge-did, makes}
use Rattle.exec_table.proofs.Hands.{hand-after, look-slots}
use Rattle.core_laws.specs.declared.types.Step.TheVariants as step
use Rattle.exec_table.proofs.rule.ExecTable.look.Goals as goal

pub load-requires : goal.load-requires
load-requires c = let o = c.requires.seat in let wire = c.wire_at-wire.ensures in
    edge-asks c.args.self.now true c.wire_at-wire.new.seat.seat (λ _. step.Look) c.args.e o
    wire.same.0 (ap (λ m. m.0.nodes) wire.view)
    (o.edges c.args.e (let g = c.requires.ready in grind arith)) c.port_place-place.ensures
    c.requires.ready refl (λ _ _ _. (refl, refl))

pub take_slot-requires : goal.take_slot-requires
take_slot-requires c = let o = c.requires.seat in subst (λ h. has c.args.e h.items ≡ false
    → length h.items < deque_capacity h) (sym c.wire_at-wire.ensures.same.2) (room-for _
    c.args.seat.now c.args.e o (o.edges c.args.e (let g = c.requires.ready in grind arith)))

pub returns : goal.returns
returns c = let o = c.requires.seat in let e = c.args.e in let old = c.args.seat.now in
    let new = c.take_slot.new.self in let took = c.take_slot.ensures in
    let wire = c.wire_at-wire.ensures in let place = c.port_place-place.result in
    let did : Did (view old) (step.Look e) (slots old) c.load.result new.seat.me = subst
    (λ z. Did (view old) (step.Look e) (slots old) c.load.result z.me) (sym took.same.0)
    (edge-did (aiming e (view old), slots old) true (λ _. step.Look) e o refl
    c.port_place-place.ensures (subst (λ (m : Sat). Did (first_node m.0) (step.Look (place
    - port_place (first_node m.0).sizes 0)) m.1 c.load.result c.load.new.seat.me) wire.view
    c.load.ensures.2)) in let b = did.before in let n = (view old).number in
    let hand = subst (λ x. HandHolds x (slots old)) (sym did.was) o.hand in
    let flags = c.flags_of-flags.ensures (port_at b.core e).flags (did.word
    ∙ look-found b n e did.holds did.may) in
    let turn = look-turn b n e c.flags_of-flags.result c.wire_at-wire.result did.holds did.may
    (ap (λ x. (end_of_view x e).wire) did.was ∙ wire.wire) flags in
    makes {l = slots old} o did (subst (HandHolds _) (sym did.hand) (hand-after b n did.holds
    (slots old) hand (step.Look e) did.may refl did.kept)) (ap (λ z. z.table_id) took.same.0
    ∙ (c.load.ensures.0 ∙ wire.same.0)) (took.same.1 ∙ wire.same.1)
    (took.held ∙ (look-places b n e (slots old) c.wire_at-wire.new.seat.held.items _ did.holds hand
    did.may (ap (λ h. h.items) wire.same.2 ∙ o.places)
    (ap (λ k. beq c.flags_of-flags.result.has_data (eqb c.wire_at-wire.result.to k))
    (wire.same.1 ∙ o.number) ∙ turn) ∙ sym (ap edges_out did.hand)))
    (took.same.2 ∙ ap deque_capacity wire.same.2) refl (ap flags_answer (sym flags))
    (λ d v q. subst (λ (y : NodeView). (slot_in d (slots old) ≡ Some v)
    ⊎ ((slot_in d (slots old) ≡ None) × ((end_of_view y d).turn ≡ Some v)))
    (sym (ap first_node did.view))
    (look-slots b n did.holds (slots old) hand e (front (slots old)) did.may did.kept d v
    (sym (ap (slot_in d) did.hand) ∙ q)))
