use Rattle.exec_table.proofs.Imports.{Did, Sat, ap, arith, bit_at_end, bit_or, end_of_view, marked_by, marked_peer, marks-of, peer_in, refl, sizes_in, subst, sym, view, ◌+◌, ◌^◌, ◌∙◌}
use Rattle.exec_table.specs.Plays.{first_node}
use Rattle.exec_table.proofs.Wording.{read-node}
use Rattle.exec_table.proofs.Seating.{Asks, quiet-makes, word-asks}
use Rattle.exec_table.proofs.Working.{owed-wire, peer-inside}
use Rattle.core_laws.specs.declared.types.Step.TheVariants as step
use Rattle.exec_table.proofs.rule.ExecTable.mark.Goals as goal

pub fetch_or-requires : goal.fetch_or-requires
fetch_or-requires c = let o = c.requires.seat in let x = view c.args.seat.now in
    let t = c.args.self.now in let w = c.wire_at-wire.result in let e = c.args.e in
    let wire = c.wire_at-wire.ensures in let p = c.peer_of-peer.ensures in
    let r = c.wire_at-wire.new.seat.seat in let number = wire.same.1 ∙ o.number in
    subst (λ (m : Sat). Asks t r (c.peer_of-peer.result.0 + 1) (λ v. bit_or v c.bit.result)
    (Did (first_node m.0) (step.Mark m.0.aim) r.me.1)) (sym wire.view) (word-asks t r o wire.same.0
    (ap (λ m. m.0.nodes) wire.view) (let k = t.words in let n = t.nodes_are in
    let i = peer-inside (sizes_in t).nodes c.wire_at-wire.new.seat.node w wire.sound in
    let q = p.peer in omega arith) c.requires.ready refl (λ b h is sizes can.
    let q = owed-wire b x.number e w h can (ap (λ x. (end_of_view x e).wire) is ∙ wire.wire) in (
      ap (λ k. k + 1) (p.peer ∙ (λ i. peer_in (number i) (sym q i))),
      (λ v. ap (λ k. bit_or v k) (c.bit.ensures ∙ ap (λ k. 2 ^ k) (p.bit
          ∙ (λ i. bit_at_end (peer_in (number i) (sym q i)) (sym q i))))),
    )))

pub returns : goal.returns
returns c = let wire = c.wire_at-wire.ensures in let did = c.fetch_or.ensures in
    let d = subst (λ (m : Sat). Did (first_node m.0) (step.Mark m.0.aim) m.1 c.fetch_or.result
    c.fetch_or.new.seat.me) wire.view did.2 in
    quiet-makes refl c.requires.seat d (did.0 ∙ wire.same.0) wire.same.1 wire.same.2 (ap marked_peer
    (ap marked_by (sym (d.word ∙ read-node d.before.core _ (marks-of d.before.core
    (view c.args.seat.now).number c.args.e d.may d.holds.laws.edges d.holds.laws.nodes).peer_in))
    ∙ sym c.marked.ensures))
