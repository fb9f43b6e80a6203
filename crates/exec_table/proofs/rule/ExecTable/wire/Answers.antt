use Rattle.exec_table.proofs.Seating.{Asks, edge-asks, edge-did, quiet-makes}
use Rattle.exec_table.proofs.Imports.{Did, ap, either, eqb, false, identity_of, refl, slots, subst, sym, view, wire_in, wire_place, wired, ◌-◌, ◌∙◌}
use Rattle.exec_table.proofs.Wording.{read-wire}
use Rattle.exec_table.proofs.Working.{wire-in-read, wire-inside, wire-there-in, word-of-wire}
use Rattle.core_laws.specs.declared.types.Step.TheVariants as step
use Rattle.exec_table.proofs.rule.ExecTable.wire.Goals as goal

pub compare_exchange-found-requires : goal.compare_exchange-found-requires
compare_exchange-found-requires c = let s = c.requires.seat in let seat = c.args.seat.now in
    let t = c.args.self.now in let i = c.wire_place-place.result in let g = c.requires.ready in
    let is = word-of-wire t seat c.args.e c.args.w _ s g c.wire_word-word.ensures in
    subst (λ v. Asks t seat.seat i (λ n. either (eqb n 0) c.wire_word-word.result n)
    (Did (view seat) (step.Wire (i - wire_place (view seat).sizes 0) v) (slots seat))) (sym is)
    (edge-asks t false seat.seat (λ _ e. step.Wire e c.args.w) c.args.e s refl s.single
    (wire-inside (identity_of t) seat c.args.e c.args.w s g) c.wire_place-place.ensures g refl
    (λ _ _ v. (refl, ap (λ k. either (eqb v 0) k v) c.wire_word-word.ensures)))

pub returns : goal.returns
returns c = let s = c.requires.seat in let seat = c.args.seat.now in let e = c.args.e in
    let is = word-of-wire c.args.self.now seat e c.args.w _ s c.requires.ready
    c.wire_word-word.ensures in
    let d = edge-did seat.seat.me false (λ _ e. step.Wire e c.args.w) e s refl
    c.wire_place-place.ensures (subst (λ v. Did (view seat) (step.Wire (c.wire_place-place.result
    - wire_place (view seat).sizes 0) v) (slots seat) c.compare_exchange-found.result
    c.compare_exchange-found.new.seat.me) is c.compare_exchange-found.ensures.2) in
    let there = wire-there-in d.before (view seat).number e c.args.w d.may in
    quiet-makes refl s d c.compare_exchange-found.ensures.0 refl refl
    (ap wired (sym (c.refused.ensures ∙ (c.wire_in_word.ensures ∙ (ap wire_in (d.word
    ∙ read-wire d.before.core d.holds.laws e there) ∙ wire-in-read d.before e d.holds there)))))
