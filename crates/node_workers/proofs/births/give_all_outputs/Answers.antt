use Rattle.node_workers.proofs.Imports.{AwaitsGrowth, EndsNote, HasNewOutputs, IsLost, NamedCell, arith, at_index, cases_lt, inl, inr, length-set, place_at, refl, ◌+◌, ◌<◌, ◌∙◌, ◌≤◌}
use Rattle.node_workers.proofs.BirthLaws.{lost-given, lost-waiting, new-node}
use Rattle.node_workers.proofs.NoteLaws.{set-each, within}
use Rattle.node_workers.proofs.births.give_all_outputs.Goals as goal

pub give_outputs-requires-clause-named : goal.give_outputs-requires-clause-named
give_outputs-requires-clause-named g c κs within = c.loop-k.invariant.waiting c.loop-k.k
    c.index_mut.result.now (at_index c.loop-k.new.items c.loop-k.k c.index_mut.result.now
    (omega (arith, c.loop-k.invariant.many)) c.index_mut.ensures.value) (omega arith)

pub loop-k-init : goal.loop-k-init
loop-k-init g c = record {
  note = c.requires.note;
  reserve = refl;
  noted_is = refl;
  many = c.requires.many;
  waiting = λ i d at le. c.requires.waiting i d at;
  given = λ h growth ends i d at lt. absurd (omega (arith, lt));
}

pub loop-k-preserved : goal.loop-k-preserved
loop-k-preserved g c = let inv = c.loop-k.invariant in let x = g.J.Naming.names in
    let seen = g.P.Processor.seen in let k = c.loop-k.k in record {
      note = c.give_outputs.ensures.note;
      reserve = c.give_outputs.ensures.reserve ∙ inv.reserve;
      noted_is = c.give_outputs.ensures.noted ∙ inv.noted_is;
      many = length-set c.loop-k.new.items k c.give_outputs.new.named ∙ inv.many;
      waiting = set-each (λ i (e : NamedCell g.row.P.Denot g.row.J.Denot). k + 1 ≤ i → AwaitsGrowth
          x seen (place_at c.args.places.now i) e) c.loop-k.new.items k c.give_outputs.new.named (λ
          i e at ne le. inv.waiting i e at (omega (arith, le))) (λ le. absurd (omega (arith, le)));
      given = λ h growth ends. set-each (λ i (e : NamedCell g.row.P.Denot g.row.J.Denot). i < k + 1
          → HasNewOutputs x seen h (place_at c.args.places.now i) e) c.loop-k.new.items k
          c.give_outputs.new.named (λ i e at ne lt. inv.given h growth ends i e at
          (omega (arith, lt, ne))) (λ lt. c.in-Ok.ensures.ok h k growth.wired record {
            reserve_is = inv.reserve ∙ ends.reserve_is;
            noted_is = inv.noted_is ∙ ends.noted_is;
          } (new-node growth k c.loop-k-test.true));
    }

pub returns-clause-ok : goal.returns-clause-ok
returns-clause-ok g c = λ h growth ends i d at. c.loop-k.invariant.given h growth ends i d at
    (omega (arith, within c.loop-k.new.items i d at, c.loop-k.invariant.many))

pub returns-in-Err-clause-lost : goal.returns-in-Err-clause-lost
returns-in-Err-clause-lost g c = λ h growth ends.
    let inv = c.loop-k.invariant in let x = g.J.Naming.names in let seen = g.P.Processor.seen in
    let places = c.args.places.now in let k = c.loop-k.k in let cells = c.loop-k.new.items in
    let here : EndsNote h c.loop-k.note = grind arith in
    set-each (λ i (e : NamedCell g.row.P.Denot g.row.J.Denot). IsLost x seen (place_at places i) e)
    cells k c.give_outputs.new.named
    (λ i e at ne. let lt = within cells i e at in let many = inv.many in elim (cases_lt i k) [
      | inl less ↦ lost-given x seen growth.wired (new-node growth i (omega (arith, lt, many)))
          (inv.given h growth ends i e at less)
      | inr le ↦ lost-waiting x seen (place_at places i) e (inv.waiting i e at le)
    ]) (c.in-Err.ensures.lost h k growth.wired here (new-node growth k c.loop-k-test.true))
