use Rattle.node_workers.proofs.Imports.{All-pop, FitsOwnPlace, Some, [], ap, arith, below_from_once, held, inl, number_of, offered_more, offered_none, refl, ◌++◌, ◌∙◌, ◌∷◌}
use Rattle.node_workers.proofs.BirthLaws.{last-first, last-once, put-last}
use Rattle.node_workers.proofs.SentNotes.{named_sent}
use Rattle.node_workers.proofs.births.put_born.Goals as goal

pub put-requires-send-V : goal.put-requires-send-V
put-requires-send-V g c κs within = named_sent _ _ c.type_bounds.send-P c.type_bounds.send-J _

pub put-requires-clause-holds : goal.put-requires-clause-holds
put-requires-clause-holds g c κs within = last-once number_of _ _ _ _ _ c.in-Some.ensures.items
    c.loop-named.invariant.holds c.loop-named.shelf.once

pub offer-requires-clause-few : goal.offer-requires-clause-few
offer-requires-clause-few g c = let seat = c.loop-named.shelf in
    let slots = seat.seat.table_id.slots in
    let less = below_from_once slots (number_of c.in-Some.named) seat.held.items seat.once
    (last-once number_of _ _ _ _ _ c.in-Some.ensures.items c.loop-named.invariant.holds seat.once)
    in let of = ap (λ t. t.slots) (c.loop-named.invariant.seat.0 ∙ c.requires.shelf) in
    let few = c.requires.shared.few in omega (arith, less, of, few)

pub put-requires-clause-fits : goal.put-requires-clause-fits
put-requires-clause-fits g c κs within = (All-pop (FitsOwnPlace g.J.Naming.names g.P.Processor.seen)
    c.loop-named.new.items c.pop.new.self.items (Some c.in-Some.named) c.in-Some.ensures.items
    c.loop-named.invariant.fit).1

pub loop-named-init : goal.loop-named-init
loop-named-init g c = record {
  pass = c.requires.pass;
  seat = (refl, refl);
  fit = c.requires.fit;
  holds = c.requires.holds;
  left = λ q. refl;
  numbers = [];
  offered = offered_none;
  all = refl;
}

pub loop-named-preserved : goal.loop-named-preserved
loop-named-preserved g c = let inv = c.loop-named.invariant in let d = c.in-Some.named in
    let put = c.put.ensures in let all = c.loop-named.new.items in
    let popped = c.in-Some.ensures.items in let shelf = c.loop-named.shelf in
    let last = put-last number_of c.pop.new.self.items all d (held shelf) (held c.put.new.seat)
    popped inv.holds (last-once number_of _ _ _ _ _ popped inv.holds shelf.once) put.left.gone
    put.left.others in record {
      seat = (put.same.0 ∙ inv.seat.0, put.same.1 ∙ inv.seat.1);
      pass = c.offer.ensures.pass;
      fit = (All-pop (FitsOwnPlace g.J.Naming.names g.P.Processor.seen) all c.pop.new.self.items
          (Some d) popped inv.fit).0;
      numbers = inv.numbers ++ number_of d ∷ [];
      offered = offered_more inv.offered (inl c.offer.ensures.offered);
      all = last-first number_of c.pop.new.self.items all d inv.numbers popped ∙ inv.all;
      holds = λ q. (last q).0;
      left = λ q. omega (arith, (last q).1, inv.left q);
    }
