use Rattle.node_workers.proofs.Imports.{All-pop, IsLostThere, Some, arith, held, number_of, ◌∙◌}
use Rattle.node_workers.proofs.BirthLaws.{last-once, put-last}
use Rattle.node_workers.proofs.SentNotes.{named_sent}
use Rattle.node_workers.proofs.births.put_lost.Goals as goal

pub put-requires-send-V : goal.put-requires-send-V
put-requires-send-V g c κs within = named_sent _ _ c.type_bounds.send-P c.type_bounds.send-J _

pub put-requires-clause-holds : goal.put-requires-clause-holds
put-requires-clause-holds g c κs within = last-once number_of _ _ _ _ _ c.in-Some.ensures.items
    c.loop-named.invariant.holds c.loop-named.shelf.once

pub put-requires-clause-fits : goal.put-requires-clause-fits
put-requires-clause-fits g c κs within = (All-pop (IsLostThere g.J.Naming.names g.P.Processor.seen)
    c.loop-named.new.items c.pop.new.self.items (Some c.in-Some.named) c.in-Some.ensures.items
    c.loop-named.invariant.lost).1

pub loop-named-preserved : goal.loop-named-preserved
loop-named-preserved g c = let inv = c.loop-named.invariant in let put = c.put.ensures in
    let shelf = c.loop-named.shelf in
    let last = put-last number_of c.pop.new.self.items c.loop-named.new.items c.in-Some.named (held
    shelf) (held c.put.new.seat) c.in-Some.ensures.items inv.holds (last-once number_of _ _ _ _ _
    c.in-Some.ensures.items inv.holds shelf.once) put.left.gone put.left.others in record {
      seat = (put.same.0 ∙ inv.seat.0, put.same.1 ∙ inv.seat.1);
      lost = (All-pop (IsLostThere g.J.Naming.names g.P.Processor.seen) c.loop-named.new.items
          c.pop.new.self.items (Some c.in-Some.named) c.in-Some.ensures.items inv.lost).0;
      holds = λ q. (last q).0;
      left = λ q. omega (arith, (last q).1, inv.left q);
    }
