use Rattle.task_queue.proofs.Imports.{ap, arith, get_or, sym, ◌∙◌}
use Rattle.task_queue.proofs.Counts.{at_below, front-rotated, rotated-next, times-take_next}
use Rattle.task_queue.proofs.seat.ShelfSeat.bring_to_front.Goals as goal

pub loop-i-preserved : goal.loop-i-preserved
loop-i-preserved g c =
    let was = c.args.self.now.held in let o = was.ok.0 in let inv = c.loop-i.invariant in
    let t = c.loop-i-test.true in let e = c.len-i-end.ensures in
    let p = at_below was.items c.loop-i._i (omega arith) in
    let front = front-rotated was.items c.loop-i.self.held.items c.loop-i._i p.0 inv.rotated p.1 in
    record {
      seat = c.rotate.ensures.seat ∙ inv.seat;
      view = c.rotate.ensures.view ∙ inv.view;
      rotated = rotated-next was.items _ c.loop-i._i p.0 p.1 (c.rotate.ensures.rotated p.0 _ front);
      none = times-take_next c.args.n was.items c.loop-i._i p.0 p.1
          (λ e. c.if-index-n.false (c.index.ensures
          ∙ ap (λ l. get_or l 0 c.index.result.now) front ∙ sym e)) inv.none;
    }
