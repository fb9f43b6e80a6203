use Rattle.node_ends.proofs.Imports.{CellPicture, [], ap, arith, boxes_in, cond, drop, is_resting, length, pictures_of, stuck_from, sym, ◌++◌, ◌+◌, ◌<◌, ◌∙◌, ◌∷◌}
use Rattle.node_ends.proofs.Reports.{boxes-are, cell-read, cells-below, more-stuck}
use Rattle.node_ends.proofs.resting.list_stuck.Goals as goal

pub loop-n-preserved : goal.loop-n-preserved
loop-n-preserved g c =
    let lt : c.loop-n.n < length c.args.cells.now.items = omega arith in
    let cells = pictures_of g.P.Processor.seen c.args.cells.now.items in
    let boxes = boxes-are g.P.Processor.seen c.args.cells.now.items in
    record {
      items =
          ap (λ l. l ++ stuck_from (c.loop-n.n + 1) (drop (c.loop-n.n + 1)
          (boxes_in g.P.Processor.seen c.args.cells.now.items)))
          (c.list_if_stuck.ensures.items
          ∙ ap (λ (x : CellPicture). c.loop-n.report.items ++ cond (is_resting x.mark.state) (record
          { node = c.loop-n.n; last = x.mark.last } ∷ []) []) (sym (cell-read g.P.Processor.seen
          c.args.cells.now.items c.loop-n.n c.index.result.now lt c.index.ensures)))
          ∙ (rw (← boxes) (more-stuck cells c.loop-n.n c.loop-n.report.items
          (cells-below g.P.Processor.seen c.args.cells.now.items c.loop-n.n lt)
          (c.requires.tells c.loop-n.n lt)))
          ∙ c.loop-n.invariant.items;
      few = omega (arith, c.loop-n.invariant.few, c.list_if_stuck.ensures.few);
      room = omega (arith, c.loop-n.invariant.room, c.list_if_stuck.ensures.room);
    }
