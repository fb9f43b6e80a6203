use Rattle.exec_table.proofs.Imports.{ap, arith, eqb, false, get_or, has, has-last, length, ne_eqb, take, take_more, ◌<◌, ◌∙◌, ◌≡◌}
use Rattle.exec_table.proofs.SlotLists.{front-rotated, rotated-next}
use Rattle.exec_table.proofs.rule.NodeSeat.bring_to_front.Goals as goal

pub loop-i-preserved : goal.loop-i-preserved
loop-i-preserved c = let was = c.args.self.now.held in let now = c.loop-i.self.held in
    let inv = c.loop-i.invariant in let i = c.loop-i._i in let o = was.ok.0 in
    let e = c.len-i-end.ensures in let t = c.loop-i-test.true in
    let less : i < length was.items = omega arith in
    let front = front-rotated was.items now.items i inv.rotated less in
    let did = c.rotate.ensures in record {
      hand = did.hand;
      table = did.same.0 ∙ inv.table;
      view = did.same.1 ∙ inv.view;
      node = did.same.2 ∙ inv.node;
      room = did.same.3 ∙ inv.room;
      slots = λ d. did.slots d ∙ inv.slots d;
      rotated = rotated-next was.items _ i (did.rotated _ _ front) less;
      none = let x = get_or was.items i 0 in let ne : eqb x c.args.e ≡ false = ne_eqb x c.args.e
          (λ q. c.if-index-e.false (c.index.ensures ∙ (ap (λ l. get_or l 0 c.index.result.now) front
          ∙ q))) in let more = ap (has c.args.e) (take_more was.items i 0 less) in
          let last = has-last x c.args.e (take i was.items) in let n = inv.none in
          grind (arith, more, last, n, ne);
    }
