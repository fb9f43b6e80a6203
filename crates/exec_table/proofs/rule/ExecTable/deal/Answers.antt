use Rattle.exec_table.proofs.Imports.{IsOpen, NodeSeat, [], ap, arith, first_or_none, get_elem?, identity_of, length, length_push, no_view, one, refl, rest_of, sizes_in, subst, sym, without_first_node, ℕ, ⊎_elim, ◌+◌, ◌<◌, ◌∙◌, ◌≡◌}
use Rattle.exec_table.proofs.Starting.{dealt_is_open, first-of, one-more, peels}
use Rattle.exec_table.proofs.rule.ExecTable.deal.Goals as goal

pub split_seat-seat-requires : goal.split_seat-seat-requires
split_seat-seat-requires c = let w = c.args.self.now.words in let inv = c.loop-i.invariant in
    let key = sizes_in c.args.self.now in let t = c.loop-i-test.true in
    let n = c.args.self.now.nodes_are in (
      inv.table,
      omega arith,
      peels key c.loop-i.root.seat.id c.loop-i.root.seat.me.0 _ _
          (ap (λ m. m.0.nodes) inv.view ∙ first-of key c.loop-i.i key.nodes (omega arith)),
    )

pub loop-i-preserved : goal.loop-i-preserved
loop-i-preserved c = let t = c.args.self.now in let key = sizes_in t in
    let inv = c.loop-i.invariant in
    let test = c.loop-i-test.true in let n = t.nodes_are in let i = c.loop-i.i in
    let less : i < key.nodes = omega arith in let first = first-of key i key.nodes less in
    let did = c.split_seat-seat.ensures in let items = c.push_reserved.ensures.items in
    let dealt : NodeSeat = record {
      seat = c.split_seat-seat.result;
      node = i;
      held = c.in_ok-held.held;
    } in let here = identity_of t in
    let at_start : IsOpen here i dealt = dealt_is_open t dealt i (did.3 ∙ inv.table) less refl
    (did.4 ∙ ap (λ l. (one (first_or_none l), [])) (ap (λ m. m.0.nodes) inv.view ∙ first))
    c.in_ok-held.ensures.items
    (let e = t.edges_are in let r = c.in_ok-held.ensures.capacity in omega (arith, e, r)) in
    record {
      table = did.0 ∙ inv.table;
      view = did.2 ∙ (ap (λ m. (without_first_node m.0, m.1)) inv.view
          ∙ ap (λ l. (record no_view { nodes = rest_of l; sizes = key }, [])) first);
      count = ap length items ∙ (length_push c.loop-i.nodes.items dealt ∙ ap
          (λ k. k + 1) inv.count);
      room = c.push_reserved.ensures.capacity ∙ inv.room;
      each = λ k s h. ⊎_elim (λ z. inv.each k s z)
          (λ (z : (k ≡ i) × (dealt ≡ s)). subst (λ (y : ℕ × NodeSeat). IsOpen here y.0 y.1)
          (λ j. (sym z.0 j, z.1 j)) at_start) (one-more c.loop-i.nodes.items dealt s k i inv.count
          (ap (λ l. get_elem? l k) (sym items) ∙ h));
    }
