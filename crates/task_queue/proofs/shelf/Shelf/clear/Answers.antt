use Rattle.task_queue.proofs.Imports.{All-pop, List, None, ShelfSeat, SlotsFit, Some, [], ap, arith, held, length, map, parts, refl, slots_counts, slots_items, subst, sym, times, total_over, ◌∙◌, ◌∷◌, ◌≡◌}
use Rattle.task_queue.proofs.Counts.{nil_from_times, total-push}
use Rattle.task_queue.proofs.ShelfRule.{gather-allowed, fit-final}
use Rattle.task_queue.proofs.shelf.Shelf.clear.Goals as goal

pub loop-next-init : goal.loop-next-init
loop-next-init g c =
    let s = c.in-Some.first in let popped = c.in-Some.ensures.items in
    let idle = All-pop (λ u. (u.seat.table_id ≡ c.args.self.table.shared.table_id) × (held u ≡ []))
    c.args.seats.items c.pop.new.self.items (Some s) popped c.requires.1 in record {
      table = idle.1.0;
      bare = s.slots ∙ ap (map (λ n. (n, None))) idle.1.1;
      none = nil_from_times s.seat.me.0.held (λ n. s.known n ∙ ap (times n) idle.1.1);
      whole = let t = total-push parts c.pop.new.self.items s in
          let p = ap (total_over {V = ShelfSeat g.row.V.Denot} parts) popped in
          let w = c.requires.0 in omega arith;
      idle = idle.0;
    }

pub join_seat-requires : goal.join_seat-requires
join_seat-requires g c =
    let s = c.in-Some-pop.next in let z = c.args.self.sized in let inv = c.loop-next.invariant in
    let idle = All-pop (λ u. (u.seat.table_id ≡ c.args.self.table.shared.table_id) × (held u ≡ []))
    c.loop-next.seats.items c.pop-in-loop-next.new.self.items
    (Some s) c.in-Some-pop.ensures.items inv.idle in (
      inv.table,
      idle.1.0,
      s.slots ∙ ap (map (λ n. (n, None))) idle.1.1,
      omega arith,
      gather-allowed _ _ _ _ (nil_from_times s.seat.me.0.held
          (λ n. s.known n ∙ ap (times n) idle.1.1)),
    )

pub loop-next-preserved : goal.loop-next-preserved
loop-next-preserved g c =
    let s = c.in-Some-pop.next in let popped = c.in-Some-pop.ensures.items in
    let inv = c.loop-next.invariant in let did = c.join_seat.ensures in record {
      table = did.0 ∙ inv.table;
      bare = ap (λ m. m.1) did.2 ∙ inv.bare;
      none = ap (λ m. m.0.held) did.2 ∙ inv.none;
      whole = let t = total-push parts c.pop-in-loop-next.new.self.items s in
          let q = ap (total_over {V = ShelfSeat g.row.V.Denot} parts) popped in
          let w = inv.whole in let p = ap (λ m. m.0.parts) did.2 in omega arith;
      idle = (All-pop (λ u. (u.seat.table_id ≡ c.args.self.table.shared.table_id) × (held u ≡ []))
          c.loop-next.seats.items c.pop-in-loop-next.new.self.items (Some s) popped inv.idle).0;
    }

pub unload-requires-clause-full : goal.unload-requires-clause-full
unload-requires-clause-full g c = c.close_with.ensures.values.1

pub unload-requires-clause-fit : goal.unload-requires-clause-fit
unload-requires-clause-fit g c =
    let inv = c.loop-next.invariant in let slots = c.close_with.result.slots in
    let len = c.in_default-pop.ensures.cases.0 in let ok = c.loop-next.seats.ok in
    let none = nobody c.loop-next.seats.items (omega arith) in let w = inv.whole in
    subst (λ k. SlotsFit g.V.Placed.fits k (slots_items slots)) (sym (slots_counts slots).0)
    (fit-final _ _ _ _ c.close_with.ensures.values.2 (omega arith) inv.none)
  where
    nobody : (ss : List (ShelfSeat g.row.V.Denot)) → length ss ≡ 0 → total_over parts ss ≡ 0
    nobody [] none = refl
    nobody (s ∷ ss) none = absurd (omega arith)
