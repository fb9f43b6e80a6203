use Rattle.exec_table.proofs.Imports.{Allows, Shown, Some, aiming, end_of_view, false, identity_of, sizes_in, slots, subst, sym, true, view, wire_of, wire_ok, ◌≡◌}
use Rattle.exec_table.proofs.Seating.{aim-allowed, place-edge, place-inside}
use Rattle.exec_table.proofs.rule.ExecTable.wire_at.Goals as goal

pub load-requires : goal.load-requires
load-requires c = let s = c.requires.seat in let t = c.args.self.now in
    let seat = c.args.seat.now in let x = view seat in let at = c.wire_place-place.ensures in
    let less = s.edges c.args.e c.requires.known in (
      s.table,
      place-inside false t c.args.e _ less at,
      subst (λ e. Allows (Shown (sizes_in t)) t.table.shared.table_id.slots seat.seat.id
          seat.seat.me c.wire_place-place.result (λ n. n) (λ n m'. (m' ≡ (aiming e x, slots seat))
          × ((end_of_view x e).wire ≡ Some (wire_of n))
          × (wire_ok x.sizes.nodes (wire_of n) ≡ true)))
          (sym (place-edge false (identity_of t) seat c.args.e _ s at))
          (aim-allowed (sizes_in t) _ seat.seat.id seat.seat.me x c.args.e _ s.single s.sizes
          c.requires.known at),
    )
