use Rattle.node_workers.proofs.Imports.{Some, refl, rules, ℕ, ◌≡◌}
use Rattle.node_workers.proofs.worker.visit_slot.Goals as goal

pub slot_mut-slot-requires : goal.slot_mut-slot-requires
slot_mut-slot-requires g c = (c.requires.place, (Some c.requires.lies.value, c.requires.lies.first))

pub returns-clause-lies : goal.returns-clause-lies
returns-clause-lies g c = let named = c.visit_cell.new.named in
    let number : c.in-Some.named.cell.seat.node ≡ c.args.n = search rules in record {
      value = named;
      fitting = rw number at c.visit_cell.ensures.fits;
      first = refl;
    }
