use Rattle.node_workers.proofs.Imports.{All, HasEndRoom, IsDequeFor, RunHasEnded, ap, arith, length, length-map, map, node_cell, refl, subst, sym, ℕ, ◌∙◌}
use Rattle.node_workers.proofs.EndLaws.{named-fit}
use Rattle.node_workers.proofs.SentNotes.{named_sent}
use Rattle.node_workers.proofs.run.run_named.Goals as goal

pub make-requires-clause-fit : goal.make-requires-clause-fit
make-requires-clause-fit g c κs within = named-fit g.P.Processor.seen _ _ _ _ _ _ c.requires.table
    c.requires.notes c.requires.reserves c.requires.runnable.stored c.requires.named
    (c.give_notes.ensures c.args.cells.items c.name_cells-named.ensures.named)

pub make_workers-workers-requires-clause-held : goal.make_workers-workers-requires-clause-held
make_workers-workers-requires-clause-held g c κs within = subst (λ (n : ℕ). All (IsDequeFor n)
    c.in-Ok.rooms.held.items) (c.len.ensures ∙ (c.args.cells.ok.0 ∙ sym (c.in-Ok-make.ensures.places
    ∙ (sym (length-map c.give_notes.new.named.items node_cell) ∙ ap length (c.give_notes.ensures
    c.args.cells.items c.name_cells-named.ensures.named).same)))) c.in-Ok.ensures.held

pub returns-in-Err-clause-err : goal.returns-in-Err-clause-err
returns-in-Err-clause-err g c = record {
  table_back = refl;
  root_back = refl;
  cells_back = c.unname_cells.ensures ∙ (ap (map node_cell) c.in-Err.ensures.err
      ∙ (c.give_notes.ensures c.args.cells.items c.name_cells-named.ensures.named).same);
}

pub make-requires-send-V : goal.make-requires-send-V
make-requires-send-V g c κs lives = named_sent _ _ c.type_bounds.send-P c.type_bounds.send-J _

pub make-requires-clause-few : goal.make-requires-clause-few
make-requires-clause-few g c κs lives =
    let first = c.give_notes.ensures c.args.cells.items c.name_cells-named.ensures.named in
    let many = length-map c.give_notes.new.named.items node_cell in
    let same = ap length first.same in
    let few = c.requires.runnable.stored.few in omega (arith, many, same, few)

pub unname_cells-requires-clause-room : goal.unname_cells-requires-clause-room
unname_cells-requires-clause-room g c κs lives =
    let first = c.give_notes.ensures c.args.cells.items c.name_cells-named.ensures.named in
    let many = length-map c.give_notes.new.named.items node_cell in
    let same = ap length first.same in let back = ap length c.in-Err.ensures.err in
    let room = c.name_cells-named.ensures.room in let ok = c.args.cells.ok in
    omega (arith, many, same, back, room, ok.0, ok.1)

pub run_shared-requires-clause-shared : goal.run_shared-requires-clause-shared
run_shared-requires-clause-shared g c κs lives =
    let first = c.give_notes.ensures c.args.cells.items c.name_cells-named.ensures.named in
    let many = length-map c.give_notes.new.named.items node_cell in
    let same = ap length first.same in let few = c.requires.runnable.stored.few in
    let places = c.in-Ok-make.ensures.places in record {
      table = c.requires.table;
      few = omega (arith, many, same, few, places);
      notes_are = c.requires.notes;
      one_each = c.requires.notes_root.one_each ∙ ap length c.requires.reserves;
      reserves = c.requires.named_reserves;
    }

pub run_shared-requires-clause-rooms : goal.run_shared-requires-clause-rooms
run_shared-requires-clause-rooms g c κs lives = subst (λ (n : ℕ). HasEndRoom n (length
    c.make_workers-workers.result.items) c.in-Ok.rooms.at_end) (c.len.ensures ∙ (c.args.cells.ok.0 ∙
    sym (c.in-Ok-make.ensures.places ∙ (sym (length-map c.give_notes.new.named.items node_cell) ∙ ap
    length (c.give_notes.ensures c.args.cells.items c.name_cells-named.ensures.named).same))))
    (subst (λ (w : ℕ). HasEndRoom c.len.result w c.in-Ok.rooms.at_end) (sym
    (c.make_workers-workers.ensures.count ∙ c.in-Ok.ensures.others)) c.in-Ok.ensures.at_end)

pub returns-in-Ok-make-clause-ok : goal.returns-in-Ok-make-clause-ok
returns-in-Ok-make-clause-ok g c =
    let first = c.give_notes.ensures c.args.cells.items c.name_cells-named.ensures.named in
    let many = length-map c.give_notes.new.named.items node_cell in let x = g.J.Naming.names in
    subst (λ (w : ℕ). RunHasEnded g.P.Processor.seen x.identity x.node c.args.table w (length
    c.args.cells.items) c.run_shared.result) (c.make_workers-workers.ensures.count ∙
    c.in-Ok.ensures.others) (subst (λ (n : ℕ). RunHasEnded g.P.Processor.seen x.identity x.node
    c.args.table (length c.make_workers-workers.result.items) n c.run_shared.result)
    (c.in-Ok-make.ensures.places ∙ (sym many ∙ ap length first.same)) c.run_shared.ensures)
