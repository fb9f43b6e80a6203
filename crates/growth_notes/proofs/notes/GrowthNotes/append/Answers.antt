use Rattle.growth_notes.proofs.Imports.{Allows, AreNoted, Appends, [], ap, arith, either, eqb, length, length-append, mod-add-mod, refl, some, step, subst, sym, ◌%◌, ◌+◌, ◌^◌, ◌∙◌, ◌∷◌}
use Rattle.growth_notes.proofs.NotesRule.{append-allowed}
use Rattle.growth_notes.proofs.notes.GrowthNotes.append.Goals as goal

pub compare_exchange_with-requires : goal.compare_exchange_with-requires
compare_exchange_with-requires g c =
    let z = c.args.self.now.sized in let k = c.args.self.now.key in
    let note = c.args.note.now in let less = c.requires.reserve in let own = note.own in
    let id = c.args.self.now.table.shared.table_id in
    let new = (note.count + 1) % 2 ^ 64 in (
      c.requires.note,
      omega arith,
      subst (λ r. Allows (AreNoted c.args.self.now.table.shared.key) id.slots note.seat.id
          note.seat.me (r + 1) (λ n. either (eqb n note.count) new n)
          (Appends (step id.slots (r + 1) note.count new (some c.args.growth.now)) note.seat.me))
          note.own (append-allowed _ _ _ _ _ note.seat.me.0 note.seat.me.1 _ note.writer
          (omega arith) note.counted refl),
    )

pub invariant_of-note : goal.invariant_of-note
invariant_of-note g c =
    let note = c.args.note.now in
    let did = c.compare_exchange_with.ensures.2 c.args.growth.now refl in record {
      own = ap (λ m. m.0.reserve) did ∙ note.own;
      writer = ap (λ m. m.0.role) did ∙ note.writer;
      bare = ap (λ m. m.1) did ∙ note.bare;
      counted = ap (λ n. (n + 1) % 2 ^ 64) note.counted
          ∙ mod-add-mod (length note.seat.me.0.growths) (2 ^ 64) 1
          ∙ ap (λ n. n % 2 ^ 64) (sym (length-append note.seat.me.0.growths
          (c.args.growth.now ∷ [])))
          ∙ ap (λ m. length m.0.growths % 2 ^ 64) (sym did);
    }
