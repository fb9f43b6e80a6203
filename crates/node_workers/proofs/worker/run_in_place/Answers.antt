use Rattle.node_workers.proofs.Imports.{Some, ap, arith, once_below, rest, sym, times-taken_and_left, ◌∙◌, ◌∷◌}
use Rattle.node_workers.proofs.SentNotes.{named_sent}
use Rattle.node_workers.proofs.worker.run_in_place.Goals as goal

pub claim-requires-clause-share : goal.claim-requires-clause-share
claim-requires-clause-share g c κs lives = c.args.shelf.now.shared

pub visit_slot-end-requires-clause-lies : goal.visit_slot-end-requires-clause-lies
visit_slot-end-requires-clause-lies g c κs lives = let took = c.claim.ensures.taken in record {
  value = took.value;
  fitting = took.fitting;
  first = ap (λ m. m.1) took.seat
      ∙ ap (λ l. (c.args.n, Some took.value) ∷ rest l) (sym (ap (λ m. m.1) took.seat));
}

pub invariant_of-shelf : goal.invariant_of-shelf
invariant_of-shelf g c = let was = c.args.shelf.now in let took = c.claim.ensures.taken.seat in
    let visited = c.visit_slot-end.ensures.place in let left = c.release.ensures.left in
    let id = c.release.ensures.same ∙ visited.table ∙ c.claim.ensures.same in record {
      slots = ap (λ m. m.1) left ∙ visited.others ∙ ap (λ m. rest m.1) took ∙ was.slots;
      once = λ m. let i = ap (λ t. once_below m t.slots) id in let o = was.once m in omega arith;
      known = λ m. grind (arith, visited, times-taken_and_left);
      room = let i = ap (λ t. t.slots) id in let o = was.room in omega arith;
      shared = let v = ap (λ x. x.0.parts) left in let w = ap (λ v. v.parts) visited.view in
          let t = ap (λ x. x.0.parts) took in let o = was.shared in omega arith;
    }

pub claim-requires-send-V : goal.claim-requires-send-V
claim-requires-send-V g c κs lives = named_sent _ _ c.type_bounds.send-P c.type_bounds.send-J _

pub release-requires-send-V : goal.release-requires-send-V
release-requires-send-V g c κs lives = named_sent _ _ c.type_bounds.send-P c.type_bounds.send-J _
