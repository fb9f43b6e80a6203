use Rattle.exec_table.proofs.Imports.{ap, arith, dite, false, get_elem?, get_or, get_or-set_other, get_or-set_same, set, slots_counts, slots_filled, sym, ℕ_discrete, ◌∙◌}
use Rattle.exec_table.proofs.Surveying.{taken-next}
use Rattle.exec_table.proofs.shut.unload.Goals as goal

pub loop-i-preserved : goal.loop-i-preserved
loop-i-preserved c = let inv = c.loop-i.invariant in let did = c.push_reserved.ensures in record {
  moved = taken-next _ _ _ _ _ inv.moved did.items c.word.ensures;
  room = did.capacity ∙ inv.room;
}

pub loop-i-2-preserved : goal.loop-i-2-preserved
loop-i-2-preserved c = let inv = c.loop-i-2.invariant in let o = c.take.ensures.others in
    let did = c.push_reserved-in-loop-i-2.ensures in let i = c.loop-i-2.i in
    let was = slots_filled c.loop-i-2.closed.slots in
    let n = slots_counts c.loop-i-2.closed.slots in
    let t = c.loop-i-2-test.true in let e = c.slot_count-i-end.ensures in record {
      words = inv.words;
      moved = taken-next _ _ _ _ _ inv.moved did.items
          (ap (λ l. get_elem? l i) (sym inv.items) ∙ c.take.ensures.value);
      room = did.capacity ∙ inv.room;
      items = o.0 ∙ inv.items;
      count = o.2 ∙ inv.count;
      filled = λ k low high. ap (λ l. get_or l k false) o.1
          ∙ (get_or-set_other was i k false false (λ q. absurd (omega arith))
          ∙ inv.filled k (omega arith) (let h = high in let z = o.2 in omega arith));
      gone = λ k less. ap (λ l. get_or l k false) o.1 ∙ dite (ℕ_discrete k i)
          (λ q. ap (λ z. get_or (set was i false) z false) q ∙ get_or-set_same was i false false
          (let m = n.1 in let d = inv.count in omega arith))
          (λ q. get_or-set_other was i k false false q ∙ inv.gone k (omega arith));
    }
