use Rattle.task_queue.proofs.Imports.{AllFit, None, Some, [], ap, arith, dite, false, get_elem?, get_or, get_or-set_other, get_or-set_same, length, length-append, set, slots_counts, slots_filled, some-injective, subst, sym, ℕ_discrete, ◌∙◌, ◌∷◌, ◌≡◌}
use Rattle.task_queue.proofs.SlotValues.{AllFit-push}
use Rattle.task_queue.proofs.layout.unload.Goals as goal

pub unreachable-requires : goal.unreachable-requires
unreachable-requires g c =
    let t = c.loop-i-test.true in let e = c.slot_count-i-end.ensures in
    let w = c.requires.fit c.loop-i.i (omega arith) in
    let there = sym (ap (λ l. get_elem? l c.loop-i.i) c.loop-i.invariant.items ∙ w.1)
    ∙ c.take.ensures.value in
    let is : Some w.0 ≡ None = some-injective _ _ there ∙ c.in-None.is in absurd cc

pub loop-i-preserved : goal.loop-i-preserved
loop-i-preserved g c =
    let inv = c.loop-i.invariant in let o = c.take.ensures.others in
    let t = c.loop-i-test.true in let e = c.slot_count-i-end.ensures in
    let filled = slots_filled c.loop-i.closed.slots in
    let w = c.requires.fit c.loop-i.i (omega arith) in
    let there = sym (ap (λ l. get_elem? l c.loop-i.i) inv.items ∙ w.1) ∙ c.take.ensures.value in
    let is : Some w.0 ≡ Some c.in-Some.value = some-injective _ _ there ∙ c.in-Some.is in
    let value : w.0 ≡ c.in-Some.value = cc in
    let pushed = c.push_reserved.ensures.items in record {
      filled = λ k low high. ap (λ l. get_or l k false) o.1
          ∙ (get_or-set_other filled c.loop-i.i k false false (λ q. absurd (omega arith))
          ∙ inv.filled k (omega arith) (let h = high in let z = o.2 in omega arith));
      gone = λ k less. ap (λ l. get_or l k false) o.1 ∙ dite (ℕ_discrete k c.loop-i.i)
          (λ q. ap (λ z. get_or (set filled c.loop-i.i false) z false) q
          ∙ get_or-set_same filled c.loop-i.i false false
          (let n = (slots_counts c.loop-i.closed.slots).1 in let d = inv.count in omega arith))
          (λ q. get_or-set_other filled c.loop-i.i k false false q ∙ inv.gone k (omega arith));
      items = o.0 ∙ inv.items;
      count = o.2 ∙ inv.count;
      many = let a = ap length pushed in
          let b = length-append c.loop-i.room.items (c.in-Some.value ∷ []) in let m = inv.many in
          omega arith;
      room = c.push_reserved.ensures.capacity ∙ inv.room;
      fit = subst (AllFit g.V.Placed.fits) (sym pushed)
          (AllFit-push g.V.Placed.fits c.loop-i.room.items c.in-Some.value
          (subst (g.V.Placed.fits c.in-Some.value) (sym inv.many)
          (subst (λ v. g.V.Placed.fits v c.loop-i.i) value w.2)) inv.fit);
    }
