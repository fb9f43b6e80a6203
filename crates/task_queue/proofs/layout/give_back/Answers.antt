use Rattle.task_queue.proofs.Imports.{[], ap, arith, length, length-append, ◌++◌, ◌∙◌, ◌∷◌}
use Rattle.task_queue.proofs.SlotValues.{values-back, values-back_none}
use Rattle.task_queue.proofs.layout.give_back.Goals as goal

pub loop-slot-preserved-in-Some-slot : goal.loop-slot-preserved-in-Some-slot
loop-slot-preserved-in-Some-slot g c =
    let popped = c.in-Some.ensures.items in let pushed = c.push_reserved.ensures.items in
    let inv = c.loop-slot.invariant in record {
      all = values-back c.pop.new.self.items _ c.loop-slot.values.items _ _ c.in-Some-slot.value
          (popped ∙ ap (λ x. c.pop.new.self.items ++ x ∷ []) c.in-Some-slot.is) pushed inv.all;
      room = let a = ap length popped in
          let b = length-append c.pop.new.self.items (c.in-Some.slot ∷ []) in
          let d = ap length pushed in
          let e = length-append c.loop-slot.values.items (c.in-Some-slot.value ∷ []) in
          let r = inv.room in let k = c.push_reserved.ensures.capacity in omega arith;
    }

pub loop-slot-preserved : goal.loop-slot-preserved
loop-slot-preserved g c =
    let popped = c.in-Some.ensures.items in let inv = c.loop-slot.invariant in record {
      all = values-back_none c.pop.new.self.items _ c.loop-slot.values.items _
          (popped ∙ ap (λ x. c.pop.new.self.items ++ x ∷ []) c.in-None.is) inv.all;
      room = let a = ap length popped in
          let b = length-append c.pop.new.self.items (c.in-Some.slot ∷ []) in
          let r = inv.room in omega arith;
    }
