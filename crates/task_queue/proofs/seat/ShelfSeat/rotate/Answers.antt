use Rattle.task_queue.proofs.Imports.{[], ap, arith, once_below, times, ℕ, ◌∙◌, ◌∷◌, ◌≡◌}
use Rattle.task_queue.proofs.Counts.{times-append}
use Rattle.task_queue.proofs.Seats.{slots-rotated}
use Rattle.task_queue.proofs.seat.ShelfSeat.rotate.Goals as goal

pub invariant_of-self : goal.invariant_of-self
invariant_of-self g c =
    let was = c.args.self.now in let did = c.turn.ensures in
    let front = c.in-Some.ensures.items in let last = c.push_back_reserved.ensures.items in
    let ns = c.pop_front.new.self.items in let n = c.in-Some.n in
    let same : (m : ℕ) → times m c.push_back_reserved.new.self.items ≡ times m was.held.items =
    (λ m. let a = ap (times m) last in let b = times-append m ns (n ∷ []) in
    let d = ap (times m) front in omega arith) in record {
      slots = ap (λ m. m.1) did.2
          ∙ slots-rotated was.seat.me.1 was.held.items ns _ n was.slots front last;
      once = λ m. let s = same m in let o = was.once m in
          let i = ap (λ t. once_below m t.slots) did.0 in omega arith;
      known = λ m. let s = same m in let o = was.known m in
          let i = ap (λ x. times m x.0.held) did.2 in omega arith;
      room = let a = c.in-Some.ensures.capacity in let b = c.push_back_reserved.ensures.capacity in
          let d = ap (λ t. t.slots) did.0 in let o = was.room in omega arith;
      shared = let i = ap (λ x. x.0.parts) did.2 in let o = was.shared in omega arith;
    }
