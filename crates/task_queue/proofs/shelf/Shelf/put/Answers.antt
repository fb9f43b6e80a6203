use Rattle.task_queue.proofs.Imports.{None, Some, ap, arith, drop, map, once_below, rest, sym, times, without_each, ◌∙◌, ◌∷◌}
use Rattle.task_queue.proofs.Counts.{below_from_once, times-both_without}
use Rattle.task_queue.proofs.shelf.Shelf.put.Goals as goal

pub release-requires-clause-place : goal.release-requires-clause-place
release-requires-clause-place g c = let seat = c.args.seat.now in
    let s = ap (λ t. t.slots) c.requires.seat in
    let less = below_from_once _ c.args.n seat.held.items seat.once c.requires.holds in omega arith

pub release-requires-clause-lies : goal.release-requires-clause-lies
release-requires-clause-lies g c κs lives =
    let swapped = ap (λ m. m.1) c.exchange.ensures.3 in record {
      value = c.args.v;
      fitting = c.requires.fits;
      first = swapped ∙ ap (λ l. (c.args.n, Some c.args.v) ∷ rest l) (sym swapped);
    }

pub invariant_of-seat : goal.invariant_of-seat
invariant_of-seat g c =
    let b = c.bring_to_front.new.self in let first = c.bring_to_front.ensures.first in
    let did = c.release.ensures.left in let swapped = c.exchange.ensures.3 in
    let left = c.pop_front.ensures.rest ∙ ap (drop 1) first.1 in
    let id = c.release.ensures.same ∙ c.exchange.ensures.0 in record {
      slots = ap (λ m. m.1) did ∙ (ap (λ m. rest m.1) swapped
          ∙ (ap rest (b.slots ∙ ap (map (λ n. (n, None))) first.1)
          ∙ sym (ap (map (λ n. (n, None))) left)));
      once = λ m. let a = ap (times m) left in let f = ap (times m) first.1 in let o = b.once m in
          let i = ap (λ t. once_below m t.slots) id in omega arith;
      known = λ m. let a = ap (times m) left in let v = ap (λ x. times m x.0.held) did in
          let w = ap (λ x. times m (without_each c.args.n x.0.held)) swapped in
          let one = c.bring_to_front.ensures.same c.args.n in let h = c.requires.holds in
          let k = times-both_without c.args.n b.seat.me.0.held b.held.items first.0 b.known first.1
          (omega arith) m in omega arith;
      room = let a = c.pop_front.ensures.capacity in let i = ap (λ t. t.slots) id in
          let o = b.room in omega arith;
      shared = let v = ap (λ x. x.0.parts) did in let w = ap (λ x. x.0.parts) swapped in
          let o = b.shared in omega arith;
    }

pub returns-clause-same : goal.returns-clause-same
returns-clause-same g c = let did = c.release.ensures.left in (
  c.release.ensures.same ∙ c.exchange.ensures.0 ∙ c.bring_to_front.ensures.seat,
  ap (λ x. x.0.parts) did ∙ ap (λ x. x.0.parts) c.exchange.ensures.3
      ∙ ap (λ v. v.parts) c.bring_to_front.ensures.view,
)
