use Rattle.task_queue.proofs.Imports.{IfSome, None, Some, ap, arith, map, once_below, rest, subst, sym, times, ◌∙◌, ◌∷◌}
use Rattle.task_queue.proofs.Counts.{once-cons, length-once}
use Rattle.task_queue.proofs.Seats.{slots-first, first-same}
use Rattle.task_queue.proofs.shelf.Shelf.take.Goals as goal

pub claim-requires-clause-share : goal.claim-requires-clause-share
claim-requires-clause-share g c κs lives = c.args.seat.now.shared

pub push_front_reserved-requires : goal.push_front_reserved-requires
push_front_reserved-requires g c =
    let was = c.args.seat.now in let slots = was.seat.table_id.slots in
    let s = ap (λ t. t.slots) c.requires.seat in let less = c.requires.place in
    let once = once-cons slots c.args.n was.held.items was.once (omega arith) c.requires.lacks in
    let k = length-once slots (c.args.n ∷ was.held.items) once in
    let r = was.room in let o = was.held.ok.0 in omega arith

pub exchange-requires : goal.exchange-requires
exchange-requires g c =
    let took = c.claim.ensures.taken in (
      c.claim.ensures.same ∙ c.requires.seat,
      (Some took.value, slots-first _ _ _ _ took.seat),
    )

pub invariant_of-seat : goal.invariant_of-seat
invariant_of-seat g c =
    let was = c.args.seat.now in let slots = was.seat.table_id.slots in
    let took = c.claim.ensures.taken in
    let swapped = c.exchange.ensures.3 in let pushed = c.push_front_reserved.ensures.items in
    let id = c.exchange.ensures.0 ∙ c.claim.ensures.same in record {
      slots = ap (λ m. m.1) swapped
          ∙ ap (λ l. (c.args.n, None) ∷ l) (ap (λ m. rest m.1) took.seat ∙ was.slots)
          ∙ sym (ap (map (λ n. (n, None))) pushed);
      once = λ m. let a = ap (times m) pushed in let i = ap (λ t. once_below m t.slots) id in
          let s = ap (λ t. t.slots) c.requires.seat in let less = c.requires.place in
          let none = c.requires.lacks in
          let o = once-cons slots c.args.n was.held.items was.once (omega arith) none m in
          omega arith;
      known = λ m. let a = ap (times m) pushed in let k = was.known m in
          let v = ap (λ x. times m x.0.held) swapped in
          let w = ap (λ x. times m x.0.held) took.seat in omega arith;
      room = let a = c.push_front_reserved.ensures.capacity in let i = ap (λ t. t.slots) id in
          let o = was.room in omega arith;
      shared = let v = ap (λ x. x.0.parts) swapped in let w = ap (λ x. x.0.parts) took.seat in
          let o = was.shared in omega arith;
    }

pub returns-clause-same : goal.returns-clause-same
returns-clause-same g c =
    let took = c.claim.ensures.taken in (
      c.exchange.ensures.0 ∙ c.claim.ensures.same,
      ap (λ x. x.0.parts) c.exchange.ensures.3 ∙ ap (λ x. x.0.parts) took.seat,
    )

pub returns-clause-fits : goal.returns-clause-fits
returns-clause-fits g c = let took = c.claim.ensures.taken in
    let is = first-same _ _ _ _ _ _ c.exchange.ensures.2 (slots-first _ _ _ _ took.seat) in
    subst (λ r. IfSome r (λ v. g.V.Placed.fits v c.args.n)) (sym is ∙ c.in-Some.is) took.fitting
