use Rattle.node_workers.proofs.Imports.{List, ap, arith, held, nil_from_let_go, nil_from_times, offers-none, times, times-single, ℕ, ◌∙◌, ◌∷◌}
use Rattle.node_workers.proofs.BirthLaws.{let-go}
use Rattle.node_workers.proofs.SentNotes.{named_sent}
use Rattle.node_workers.proofs.growth_visit.grow_in_place.Goals as goal

pub take-named-requires-send-V : goal.take-named-requires-send-V
take-named-requires-send-V g c κs within =
    named_sent _ _ c.type_bounds.send-P c.type_bounds.send-J _

pub take-named-requires-clause-lacks : goal.take-named-requires-clause-lacks
take-named-requires-clause-lacks g c κs within = ap (times c.args.n) c.requires.shelf.1

pub put-requires-send-V : goal.put-requires-send-V
put-requires-send-V g c κs within = named_sent _ _ c.type_bounds.send-P c.type_bounds.send-J _

pub put-requires-clause-seat : goal.put-requires-clause-seat
put-requires-clause-seat g c κs within = c.take-named.ensures.same.0 ∙ c.requires.shelf.0

pub put-requires-clause-holds : goal.put-requires-clause-holds
put-requires-clause-holds g c κs within = times-single _ _ _ c.take-named.ensures.held
    c.requires.shelf.1

pub returns-then-not-is_to_grow-clause-worker : goal.returns-then-not-is_to_grow-clause-worker
returns-then-not-is_to_grow-clause-worker g c = record {
  seat = c.requires.worker.seat;
  pass = c.requires.worker.pass;
  offers = offers-none _ _;
}

pub returns-then-not-is_to_grow-clause-shelf : goal.returns-then-not-is_to_grow-clause-shelf
returns-then-not-is_to_grow-clause-shelf g c = let left = c.put.ensures.left in (
  c.put.ensures.same.0 ∙ (c.take-named.ensures.same.0 ∙ c.requires.shelf.0),
  nil_from_let_go _ _ _ (c.take-named.ensures.held ∙ ap (λ (l : List ℕ). c.args.n ∷ l)
      c.requires.shelf.1) left.gone left.others,
)

pub returns-then-not-is_to_grow-clause-parts : goal.returns-then-not-is_to_grow-clause-parts
returns-then-not-is_to_grow-clause-parts g c = c.put.ensures.same.1 ∙ c.take-named.ensures.same.1

pub grow_cell-end-requires-clause-shelf : goal.grow_cell-end-requires-clause-shelf
grow_cell-end-requires-clause-shelf g c κs within = c.take-named.ensures.same.0 ∙ c.requires.shelf.0

pub put-requires-2-send-V : goal.put-requires-2-send-V
put-requires-2-send-V g c κs within = named_sent _ _ c.type_bounds.send-P c.type_bounds.send-J _

pub put-requires-2-clause-seat : goal.put-requires-2-clause-seat
put-requires-2-clause-seat g c κs within = c.grow_cell-end.ensures.shelf.same.0
    ∙ (c.take-named.ensures.same.0 ∙ c.requires.shelf.0)

pub put-requires-2-clause-holds : goal.put-requires-2-clause-holds
put-requires-2-clause-holds g c κs within = c.grow_cell-end.ensures.shelf.kept c.args.n
    ∙ times-single _ _ _ c.take-named.ensures.held c.requires.shelf.1

pub returns-clause-shelf : goal.returns-clause-shelf
returns-clause-shelf g c = let n = c.args.n in let left = c.put-2.ensures.left in
    let took = c.take-named.ensures in let grew = c.grow_cell-end.ensures.shelf in
    let one = grew.kept n ∙ times-single _ _ _ took.held c.requires.shelf.1 in (
      c.put-2.ensures.same.0 ∙ (grew.same.0 ∙ (took.same.0 ∙ c.requires.shelf.0)),
      nil_from_times (held c.put-2.new.seat) (λ q.
          let less = let-go _ _ _ one left.gone left.others q in let k = grew.kept q in
          let t = ap (times q) took.held in let none = ap (times q) c.requires.shelf.1 in
          omega (arith, less, k, t, none)),
    )

pub returns-clause-parts : goal.returns-clause-parts
returns-clause-parts g c = c.put-2.ensures.same.1
    ∙ (c.grow_cell-end.ensures.shelf.same.1 ∙ c.take-named.ensures.same.1)
