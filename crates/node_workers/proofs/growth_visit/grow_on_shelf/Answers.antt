use Rattle.node_workers.proofs.Imports.{offers-none, refl, ℕ, ◌∙◌}
use Rattle.node_workers.proofs.BirthLaws.{waiting-there}
use Rattle.node_workers.proofs.GrowerLaws.{lost-asked}
use Rattle.node_workers.proofs.GrowthVisits.{holds-taken, keeps-itself, keeps-taken}
use Rattle.node_workers.proofs.growth_visit.grow_on_shelf.Goals as goal

pub returns-in_default-clause-offers : goal.returns-in_default-clause-offers
returns-in_default-clause-offers g c = offers-none _ _

pub returns-in_default-clause-shelf : goal.returns-in_default-clause-shelf
returns-in_default-clause-shelf g c = keeps-itself c.args.shelf.now

pub returns-in_default-clause-lost : goal.returns-in_default-clause-lost
returns-in_default-clause-lost g c = lost-asked c.requires.asked

pub put_lost-requires-clause-shelf : goal.put_lost-requires-clause-shelf
put_lost-requires-clause-shelf g c κs within = c.take_all.ensures.seat.0 ∙ c.requires.shelf

pub put_lost-requires-clause-lost : goal.put_lost-requires-clause-lost
put_lost-requires-clause-lost g c κs within = waiting-there _ g.P.Processor.seen _ _
    c.take_all.ensures.waiting

pub put_lost-requires-clause-holds : goal.put_lost-requires-clause-holds
put_lost-requires-clause-holds g c κs within = let cells = c.take_all.new.new.items in
    holds-taken cells cells refl c.args.shelf.now c.take_all.new.shelf c.take_all.ensures.held

pub returns-in-Err-clause-offers : goal.returns-in-Err-clause-offers
returns-in-Err-clause-offers g c = offers-none _ _

pub returns-in-Err-clause-shelf : goal.returns-in-Err-clause-shelf
returns-in-Err-clause-shelf g c = keeps-taken c.take_all.new.new.items c.take_all.new.new.items refl
    c.args.shelf.now c.take_all.new.shelf c.take_all.ensures.held c.put_lost.new.shelf
    c.take_all.ensures.seat c.put_lost.ensures.held c.put_lost.ensures.seat

pub returns-in-Err-clause-lost : goal.returns-in-Err-clause-lost
returns-in-Err-clause-lost g c = lost-asked c.requires.asked

pub grow_all-requires-clause-waiting : goal.grow_all-requires-clause-waiting
grow_all-requires-clause-waiting g c κs within =
    rw c.as_slice-places.ensures.value at c.take_all.ensures.waiting

pub put_born-requires-clause-shelf : goal.put_born-requires-clause-shelf
put_born-requires-clause-shelf g c κs within = c.take_all.ensures.seat.0 ∙ c.requires.shelf

pub put_born-requires-clause-holds : goal.put_born-requires-clause-holds
put_born-requires-clause-holds g c κs within = let cells = c.take_all.new.new.items in
    let took = c.take_all.ensures in let same = c.grow_all.ensures.numbers in
    holds-taken cells c.grow_all.new.new.items same c.args.shelf.now c.take_all.new.shelf took.held

pub put_lost-requires-in-Err-grow_all-clause-shelf :
    goal.put_lost-requires-in-Err-grow_all-clause-shelf
put_lost-requires-in-Err-grow_all-clause-shelf g c κs within =
    c.take_all.ensures.seat.0 ∙ c.requires.shelf

pub put_lost-requires-in-Err-grow_all-clause-holds :
    goal.put_lost-requires-in-Err-grow_all-clause-holds
put_lost-requires-in-Err-grow_all-clause-holds g c κs within = holds-taken c.take_all.new.new.items
    c.grow_all.new.new.items c.grow_all.ensures.numbers c.args.shelf.now c.take_all.new.shelf
    c.take_all.ensures.held

pub returns-in-Ok-grow_all-clause-offers : goal.returns-in-Ok-grow_all-clause-offers
returns-in-Ok-grow_all-clause-offers g c = (_, c.put_born.ensures.offers)

pub returns-in-Ok-grow_all-clause-shelf : goal.returns-in-Ok-grow_all-clause-shelf
returns-in-Ok-grow_all-clause-shelf g c = let cells = c.take_all.new.new.items in
    let took = c.take_all.ensures in let same = c.grow_all.ensures.numbers in
    keeps-taken cells c.grow_all.new.new.items same c.args.shelf.now c.take_all.new.shelf took.held
    c.put_born.new.shelf took.seat c.put_born.ensures.held c.put_born.ensures.seat

pub returns-in-Err-grow_all-clause-offers : goal.returns-in-Err-grow_all-clause-offers
returns-in-Err-grow_all-clause-offers g c = offers-none _ _

pub returns-in-Err-grow_all-clause-shelf : goal.returns-in-Err-grow_all-clause-shelf
returns-in-Err-grow_all-clause-shelf g c = keeps-taken c.take_all.new.new.items
    c.grow_all.new.new.items c.grow_all.ensures.numbers c.args.shelf.now c.take_all.new.shelf
    c.take_all.ensures.held c.put_lost-in-Err-grow_all.new.shelf c.take_all.ensures.seat
    c.put_lost-in-Err-grow_all.ensures.held c.put_lost-in-Err-grow_all.ensures.seat
