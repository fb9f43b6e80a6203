use Rattle.node_workers.proofs.Imports.{arith, held, hit_same, sym, ◌∙◌}
use Rattle.node_workers.proofs.BirthLaws.{let-go, not-among}
use Rattle.node_workers.proofs.SentNotes.{named_sent}
use Rattle.node_workers.proofs.births.take_new.Goals as goal

pub take-named-requires-send-V : goal.take-named-requires-send-V
take-named-requires-send-V g c κs within =
    named_sent _ _ c.type_bounds.send-P c.type_bounds.send-J _

pub take-named-requires-clause-lacks : goal.take-named-requires-clause-lacks
take-named-requires-clause-lacks g c κs within = not-among c.args.p (held c.args.shelf.now)
    (sym c.contains.ensures.value ∙ c.if-contains.false)

pub put-requires-send-V : goal.put-requires-send-V
put-requires-send-V g c κs within = named_sent _ _ c.type_bounds.send-P c.type_bounds.send-J _

pub returns-clause-err : goal.returns-clause-err
returns-clause-err g c = λ q. grind (arith, not-among, hit_same, let-go)
