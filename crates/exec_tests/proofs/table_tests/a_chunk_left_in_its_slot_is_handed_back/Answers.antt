use Rattle.exec_tests.proofs.TableRows.{all-two}
use Rattle.exec_tests.proofs.table_tests.a_chunk_left_in_its_slot_is_handed_back.Goals as goal

pub shut-requires-clause-nodes : goal.shut-requires-clause-nodes
shut-requires-clause-nodes g c = let a = c.gives.ensures c.if-not-gives.false in
    let b = c.asks.ensures c.if-not-asks.false in all-two _ _ _ _ a.pair
    c.in_ok-nodes.ensures.items (a.seat, a.number) (b.seat, b.number)
