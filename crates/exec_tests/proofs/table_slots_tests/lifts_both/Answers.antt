use Rattle.exec_tests.proofs.TableRows.{full}
use Rattle.exec_tests.proofs.TableSlots.{lifts}
use Rattle.exec_tests.proofs.table_slots_tests.lifts_both.Goals as goal

pub lift-one-requires-clause-seat : goal.lift-one-requires-clause-seat
lift-one-requires-clause-seat c = (c.begins.ensures c.if-not-begins.false).seat

pub lift-one-requires-clause-slot : goal.lift-one-requires-clause-slot
lift-one-requires-clause-slot c = full _ ((c.begins.ensures c.if-not-begins.false).slot 0)

pub lift-other-requires-clause-slot : goal.lift-other-requires-clause-slot
lift-other-requires-clause-slot c = let l = c.lift-one.ensures in full _ ((lifts (c.begins.ensures
    c.if-not-begins.false) 0 l.seat l.view l.lifted l.others).slot 1)

pub returns : goal.returns
returns c = let l = c.lift-one.ensures in let m = c.lift-other.ensures in lifts (lifts
    (c.begins.ensures c.if-not-begins.false) 0 l.seat l.view l.lifted l.others) 1 m.seat m.view
    m.lifted m.others
