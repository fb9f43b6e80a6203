use Rattle.exec_table.specs.CoreNames.{Finish}
use Rattle.exec_tests.proofs.TableRows.{empty, Push, and_from, refl}
use Rattle.exec_tests.proofs.TableSlots.{acts, can}
use Rattle.std.proofs.lemmas.Bool.{eq-eqb}
use Rattle.exec_tests.proofs.table_slots_tests.gives_both.Goals as goal

-- what a push may do and changes is the same after any number of chunks: 0 stands for it
pub push-requires-clause-seat : goal.push-requires-clause-seat
push-requires-clause-seat c = (c.begins.ensures c.if-not-begins.false).seat

pub push-requires-clause-ready : goal.push-requires-clause-ready
push-requires-clause-ready c = and_from _ _ (can (c.begins.ensures c.if-not-begins.false) (Push 0) 0
    refl refl) (eq-eqb _ _ refl)

pub push-requires-clause-slot : goal.push-requires-clause-slot
push-requires-clause-slot c = empty _ ((c.begins.ensures c.if-not-begins.false).slot 0)

pub push-requires-2-clause-ready : goal.push-requires-2-clause-ready
push-requires-2-clause-ready c = and_from _ _ (can (acts (c.begins.ensures c.if-not-begins.false) 0
    refl (Push 0) c.push.ensures refl (λ _. refl) refl) (Push 0) 1 refl refl) (eq-eqb _ _ refl)

pub push-requires-2-clause-slot : goal.push-requires-2-clause-slot
push-requires-2-clause-slot c = empty _ ((acts (c.begins.ensures c.if-not-begins.false) 0 refl
    (Push 0) c.push.ensures refl (λ _. refl) refl).slot 1)

pub finish-requires-clause-ready : goal.finish-requires-clause-ready
finish-requires-clause-ready c = can (acts (acts (c.begins.ensures c.if-not-begins.false) 0 refl
    (Push 0) c.push.ensures refl (λ _. refl) refl) 1 refl (Push 0) c.push-2.ensures refl (λ _. refl)
    refl) Finish 2 refl refl
