use Rattle.exec_table.specs.CoreNames.{Close, Unwant}
use Rattle.exec_tests.proofs.TableRows.{empty, Pull, Want, refl}
use Rattle.exec_tests.proofs.TableSlots.{acts, can, sees}
use Rattle.exec_tests.proofs.table_slots_tests.takes_both.Goals as goal

pub want-requires-clause-ready : goal.want-requires-clause-ready
want-requires-clause-ready c = can c.in-Some.ensures Want 2 refl refl

pub pull-requires-clause-ready : goal.pull-requires-clause-ready
pull-requires-clause-ready c = can (acts c.in-Some.ensures 2 refl Want c.want.ensures refl (λ _.
    refl) refl) Pull 0 refl refl

pub pull-requires-clause-slot : goal.pull-requires-clause-slot
pull-requires-clause-slot c = empty _ ((acts c.in-Some.ensures 2 refl Want c.want.ensures refl (λ _.
    refl) refl).slot 0)

pub pull-requires-2-clause-ready : goal.pull-requires-2-clause-ready
pull-requires-2-clause-ready c = can (acts (acts c.in-Some.ensures 2 refl Want c.want.ensures refl
    (λ _. refl) refl) 0 refl Pull c.pull.ensures refl (λ _. refl) refl) Pull 1 refl refl

pub pull-requires-2-clause-slot : goal.pull-requires-2-clause-slot
pull-requires-2-clause-slot c = empty _ ((acts (acts c.in-Some.ensures 2 refl Want c.want.ensures
    refl (λ _. refl) refl) 0 refl Pull c.pull.ensures refl (λ _. refl) refl).slot 1)

pub unwant-requires-clause-ready : goal.unwant-requires-clause-ready
unwant-requires-clause-ready c = can (acts (acts (acts c.in-Some.ensures 2 refl Want c.want.ensures
    refl (λ _. refl) refl) 0 refl Pull c.pull.ensures refl (λ _. refl) refl) 1 refl Pull
    c.pull-2.ensures refl (λ _. refl) refl) Unwant 2 refl refl

pub close_port-requires-clause-ready : goal.close_port-requires-clause-ready
close_port-requires-clause-ready c = can (acts (acts (acts (acts c.in-Some.ensures 2 refl Want
    c.want.ensures refl (λ _. refl) refl) 0 refl Pull c.pull.ensures refl (λ _. refl) refl) 1 refl
    Pull c.pull-2.ensures refl (λ _. refl) refl) 2 refl Unwant c.unwant.ensures refl (λ _. refl)
    refl) Close 2 refl refl

pub look-third-requires-clause-ready : goal.look-third-requires-clause-ready
look-third-requires-clause-ready c = sees (acts (acts (acts (acts (acts c.in-Some.ensures 2 refl
    Want c.want.ensures refl (λ _. refl) refl) 0 refl Pull c.pull.ensures refl (λ _. refl) refl) 1
    refl Pull c.pull-2.ensures refl (λ _. refl) refl) 2 refl Unwant c.unwant.ensures refl (λ _.
    refl) refl) 2 refl Close c.close_port.ensures refl (λ _. refl) refl) 2 refl
