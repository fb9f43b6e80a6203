use Rattle.core_laws.specs.Steps.{may_take}
use Rattle.exec_tests.proofs.TableRows.{Bool, arith, cond, eqb, false, refl, rules, seen_as, ◌≡◌}
use Rattle.exec_tests.proofs.TableSlots.{begun, looks, may-begin}
use Rattle.exec_tests.proofs.table_slots_tests.begins.Goals as goal

side-of : (b : Bool) → eqb 1 (cond b 1 0) ≡ b
side-of b = grind arith

pub token_in-requires-clause-ready : goal.token_in-requires-clause-ready
token_in-requires-clause-ready c = λ i. may_take (c.requires.state i)

pub begin-requires-clause-ready : goal.begin-requires-clause-ready
begin-requires-clause-ready c = may-begin c.requires c.token_in.ensures

pub returns-then-eq : goal.returns-then-eq
returns-then-eq c = λ r. let b = c.args.has_data in let side = side-of b in
    let first : c.look.result ≡ seen_as false b = search rules in
    let second : c.look-then-eq.result ≡ seen_as false b = search rules in
    looks (looks (begun c.requires c.token_in.ensures c.begin.ensures) 0 refl b c.look.ensures refl
    first side) 1 refl b c.look-then-eq.ensures refl second side
