use Rattle.exec_tests.proofs.TableRows.{UpdatedAgain, ap, is_idle, only-due, refl, rules, stepped, tells_idle, ◌≡◌}
use Rattle.exec_tests.proofs.table_tests.takes_again.Goals as goal

pub takes-requires : goal.takes-requires
takes-requires c = let i : c.rest.result ≡ UpdatedAgain = search rules in let is = stepped
    (stepped c.requires c.rest.ensures (ap (λ r. tells_idle (is_idle r)) i)) c.again.ensures.makes
    refl in (0, record { flags = _; unlooked = _; only = only-due _; is = is })
