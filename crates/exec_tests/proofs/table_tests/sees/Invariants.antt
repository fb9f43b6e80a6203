use Rattle.exec_tests.proofs.TableRows.{IsHeld, ℕ, IsSeatOf, identity_of}
use Rattle.exec_tests.proofs.table_tests.sees.Given as goal

abbrev pub invariant-loop : goal.invariant-loop
invariant-loop l = record {
  seat : IsSeatOf (identity_of l.table) l.seat;
  held : (n k : ℕ) → IsHeld n k l.table l.initial.seat → IsHeld n k l.table l.seat;
}
