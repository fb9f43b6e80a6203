use Rattle.csv_rows.proofs.Imports.{◌≡◌, ℕ, ◌+◌, ◌-◌, not, List, length, take, drop, ap, arith, false_from_ne_true, no_quote, prefix_len_is, take_all}
use Rattle.std.proofs.Common.{length-drop}
use Rattle.csv_rows.proofs.field_ends.next_quote.Goals as goal

-- the bytes from a place on, as a slice has them
from_here : (bytes : List ℕ) (at : ℕ) → take (length bytes - at) (drop at bytes) ≡ drop at bytes
from_here bytes at =
    take_all (length bytes - at) (drop at bytes) (omega (arith, length-drop at bytes))

pub returns-in-Some-clause-run : goal.returns-in-Some-clause-run
returns-in-Some-clause-run c = grind (arith, from_here, prefix_len_is, false_from_ne_true)

pub returns-in-None-clause-run : goal.returns-in-None-clause-run
returns-in-None-clause-run c =
    let rest = drop c.args.at c.args.bytes.now in
    let none = rw (from_here c.args.bytes.now c.args.at) at c.in-None.ensures in
    let all = prefix_len_is no_quote rest (length rest) 0 (omega arith)
    (λ k lt. ap not (false_from_ne_true _ (none k (omega arith) lt)))
    (λ lt. absurd (omega (arith, lt))) in
    omega (arith, all, length-drop c.args.at c.args.bytes.now)
