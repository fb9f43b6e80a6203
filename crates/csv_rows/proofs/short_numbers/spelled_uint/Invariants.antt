use Rattle.csv_rows.proofs.Imports.{◌≡◌, ◌^◌, ◌<◌, true, drop, numeral_below}
use Rattle.csv_rows.proofs.ShortNumbers.{read_on}
use Rattle.csv_rows.proofs.short_numbers.spelled_uint.Given as goal

abbrev pub invariant-loop-b : goal.invariant-loop-b
invariant-loop-b l =
    (read_on l.good l.number (drop l.b-index l.field) ≡ numeral_below (2 ^ 64) l.field)
    × (l.good ≡ true → l.number < 10 ^ l.b-index)
