-- Digits read one after another, from the first to the last.
use Rattle.std.specs.Prelude.{if◌then◌else◌, ◌&&◌, ◌*◌, ◌+◌, ◌-◌, ◌^◌, ◌∷◌}
use Rattle.std.specs.Char.{is_ascii_digit}
use Rattle.std.specs.Option.{option_and_then}
use Rattle.query_model.specs.Prelude.{List, None, Option, Some, [], nat_lt, ℕ}

-- the number with one digit more behind it, where that is below 2 ^ 64
abbrev pub with_digit : ℕ → ℕ → Option ℕ
with_digit n b = if is_ascii_digit b && nat_lt (n * 10 + (b - 48)) (2 ^ 64)
    then Some (n * 10 + (b - 48)) else None

-- the number with digits more behind it
unfoldable pub with_digits : ℕ → List ℕ → Option ℕ
with_digits n [] = Some n
with_digits n (b ∷ bytes) = option_and_then (λ m. with_digits m bytes) (with_digit n b)
