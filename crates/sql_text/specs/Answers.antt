-- What a function that reads tokens or bytes answers.
use Rattle.std.specs.Prelude.{◌≡◌, Option, Some, None, Result, Ok, Err}
use Rattle.sql_text.specs.declared.parse_error.ParseError.{ParseError}
use Rattle.sql_text.specs.declared.parse_error.ParseError.TheVariants as error

-- Where nothing is read the answer is Syntax, and where memory runs out it is Memory.
abbrev pub ParseFails : {Y : Type 0} → ParseError → Option Y → Type 0
ParseFails error.Syntax read = read ≡ None
ParseFails error.Memory read = Unit {0}

-- what is read, seen by view, is answered
abbrev pub ParseGives : {X Y : Type 0} → (X → Y) → Result X ParseError → Option Y → Type 0
ParseGives view (Ok x) read = read ≡ Some (view x)
ParseGives view (Err e) read = ParseFails e read
