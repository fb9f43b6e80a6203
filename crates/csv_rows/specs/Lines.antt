-- The line of names above an answer.
use Rattle.query_model.specs.Prelude.{List, None, Option, Some, Text, [], map, ℕ}
use Rattle.query_model.specs.Texts.{row_text}

-- the line of names, where there is one
abbrev pub heading : Option (List (List ℕ)) → List ℕ
heading None = []
heading (Some names) = row_text (map Text names)
