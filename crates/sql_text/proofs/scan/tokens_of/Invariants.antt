use Rattle.sql_text.proofs.Imports.{◌≡◌, length, tokens_behind}
use Rattle.sql_text.proofs.Bytes.{tokens_with}
use Rattle.sql_text.proofs.scan.tokens_of.Given as goal

abbrev pub invariant-loop-first : goal.invariant-loop-first
invariant-loop-first l =
    tokens_behind 0 l.text ≡ tokens_with l.tokens.items (tokens_behind l.taken l.rest)

abbrev pub decreases-loop-first : goal.decreases-loop-first
decreases-loop-first l = length l.rest
