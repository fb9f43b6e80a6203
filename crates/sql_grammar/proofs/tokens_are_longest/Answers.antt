use Rattle.sql_grammar.proofs.Longest.{tokens_are_longest}
use Rattle.sql_grammar.proofs.tokens_are_longest.Goals as goal

pub returns : goal.returns
returns c = tokens_are_longest
