use Rattle.sql_grammar.proofs.Strings.{strings_are_read, strings_are_written}
use Rattle.sql_grammar.proofs.strings_are_read.Goals as goal

pub returns-clause-read : goal.returns-clause-read
returns-clause-read c = strings_are_read

pub returns-clause-written : goal.returns-clause-written
returns-clause-written c = strings_are_written
