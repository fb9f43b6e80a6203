use Rattle.std.proofs.Common.{map, sym, ◌∙◌}
use Rattle.clap.specs.Words.{app_of, found_of, rows_of}
use Rattle.command_options.proofs.Taking.{words_taken, words_refused}
use Rattle.command_options.proofs.options.parse.Goals as goal

pub returns-in-Ok : goal.returns-in-Ok
returns-in-Ok c =
    words_taken (app_of c.in_ok-command.command) (map (λ t. t.now) c.args.words.now)
    (rows_of (found_of c.in-Ok.matches))
    c.in_ok-command.ensures c.in-Ok.ensures.kinds (λ simple. (c.in-Ok.ensures.matches simple).0)

pub returns : goal.returns
returns c =
    words_refused (app_of c.in_ok-command.command) (map (λ t. t.now) c.args.words.now)
    c.in-Err.error
    c.in_ok-command.ensures c.in-Err.ensures.kinds (sym c.is_memory.ensures ∙ c.if-is_memory.false)
