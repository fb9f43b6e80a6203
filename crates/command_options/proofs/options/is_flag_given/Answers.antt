use Rattle.std.proofs.Common.{ap, ◌∙◌, Some, None}
use Rattle.clap.specs.Words.{found_of}
use Rattle.command_options.specs.Options.{is_true_text}
use Rattle.command_options.proofs.Taking.{text_found}
use Rattle.command_options.proofs.options.is_flag_given.Goals as goal

pub returns-in-None : goal.returns-in-None
returns-in-None c = ap is_true_text (text_found (found_of c.args.matches.now) c.args.id.now
    c.get_str.result None c.get_str.ensures c.in-None.is)

pub returns-in-Some : goal.returns-in-Some
returns-in-Some c =
    c.eq.ensures
    ∙ ap is_true_text (text_found (found_of c.args.matches.now) c.args.id.now c.get_str.result
    (Some c.in-Some.text) c.get_str.ensures c.in-Some.is)
