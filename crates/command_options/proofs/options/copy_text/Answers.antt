use Rattle.std.proofs.Common.{ap, ◌∙◌, Some, None}
use Rattle.clap.specs.Words.{found_of}
use Rattle.command_options.proofs.Taking.{text_found}
use Rattle.command_options.proofs.options.copy_text.Goals as goal

pub returns-in-None : goal.returns-in-None
returns-in-None c = text_found (found_of c.args.matches.now) c.args.id.now c.get_str.result None
    c.get_str.ensures c.in-None.is

pub returns-in_ok-from_slice-in-Some : goal.returns-in_ok-from_slice-in-Some
returns-in_ok-from_slice-in-Some c =
    ap Some (c.in_ok-from_slice-in-Some.ensures ∙ c.as_bytes.ensures.value)
    ∙ text_found (found_of c.args.matches.now) c.args.id.now c.get_str.result (Some c.in-Some.text)
    c.get_str.ensures c.in-Some.is
