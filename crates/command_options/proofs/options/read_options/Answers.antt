use Rattle.std.proofs.Common.{◌≡◌, map, subst, IfOk, Some, None}
use Rattle.std.specs.String.{string_bytes}
use Rattle.command_options.proofs.Taking.{options_found}
use Rattle.command_options.proofs.options.read_options.Goals as goal

pub returns-in-None : goal.returns-in-None
returns-in-None c =
    options_found (map string_bytes c.args.words.now) c.in_ok-texts.texts.items
    c.as_slice.result.now c.in_ok-parse.field-0 None
    c.in_ok-texts.ensures c.as_slice.ensures.value c.in_ok-parse.ensures c.in-None.is

pub returns : goal.returns
returns c =
    subst (λ v. IfOk c.copy_texts.result (λ o. o ≡ v))
    (options_found (map string_bytes c.args.words.now) c.in_ok-texts.texts.items
    c.as_slice.result.now c.in_ok-parse.field-0 (Some c.in-Some.matches)
    c.in_ok-texts.ensures c.as_slice.ensures.value c.in_ok-parse.ensures c.in-Some.is)
    c.copy_texts.ensures
