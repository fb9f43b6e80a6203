use Rattle.std.proofs.Common.{ap, ◌∙◌, true}
use Rattle.std.proofs.lemmas.Result.{IfOk-weaker}
use Rattle.clap.specs.Words.{Rule, rule_of}
use Rattle.command_options.specs.Options.{qrun_app}
use Rattle.command_options.proofs.Taking.{argument_added, bare_command}
use Rattle.command_options.proofs.options.qrun_command.Goals as goal

pub returns : goal.returns
unfolding qrun_app
returns c =
    let bare = bare_command c.new.result c.disable_help_flag.result c.disable_version_flag.result
    c.new.ensures.app c.disable_help_flag.ensures c.disable_version_flag.ensures in
    let query = argument_added _ _ c.required.result _ _ bare c.in_ok-arg.ensures
    (ap (λ a. a.global) c.required.ensures ∙ c.value_option.ensures.global)
    (ap rule_of c.required.ensures
    ∙ ap (λ (r : Rule). record r { required = true }) c.value_option.ensures.rule) in
    let tables = argument_added _ _ c.value_option-2.result _ _ query c.in_ok-arg-2.ensures
    c.value_option-2.ensures.global c.value_option-2.ensures.rule in
    let threads = argument_added _ _ c.value_option-3.result _ _ tables c.in_ok-arg-3.ensures
    c.value_option-3.ensures.global c.value_option-3.ensures.rule in
    let chunk = argument_added _ _ c.value_option-4.result _ _ threads c.in_ok-arg-4.ensures
    c.value_option-4.ensures.global c.value_option-4.ensures.rule in
    IfOk-weaker c.arg-5.result _ _
    (λ command adds. argument_added _ command c.flag.result _ _ chunk adds c.flag.ensures.global
    c.flag.ensures.rule)
    c.arg-5.ensures
