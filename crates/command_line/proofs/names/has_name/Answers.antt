use Rattle.command_line.proofs.Imports.{YieldsList-from_slice, any_from_yields_List, bytes_eq, rules, tests, ◌∙◌}
use Rattle.command_line.proofs.NameLaws.{any_named}
use Rattle.command_line.proofs.names.has_name.Goals as goal

pub returns : goal.returns
returns g c =
    any_from_yields_List (λ x. bytes_eq c.args.name.now (g.T.Named.named x)) _ _ _ c.any.ensures.ran
    (YieldsList-from_slice c.args.items.now cc) (λ x b q k. search (rules, tests))
    ∙ any_named g.T.Named.named (bytes_eq c.args.name.now) c.args.items.now
