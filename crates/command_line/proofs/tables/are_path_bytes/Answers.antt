use Rattle.command_line.proofs.Imports.{YieldsList-from_slice, all_from_yields_List, is_path_byte, rules, tests}
use Rattle.command_line.proofs.tables.are_path_bytes.Goals as goal

pub returns : goal.returns
returns c =
    all_from_yields_List is_path_byte _ _ _ c.all.ensures.ran
    (YieldsList-from_slice c.args.bytes.now cc) (λ x b q k. search (rules, tests))
