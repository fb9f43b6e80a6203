use Rattle.select_planner.proofs.Imports.{append_assoc, arith, call_arguments, column_items, formula, map, map-append, ◌++◌, ◌≡◌}
use Rattle.select_planner.proofs.Laying.{lanes-same}
use Rattle.select_planner.proofs.steps.add_groups.Goals as goal

pub returns : goal.returns
returns c =
    let g = c.args.grouping.now in
    let items = column_items g.keys ++ call_arguments g.calls in
    let arguments : map formula c.in_ok-arguments.arguments ≡ map formula items = grind arith in
    grind (arith, append_assoc, map-append, lanes-same, arguments)
