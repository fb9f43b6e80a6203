use Rattle.select_planner.proofs.Imports.{call_arguments, column_items, formula, map, take, ◌++◌, ◌≡◌}
use Rattle.select_planner.proofs.groups.arguments_of.Given as goal

abbrev pub invariant-loop-call : goal.invariant-loop-call
invariant-loop-call l =
    map formula l.items
    ≡ map formula (column_items l.keys ++ call_arguments (take l.call-index l.calls))
