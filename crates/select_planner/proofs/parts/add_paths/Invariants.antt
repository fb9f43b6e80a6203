use Rattle.select_planner.proofs.Imports.{forms, path_sources, source_nodes, table_reading, take, ◌++◌, ◌≡◌}
use Rattle.select_planner.proofs.parts.add_paths.Given as goal

abbrev pub invariant-loop-i : goal.invariant-loop-i
invariant-loop-i l =
    forms l.nodes ≡ forms l.initial.nodes ++ forms (source_nodes l.reading.place
    (path_sources (table_reading l.reading.header l.reading.rows l.table l.decl) 1
    (take l.i l.paths)))
