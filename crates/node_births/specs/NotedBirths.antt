-- The births of a node by its growths as they were noted.
use Rattle.std.specs.Prelude.{List, map, ℕ}
use Rattle.exec_laws.specs.Births.{Birth}
use Rattle.node_births.specs.declared.noted_growth.NotedGrowth.{NotedGrowth}
use Rattle.proc_api.specs.Forms.{growth_form}

-- a growth of node n that was noted
abbrev pub birth_of : ℕ → NotedGrowth → Birth
birth_of n g = record { expander = n; growth = growth_form g.growth; places = g.places.items }

abbrev pub births_by : ℕ → List NotedGrowth → List Birth
births_by n growths = map (birth_of n) growths
