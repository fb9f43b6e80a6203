-- What boxes that don't keep their contract let their graph grow by.
use Rattle.std.specs.Prelude.{[], ◌∷◌}
use Rattle.proc_api.specs.Forms.{GrowthForm}
use Rattle.proc_api.specs.declared.growth.Who.TheVariants.{Me}

-- an edge from the box to itself
abbrev pub loop_growth : GrowthForm
loop_growth = record {
  specs = [];
  ranks = [];
  edges = record { from = record { who = Me; port = 0 }; to = record { who = Me; port = 0 } } ∷ [];
}
