-- What test processors are loaded with, and what they let their graph grow by.
use Rattle.std.specs.Prelude.{Bool, None, Option, Some, [], false, true, ◌∷◌}
use Rattle.query_model.specs.declared.processor_spec.PartSpec.{PartSpec}
use Rattle.query_model.specs.declared.processor_spec.Spec.{Spec}
use Rattle.query_model.specs.declared.processor_spec.Spec.TheVariants as spec
use Rattle.proc_api.specs.Forms.{GrowthForm}
use Rattle.proc_api.specs.kinds.List.{list_growth}
use Rattle.proc_api.specs.declared.growth.Who.TheVariants.{Me}

abbrev pub script_spec : (list : Bool) → Option PartSpec → Spec
script_spec list None = spec.Collect
script_spec true (Some part) = spec.List part
script_spec false (Some part) = spec.Csv part

-- a part that a source may be loaded with
abbrev pub test_part : PartSpec
test_part = record { table = 0; part = 1; path = []; types = []; header = false; rows = 1 }

-- a source, joined to the first input, or an edge from the box to itself
abbrev pub script_growth : (adds : Bool) → GrowthForm
script_growth true = list_growth test_part ([] ∷ [])
script_growth false = record {
  specs = [];
  ranks = [];
  edges = record { from = record { who = Me; port = 0 }; to = record { who = Me; port = 0 } } ∷ [];
}
