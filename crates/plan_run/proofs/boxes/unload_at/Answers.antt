use Rattle.plan_run.proofs.Imports.{Changes-map_set, Unloads, no_box}
use Rattle.plan_run.proofs.boxes.unload_at.Goals as goal

pub returns : goal.returns
returns g c = Changes-map_set _ no_box _ Unloads _ c.index_mut.result.now c.unload.new.self
    c.requires c.index_mut.ensures.value c.unload.ensures.unloads
