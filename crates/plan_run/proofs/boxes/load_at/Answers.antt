use Rattle.plan_run.proofs.Imports.{Changes-map_set, Loads, no_box, ◌≡◌}
use Rattle.plan_run.proofs.boxes.load_at.Goals as goal

pub returns-in-Ok-clause-ok : goal.returns-in-Ok-clause-ok
returns-in-Ok-clause-ok g c = Changes-map_set _ no_box c.args.i (λ p q. Loads p c.args.spec q)
    c.args.boxes.now.items c.index_mut.result.now c.load.new.self c.requires.in_range
    c.index_mut.ensures.value c.in-Ok.ensures.ok

pub returns-in-Err-Memory-clause-unchanged : goal.returns-in-Err-Memory-clause-unchanged
returns-in-Err-Memory-clause-unchanged g c = Changes-map_set _ no_box c.args.i (λ p q. q ≡ p)
    c.args.boxes.now.items c.index_mut.result.now c.load.new.self c.requires.in_range
    c.index_mut.ensures.value c.in-Err-Memory.ensures.unchanged
