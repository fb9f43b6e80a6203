use Rattle.plan_run.proofs.Imports.{arith, length, sym, ◌∙◌, ◌≡◌}
use Rattle.plan_run.proofs.Loading.{boxes-count, first-kinds, loaded-starting, map-len, still-kinds}
use Rattle.plan_run.proofs.Telling.{begins-by, gives-by, still-then-later, taken-runs}
use Rattle.plan_run.proofs.run.run_taken.Goals as goal

pub load_boxes-requires-clause-kinds : goal.load_boxes-requires-clause-kinds
load_boxes-requires-clause-kinds g c κs =
    first-kinds c.args.plan.specs.items c.args.plan.kept _ c.requires.kinds

pub load_boxes-requires-clause-enough : goal.load_boxes-requires-clause-enough
load_boxes-requires-clause-enough g c = grind (arith, boxes-count, map-len)

pub run_loaded-requires-clause-starting : goal.run_loaded-requires-clause-starting
run_loaded-requires-clause-starting g c κs lives =
    loaded-starting c.args.plan.specs.items c.args.plan.form _ _
    (c.requires.plan.one_each ∙ sym (boxes-count c.args.plan.specs.items c.args.plan.kept _
    c.requires.kinds)) c.requires.plan.graph c.requires.blank c.in-Ok.ensures.ok

pub returns-in-Ok-clause-later : goal.returns-in-Ok-clause-later
returns-in-Ok-clause-later g c = grind (arith, still-then-later)

pub returns-in-Ok-clause-gives : goal.returns-in-Ok-clause-gives
returns-in-Ok-clause-gives g c =
    let count = boxes-count c.args.plan.specs.items c.args.plan.kept _ c.requires.kinds in
    let nodes : c.len-nodes.result ≡ length c.args.plan.specs.items = omega arith in
    gives-by _ _ (λ ended. taken-runs c.args.plan.specs.items _ _ _ ended (omega (arith, count))
    c.requires.blank c.in-Ok.ensures.ok) _ _
    (begins-by _ _ _ (still-kinds _ _ c.in-Ok.ensures.still ∙ c.requires.kinds)) _ _ nodes _
    c.run_loaded.ensures.gives
