use Rattle.plan_run.proofs.Imports.{All, IsBlank, arith, inl, kinds_taken, refl, subst, sym}
use Rattle.plan_run.proofs.Taking.{taken-all, taken-kinds}
use Rattle.plan_run.proofs.Telling.{back-blank, begins-by, gives-by, plan-gives-back, plan-runs}
use Rattle.plan_run.proofs.run.run_in.Goals as goal

pub run_taken-boxes-requires-clause-blank : goal.run_taken-boxes-requires-clause-blank
run_taken-boxes-requires-clause-blank g c κs lives =
    subst (All IsBlank) (sym c.take_boxes.ensures.taken)
    (taken-all IsBlank (kinds_taken c.args.plan.specs.items c.args.plan.kept) _
    c.requires.runnable.stock c.requires.runnable.blank)

pub run_taken-boxes-requires-clause-kinds : goal.run_taken-boxes-requires-clause-kinds
run_taken-boxes-requires-clause-kinds g c κs lives = grind (arith, taken-kinds)

pub returns : goal.returns
returns g c =
    let specs = c.args.plan.specs.items in
    let kept = c.args.plan.kept in
    let back = plan-gives-back (kinds_taken specs kept) _ _ _ _ _ c.requires.runnable.stock
    c.take_boxes.ensures.taken c.take_boxes.ensures.left c.give_back.ensures
    c.run_taken-boxes.ensures.later in
    record {
      rack = inl back;
      blank = back-blank _ _ _ c.requires.runnable.blank back;
      gives = gives-by _ _ (λ ended. plan-runs specs kept _ _ _ _ _ ended
          c.take_boxes.ensures.taken c.take_boxes.ensures.left c.give_back.ensures) _ _
          (begins-by _ _ _ refl) _ _ refl _ c.run_taken-boxes.ensures.gives;
    }
