use Rattle.core_laws.specs.declared.types.Step.TheVariants as step
use Rattle.exec_tests.proofs.TableRows.{Saw, can, looked, refl, rules, saw, seen_as, subst, sym, ◌≡◌, ◌∙◌}
use Rattle.exec_tests.proofs.table_tests.sees.Goals as goal

pub look-requires-clause-ready : goal.look-requires-clause-ready
look-requires-clause-ready c = let r = c.requires in
    can (c.loop.invariant.held r.0 r.1 r.2).is (step.Look 0) refl

pub loop-preserved : goal.loop-preserved
loop-preserved c = record {
  seat = c.look.ensures.seat;
  held = λ n k h. looked (c.loop.invariant.held n k h) c.look.ensures;
}

pub returns-then-not-is_out-clause-saw : goal.returns-then-not-is_out-clause-saw
returns-then-not-is_out-clause-saw c = λ _ n k h.
    let f : c.look.result ≡ seen_as c.args.needed c.args.has_data = search rules in
    subst (λ f. Saw n k f c.args.table.now c.look.new.seat) f (saw (c.loop.invariant.held n k h)
    c.look.ensures (sym c.has_slot-is_out.ensures ∙ c.if-not-is_out.true))
