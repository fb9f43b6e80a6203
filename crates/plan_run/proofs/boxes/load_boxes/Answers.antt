use Rattle.plan_run.proofs.Imports.{arith}
use Rattle.plan_run.proofs.Loading.{in-map, loads-still, next-blank, next-kind, next-rest, next-spec, none-more, one-loaded}
use Rattle.plan_run.proofs.boxes.load_boxes.Goals as goal

pub load_at-requires-clause-blank : goal.load_at-requires-clause-blank
load_at-requires-clause-blank g c κs lives = next-blank c.loop-i.i c.args.specs.items _ _
    c.loop-i.invariant.loads c.requires.blank
    (in-map _ c.args.boxes.now.items c.loop-i.i (omega arith))

pub load_at-requires-clause-of_kind : goal.load_at-requires-clause-of_kind
load_at-requires-clause-of_kind g c κs lives = search (arith, next-kind, next-spec)

pub returns-in_err-load_at-clause-still : goal.returns-in_err-load_at-clause-still
returns-in_err-load_at-clause-still g c =
    loads-still c.loop-i.i c.args.specs.items _ _
    (none-more c.loop-i.i c.args.specs.items _ _ _ c.loop-i.invariant.loads
    c.in_err-load_at.ensures.unchanged)

pub loop-i-preserved : goal.loop-i-preserved
loop-i-preserved g c = record {
  loads = one-loaded c.loop-i.i c.args.specs.items _ _ _ c.remove.result
      c.loop-i.invariant.loads c.in_ok-load_at.ensures.ok
      (next-spec c.args.specs.items c.loop-i.specs.items c.loop-i.i c.remove.result
      c.loop-i.invariant.rest c.remove.ensures.value (omega arith));
  rest = next-rest c.args.specs.items c.loop-i.specs.items c.remove.new.self.items c.loop-i.i
      c.loop-i.invariant.rest c.remove.ensures.items;
}

pub returns-clause-ok : goal.returns-clause-ok
returns-clause-ok g c = grind arith

pub returns-clause-still : goal.returns-clause-still
returns-clause-still g c = loads-still c.loop-i.i c.args.specs.items _ _ c.loop-i.invariant.loads
