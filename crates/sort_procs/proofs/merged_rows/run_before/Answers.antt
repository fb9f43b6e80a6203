use Rattle.std.proofs.Common.{arith, sym, ◌∙◌}
use Rattle.sort_procs.proofs.Imports.{first_row}
use Rattle.sort_procs.proofs.HeadLaws.{goes-before, run-more, stays-behind}
use Rattle.sort_procs.proofs.merged_rows.run_before.Goals as goal

pub returns-then-goes_first : goal.returns-then-goes_first
returns-then-goes_first c = record {
  some = omega (arith, c.loop-n.auto.n);
  few = omega (arith, c.loop-n-test.true);
  before = c.loop-n.invariant;
  ends = λ less. goes-before c.args.order.now.keys c.args.lower _ _
      (sym c.goes_first.ensures ∙ c.if-goes_first.true);
}

pub loop-n-preserved : goal.loop-n-preserved
loop-n-preserved c =
    run-more c.args.order.now.keys c.args.head.now (first_row c.args.other.now) c.loop-n.n
    (omega (arith, c.requires.few, c.loop-n-test.true)) c.loop-n.invariant
    (stays-behind c.args.order.now.keys c.args.lower _ _
    (sym c.goes_first.ensures ∙ c.if-goes_first.false))
