use Rattle.std.proofs.Common.{arith, subst, ◌∙◌, inl, inr}
use Rattle.sort_procs.proofs.Imports.{IsFirstBut}
use Rattle.sort_procs.proofs.MergeLaws.{none-left, none-merged, run-made, still-ready}
use Rattle.sort_procs.proofs.merged_rows.merge_chunk.Goals as goal

pub fill-init : goal.fill-init
fill-init c = record {
  are = c.requires.heads;
  ready = c.requires.ready;
  types = c.in_ok-chunk.ensures.types;
  few = grind arith;
  merges = none-merged c.args.order.now.keys c.args.heads.now _ c.in_ok-chunk.ensures.rows;
  within = c.heads_in_use-count.ensures.few;
  behind = c.heads_in_use-count.ensures.behind;
  first = λ less. c.first_but-first.ensures;
}

pub returns-in_default-clause-merges : goal.returns-in_default-clause-merges
returns-in_default-clause-merges c =
    let l = c.fill.invariant in
    record {
      types = l.types;
      merges = l.merges;
      few = grind arith;
      some = inr (none-left c.args.order.now.keys c.fill.heads _ c.fill.first l.behind
          (l.first (omega (arith, c.fill-test.true, c.rows.ensures.count))) c.in_default.not-Some);
    }

pub returns-then-not-is_ready-clause-heads : goal.returns-then-not-is_ready-clause-heads
returns-then-not-is_ready-clause-heads c =
    let l = c.fill.invariant in
    let first = subst (IsFirstBut c.args.order.now.keys c.fill.heads _ _) c.in-Some.is
    (l.first (omega (arith, c.fill-test.true, c.rows.ensures.count))) in
    let s = run-made l.merges l.are l.ready l.behind l.within first c.first_but-second.ensures
    c.run_length-run.ensures c.index-heads-i.is c.index-heads-i-in-fill.is
    c.in_ok-append_next.ensures.ok c.move_head.ensures in
    s.fits

pub returns-then-not-is_ready-clause-merges : goal.returns-then-not-is_ready-clause-merges
returns-then-not-is_ready-clause-merges c =
    let l = c.fill.invariant in
    let first = subst (IsFirstBut c.args.order.now.keys c.fill.heads _ _) c.in-Some.is
    (l.first (omega (arith, c.fill-test.true, c.rows.ensures.count))) in
    let s = run-made l.merges l.are l.ready l.behind l.within first c.first_but-second.ensures
    c.run_length-run.ensures c.index-heads-i.is c.index-heads-i-in-fill.is
    c.in_ok-append_next.ensures.ok c.move_head.ensures in
    record {
      types = c.append_next.ensures.types ∙ l.types;
      merges = s.merges;
      few = grind arith;
      some = inl (grind arith);
    }

pub fill-preserved : goal.fill-preserved
fill-preserved c =
    let l = c.fill.invariant in
    let first = subst (IsFirstBut c.args.order.now.keys c.fill.heads _ _) c.in-Some.is
    (l.first (omega (arith, c.fill-test.true, c.rows.ensures.count))) in
    let s = run-made l.merges l.are l.ready l.behind l.within first c.first_but-second.ensures
    c.run_length-run.ensures c.index-heads-i.is c.index-heads-i-in-fill.is
    c.in_ok-append_next.ensures.ok c.move_head.ensures in
    record {
      are = s.fits;
      ready = grind (arith, still-ready);
      types = c.append_next.ensures.types ∙ l.types;
      few = grind arith;
      merges = s.merges;
      within = s.within;
      behind = s.used;
      first = λ less. s.first (grind arith);
    }
