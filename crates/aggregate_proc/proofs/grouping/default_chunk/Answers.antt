use Rattle.aggregate_proc.proofs.Imports.{AreLong, IfOk, Table, ap, arith, length, rows_of, subst, sym, ◌∙◌, ◌≡◌}
use Rattle.aggregate_proc.proofs.BuilderLaws.{default-long, default-rows, default-values}
use Rattle.aggregate_proc.proofs.grouping.default_chunk.Goals as goal

pub of_columns-requires : goal.of_columns-requires
of_columns-requires c =
    let calls = ap length c.as_slice-call-items.ensures in
    subst (AreLong 1) (sym
    (default-values c.args.group.now.calls c.loop-call.columns.items c.from_vec.result
    c.loop-call.call-index (omega (arith, calls, c.loop-call-test.false)) c.from_vec.ensures
    c.loop-call.invariant.1))
    (default-long c.args.group.now.calls)

pub returns-clause-rows : goal.returns-clause-rows
returns-clause-rows c =
    let calls = ap length c.as_slice-call-items.ensures in
    subst (λ rows. IfOk c.of_columns.result (λ (d : Table). d.rows ≡ rows))
    (ap (rows_of 1)
    (default-values c.args.group.now.calls c.loop-call.columns.items c.from_vec.result
    c.loop-call.call-index (omega (arith, calls, c.loop-call-test.false)) c.from_vec.ensures
    c.loop-call.invariant.1)
    ∙ default-rows c.args.group.now.calls) c.of_columns.ensures.rows
