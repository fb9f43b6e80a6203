use Rattle.aggregate_proc.proofs.Imports.{ap, append-nil, arith, at_drop_all, call_types, length, sym, ◌++◌, ◌∙◌}
use Rattle.aggregate_proc.proofs.BuilderLaws.{types-are}
use Rattle.aggregate_proc.proofs.group_builder.input_types.Goals as goal

pub returns : goal.returns
returns c =
    let calls = ap length c.as_slice-call-items.ensures in
    sym (append-nil c.loop-call.types.items)
    ∙ sym (at_drop_all
    (λ l. c.loop-call.types.items ++ call_types c.args.merges l) c.args.group.now.calls
    c.loop-call.call-index (omega (arith, calls, c.loop-call-test.false)))
    ∙ c.loop-call.invariant ∙ types-are c.args.merges c.args.group.now
