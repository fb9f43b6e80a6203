use Rattle.aggregate_proc.proofs.Imports.{ap₂, arith, call_foldings, empty_column, foldings_for, key_foldings, map, ◌++◌, ◌∙◌}
use Rattle.aggregate_proc.proofs.BuilderLaws.{all-empty, built-columns, foldings-are}
use Rattle.aggregate_proc.proofs.group_builder.new_table.Goals as goal

pub new-requires-clause-empty : goal.new-requires-clause-empty
new-requires-clause-empty c =
    let built = built-columns c.args.merges c.args.group.now c.in_ok-types.types.items
    c.in_ok-columns.columns.items c.push_calls.new.columns.items c.in_ok-types.ensures
    (c.in_ok-columns.ensures
    ∙ ap₂ (λ ts k. map empty_column (key_foldings ts k)) c.as_slice.ensures.value
    c.len-keys.ensures)
    (c.in_ok-push_calls.ensures
    ∙ ap₂ (λ k cs. c.in_ok-columns.columns.items ++ map empty_column
    (call_foldings c.args.merges k cs)) c.len-keys.ensures c.as_slice-2.ensures) in
    all-empty (foldings_for c.args.merges c.args.group.now) c.push_calls.new.columns.items built

pub returns-clause-table : goal.returns-clause-table
returns-clause-table c = grind (arith, built-columns, foldings-are)
