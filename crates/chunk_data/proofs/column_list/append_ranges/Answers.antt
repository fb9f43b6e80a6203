use Rattle.chunk_data.proofs.Imports.{Column, List, Value, arith, column_type, length, length-map, map, value_range, ◌<◌, ◌≡◌}
use Rattle.chunk_data.proofs.ColumnLists.{Joined-more, Joined-all, Joined-back, Joined-same, Joined-long, agrees_at, agreed_long, other_at}
use Rattle.chunk_data.proofs.column_list.append_ranges.Goals as goal

pub append_range-requires-clause-kinds : goal.append_range-requires-clause-kinds
append_range-requires-clause-kinds c = agrees_at column_type _ _ _ _ _ _ c.requires.agree
    c.loop-i.invariant.kinds (omega arith) c.index-others-i.is

pub append_range-requires-clause-in_range : goal.append_range-requires-clause-in_range
append_range-requires-clause-in_range c = search (arith, agreed_long, length-map, Joined-long)

pub returns-in-Err-clause-kinds : goal.returns-in-Err-clause-kinds
returns-in-Err-clause-kinds c = search (arith, Joined-same)

pub returns-in-Err-clause-err : goal.returns-in-Err-clause-err
returns-in-Err-clause-err c = search (arith, Joined-back, Joined-same)

pub loop-i-preserved : goal.loop-i-preserved
loop-i-preserved c =
    let range : Column → List Value = value_range c.args.from c.args.n in
    let long : length (map range c.args.others.now) ≡ length c.args.columns.now =
    agreed_long column_type _ _ range c.requires.agree in
    let lt : c.loop-i.i < length c.args.others.now =
    omega (arith, long, length-map c.args.others.now range, Joined-long c.loop-i.invariant) in
    Joined-more c.index-columns-i.result _ _ c.loop-i.invariant long (omega arith)
    c.append_range.ensures.kind (other_at range _ _ _ c.index-others-i.is lt) c.in-Ok.ensures.ok

pub returns-clause-ok : goal.returns-clause-ok
returns-clause-ok c = Joined-all c.loop-i.invariant
    (agreed_long column_type _ _ (value_range c.args.from c.args.n) c.requires.agree) (omega arith)
