use Rattle.chunk_data.proofs.Imports.{ap, arith, length, length-map, map, sym, values, ◌<◌, ◌∙◌}
use Rattle.chunk_data.proofs.ColumnLists.{Mapped-here, Mapped-more, Mapped-all, AreLong-at}
use Rattle.chunk_data.proofs.column_list.keep_all.Goals as goal

pub keep-requires : goal.keep-requires
keep-requires c =
    let wide : c.loop-i.i < length (map values c.args.columns.now) = rw length-map (omega arith) in
    sym (ap length (Mapped-here c.index-columns-i.result c.loop-i.invariant (omega arith))
    ∙ AreLong-at _ _ c.loop-i.i _ c.requires wide)

pub loop-i-preserved : goal.loop-i-preserved
loop-i-preserved c = Mapped-more c.index-columns-i.result _ c.loop-i.invariant (omega arith)
    c.keep.ensures.kind c.keep.ensures.kept

pub returns-clause-kept : goal.returns-clause-kept
returns-clause-kept c = Mapped-all c.loop-i.invariant (omega arith)
