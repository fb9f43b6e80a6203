use Rattle.aggregate_proc.proofs.Imports.{FoldColumn, List, ap, ap₂, arith, changed, changed_all, changed_more, get_or, get_or-changed, set, suc, with_rows, ◌+◌, ◌∙◌, ◌≡◌}
use Rattle.aggregate_proc.proofs.group_table.add_to_each.Goals as goal

pub add-requires-clause-fits : goal.add-requires-clause-fits
add-requires-clause-fits c = grind (arith, get_or-changed)

pub loop-i-preserved : goal.loop-i-preserved
loop-i-preserved c =
    let f = with_rows c.args.places.now c.args.chunk.now.rows in
    let d = c.index_mut.result.now in
    let here : d ≡ get_or c.args.columns.now.items c.loop-i.i d =
    c.index_mut.ensures.value
    ∙ ap (λ (l : List FoldColumn). get_or l c.loop-i.i d) c.loop-i.invariant
    ∙ get_or-changed f c.loop-i.i c.args.columns.now.items d in
    let next : suc c.loop-i.i ≡ c.loop-i.i + 1 = omega arith in
    ap₂ (λ l x. set l c.loop-i.i x) c.loop-i.invariant (c.in_ok-add.ensures ∙ ap f here)
    ∙ changed_more f c.loop-i.i c.args.columns.now.items d (omega arith)
    ∙ ap (λ n. changed f n c.args.columns.now.items) next

pub returns : goal.returns
returns c = grind (arith, changed_all)
