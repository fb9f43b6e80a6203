use Rattle.chunk_data.proofs.Imports.{add-one, ap, arith, get_or, length, refl, set, ◌-◌, ◌<◌, ◌∙◌, ◌≡◌}
use Rattle.chunk_data.proofs.ColumnLists.{changed, get_or-changed, changed_more, changed_all}
use Rattle.chunk_data.proofs.text_column.shift_down.Goals as goal

pub overflow_sub-index_mut : goal.overflow_sub-index_mut
overflow_sub-index_mut c = search (arith, get_or-changed)

pub loop-i-preserved : goal.loop-i-preserved
loop-i-preserved c =
    let lt : c.loop-i.i < length c.args.ends.now.items = omega arith in
    let e : c.index_mut.result.now ≡ get_or c.args.ends.now.items c.loop-i.i
    c.index_mut.result.now = c.index_mut.ensures.value ∙ ap (λ l. get_or l c.loop-i.i
    c.index_mut.result.now) c.loop-i.invariant ∙ get_or-changed _ c.loop-i.i _ _ in
    ap (λ l. set l c.loop-i.i (c.index_mut.result.now - c.args.by)) c.loop-i.invariant
    ∙ ap (λ y. set (changed (λ v. v - c.args.by) c.loop-i.i c.args.ends.now.items) c.loop-i.i
    (y - c.args.by)) e
    ∙ changed_more (λ v. v - c.args.by) c.loop-i.i c.args.ends.now.items c.index_mut.result.now lt
    ∙ rw add-one refl

pub returns : goal.returns
returns c = c.loop-i.invariant ∙ changed_all _ c.loop-i.i _ (omega arith)
