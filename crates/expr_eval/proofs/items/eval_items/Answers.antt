use Rattle.expr_eval.proofs.Imports.{AreLong_of_made, ap, arith, map, rows_of_made, take_all, value_of, values, ◌∙◌, ◌≡◌}
use Rattle.expr_eval.proofs.items.eval_items.Goals as goal

pub of_columns-requires : goal.of_columns-requires
of_columns-requires c =
    let made : map values c.from_vec.result
    ≡ map (λ e. map (value_of e) c.args.chunk.now.rows) c.args.items.now =
    ap (map values) c.from_vec.ensures ∙ c.loop-item.invariant.1 ∙ ap (map (λ e. map (value_of e)
    c.args.chunk.now.rows)) (take_all c.loop-item.item-index c.args.items.now (omega arith)) in
    AreLong_of_made value_of c.args.items.now c.args.chunk.now.rows _ _ made c.rows.ensures.count

pub returns-in-Ok-clause-types : goal.returns-in-Ok-clause-types
returns-in-Ok-clause-types c = grind (arith, take_all)

pub returns-in-Ok-clause-rows : goal.returns-in-Ok-clause-rows
returns-in-Ok-clause-rows c =
    let made : map values c.from_vec.result
    ≡ map (λ e. map (value_of e) c.args.chunk.now.rows) c.args.items.now =
    ap (map values) c.from_vec.ensures ∙ c.loop-item.invariant.1 ∙ ap (map (λ e. map (value_of e)
    c.args.chunk.now.rows)) (take_all c.loop-item.item-index c.args.items.now (omega arith)) in
    c.in-Ok.ensures.rows
    ∙ rows_of_made value_of c.args.items.now c.args.chunk.now.rows _ _ made c.rows.ensures.count
