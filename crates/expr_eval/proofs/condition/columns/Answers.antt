use Rattle.expr_eval.proofs.Imports.{and_valid, ap, arith, column_validity, compared, passes, ◌∙◌}
use Rattle.expr_eval.proofs.Onto.{length-pairs}
use Rattle.expr_eval.proofs.NullLaws.{compares-pairs}
use Rattle.expr_eval.proofs.condition.columns.Goals as goal

pub where_valid-left_valid-requires : goal.where_valid-left_valid-requires
where_valid-left_valid-requires c =
    length-pairs (λ p. passes c.args.op (compared p.0 p.1)) _ _ c.in_ok-mask.ensures
    (omega (arith, c.plain.ensures.long, c.plain-2.ensures.long, c.requires.long))
    ∙ c.plain.ensures.long

pub where_valid-requires : goal.where_valid-requires
where_valid-requires c =
    let long = length-pairs (λ p. passes c.args.op (compared p.0 p.1)) _ _ c.in_ok-mask.ensures
    (omega (arith, c.plain.ensures.long, c.plain-2.ensures.long, c.requires.long)) in
    omega (
      arith,
      long,
      c.where_valid-left_valid.ensures.long,
      c.plain.ensures.long,
      c.requires.long,
    )

pub returns : goal.returns
returns c =
    let l = c.args.left.now in
    let r = c.args.right.now in
    let made = rw (c.plain.ensures.values, c.plain-2.ensures.values) at c.in_ok-mask.ensures in
    c.where_valid.ensures.is
    ∙ ap (and_valid (column_validity r)) (c.where_valid-left_valid.ensures.is
    ∙ ap (and_valid (column_validity l)) made)
    ∙ compares-pairs c.args.op l r
