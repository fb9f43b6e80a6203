use Rattle.csv_rows.proofs.Imports.{◌∙◌, arith, [], refl}
use Rattle.csv_rows.proofs.Pushing.{back_at, row_none, row_more, row_back, row_ends, row_beyond}
use Rattle.csv_rows.proofs.record_by_field.push_fields.Goals as goal

pub loop-i-init : goal.loop-i-init
loop-i-init c =
    row_none c.args.bytes.now c.args.at c.args.columns.now c.requires.within c.requires.starts

pub returns-then-not-byte_at-clause-ok : goal.returns-then-not-byte_at-clause-ok
returns-then-not-byte_at-clause-ok c =
    row_ends c.index-columns-i.result c.push_field.new.column [] c.loop-i.invariant (omega arith)
    c.in_ok-whole.ensures.kind c.in_ok-text.ensures c.in_ok-whole.ensures.ok c.line_end.ensures
    (omega arith) refl (λ whole. refl)

pub returns-then-not-whole-clause-ok : goal.returns-then-not-whole-clause-ok
returns-then-not-whole-clause-ok c =
    let h = c.in_ok-more.ensures in
    row_ends c.index-columns-i.result c.push_field.new.column h.more c.loop-i.invariant
    (omega arith) c.in_ok-whole.ensures.kind c.in_ok-text.ensures c.in_ok-whole.ensures.ok h.ends
    (omega (arith, h.many)) refl (λ whole. absurd cc)

pub loop-i-preserved : goal.loop-i-preserved
loop-i-preserved c = search (arith, row_more)

pub returns-clause-ok : goal.returns-clause-ok
returns-clause-ok c =
    row_beyond c.loop-i.invariant (omega arith) c.in_ok-end.ensures c.in_ok-more-2.ensures
    (omega arith)

pub returns-then-not-byte_at-clause-back : goal.returns-then-not-byte_at-clause-back
returns-then-not-byte_at-clause-back c =
    row_back _ c.index-columns-i.result c.push_field.new.column c.loop-i.invariant (omega arith)
    c.in_ok-whole.ensures.kind c.in_ok-text.ensures c.in_ok-whole.ensures.ok

pub returns-then-not-whole-clause-back : goal.returns-then-not-whole-clause-back
returns-then-not-whole-clause-back c =
    row_back _ c.index-columns-i.result c.push_field.new.column c.loop-i.invariant (omega arith)
    c.in_ok-whole.ensures.kind c.in_ok-text.ensures c.in_ok-whole.ensures.ok

pub returns-in_err-more-clause-back : goal.returns-in_err-more-clause-back
returns-in_err-more-clause-back c =
    row_back _ c.index-columns-i.result c.push_field.new.column c.loop-i.invariant (omega arith)
    c.in_ok-whole.ensures.kind c.in_ok-text.ensures c.in_ok-whole.ensures.ok

pub returns-in_err-whole-clause-back : goal.returns-in_err-whole-clause-back
returns-in_err-whole-clause-back c =
    back_at c.loop-i.invariant.fields _ _ _ c.index-columns-i.result c.push_field.new.column
    c.loop-i.invariant.added (omega arith) c.in_err-whole.ensures.kind c.in_err-whole.ensures.err
