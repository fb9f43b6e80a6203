use Rattle.csv_rows.proofs.Imports.{◌∙◌, sym, arith}
use Rattle.csv_rows.proofs.FieldPlaces.{quoted_starts, quoted_twice, quoted_closes, quoted_open}
use Rattle.csv_rows.proofs.field_ends.quoted_end.Goals as goal

pub runs-init : goal.runs-init
runs-init c = quoted_starts c.args.bytes.now c.args.at c.args.field.now.items c.requires.within
    c.requires.quote c.requires.empty

pub returns-then-quote-bytes : goal.returns-then-quote-bytes
returns-then-quote-bytes c =
    rw c.in_ok-extend_from_slice.ensures.items (quoted_open c.next_quote-quote.result
    c.next_quote-quote.ensures.run c.if-quote-bytes.true c.runs.invariant)

pub returns-then-not-byte_at : goal.returns-then-not-byte_at
returns-then-not-byte_at c =
    rw (c.in_ok-extend_from_slice-2.ensures.items, c.in_ok-extend_from_slice.ensures.items)
    (quoted_closes c.next_quote-quote.result c.mark_from-end.result c.next_quote-quote.ensures.run
    (omega arith) (sym c.byte_at.ensures ∙ c.if-not-byte_at.true) c.mark_from-end.ensures.run
    c.runs.invariant)

pub runs-preserved : goal.runs-preserved
runs-preserved c =
    rw (c.in_ok-push.ensures.items, c.in_ok-extend_from_slice.ensures.items)
    (quoted_twice c.next_quote-quote.result c.next_quote-quote.ensures.run (omega arith)
    (sym c.byte_at.ensures ∙ c.if-not-byte_at.false) c.runs.invariant)
