use Rattle.csv_rows.proofs.Imports.{◌∙◌, sym, arith}
use Rattle.csv_rows.proofs.Pushing.{ReadSoFar-none, ReadSoFar-more, ReadSoFar-stop, ReadSoFar-some}
use Rattle.csv_rows.proofs.row_reader.read_front.Goals.{then-rows-most-via-then-rows-most, then-rows-most-via-else-rows-most+then-is_over}
use Rattle.csv_rows.proofs.row_reader.read_front.Goals as goal

pub rows-init : goal.rows-init
rows-init c = ReadSoFar-none c.args.columns.now c.args.reader.now c.args.most c.requires.empty

pub returns-then-rows-most-clause-ok : goal.returns-then-rows-most-clause-ok
returns-then-rows-most-clause-ok c =
    ReadSoFar-stop c.rows.invariant (λ left lt. elim c.then-rows-most.branch [
      | then-rows-most-via-then-rows-most w ↦ omega (arith, lt, w.if-rows-most.true)
      | then-rows-most-via-else-rows-most+then-is_over w ↦
          ReadSoFar-some c.rows.invariant (sym w.is_over.ensures ∙ w.if-is_over.true) left
    ])

pub returns-in-Err-Bad-clause-ok : goal.returns-in-Err-Bad-clause-ok
returns-in-Err-Bad-clause-ok c =
    rw (c.in-Err-Bad.ensures.stays, c.in-Err-Bad.ensures.err)
    (ReadSoFar-stop c.rows.invariant (λ _ _. c.if-rows-gt0.true))

pub rows-preserved : goal.rows-preserved
rows-preserved c =
    ReadSoFar-more c.rows.invariant (omega (arith, c.rows.invariant.within, c.if-rows-most.false))
    c.in-Ok.ensures.kinds c.in-Ok.ensures.ok
