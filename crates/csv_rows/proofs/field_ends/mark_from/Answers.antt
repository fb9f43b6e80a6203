use Rattle.csv_rows.proofs.Imports.{arith, is_mark, no_mark}
use Rattle.csv_rows.proofs.ByteRuns.{run_bound, run_through, run_stops}
use Rattle.csv_rows.proofs.field_ends.mark_from.Goals as goal

pub returns-then-found-ne0-clause-run : goal.returns-then-found-ne0-clause-run
returns-then-found-ne0-clause-run c =
    let run = run_stops is_mark c.args.bytes.now c.lanes.i 16 (omega arith)
    c.marks-found.result (omega arith) (omega arith) c.marks-found.ensures in
    omega (arith, run, c.lanes.invariant.0)

pub returns-then-found-ne0-clause-within : goal.returns-then-found-ne0-clause-within
returns-then-found-ne0-clause-within c =
    let run = run_stops is_mark c.args.bytes.now c.lanes.i 16 (omega arith)
    c.marks-found.result (omega arith) (omega arith) c.marks-found.ensures in
    omega (arith, run, run_bound no_mark c.args.bytes.now c.lanes.i c.lanes.invariant.1)

pub lanes-preserved : goal.lanes-preserved
lanes-preserved c =
    let run = run_through is_mark c.args.bytes.now c.lanes.i 16 (omega arith)
    (omega (arith, c.marks-found.ensures)) in
    (omega (arith, run, c.lanes.invariant.0), omega arith)
