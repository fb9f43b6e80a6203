use Rattle.query_run.proofs.Imports.{CountIncreased-earlier}
use Rattle.query_run.proofs.Lines.{writes-cut}
use Rattle.query_run.proofs.telling.write_pieces.Goals as goal

pub returns-in-Err-clause-line : goal.returns-in-Err-clause-line
returns-in-Err-clause-line g c =
    writes-cut c.args.pieces.now c.loop-i.i _ _ _ _ _ _ c.loop-i-test.true c.loop-i.invariant.grew
    c.in-Err.ensures.line.grew_by_prefix
    (CountIncreased-earlier _ _ _ c.loop-i.invariant.kept c.in-Err.ensures.line.fault)
