use Rattle.csv_procs.proofs.Imports.{IsUtf8-from_is_utf8, false_from_ne_true, is_utf8-from_IsUtf8, sym}
use Rattle.csv_procs.proofs.list_lines.is_text.Goals as goal

pub returns-in-Ok : goal.returns-in-Ok
returns-in-Ok c = sym (is_utf8-from_IsUtf8 c.args.line.now c.in-Ok.ensures.cases.1)

pub returns-in-Err : goal.returns-in-Err
returns-in-Err c = sym (false_from_ne_true _
    (λ t. c.in-Err.ensures.cases.0 (IsUtf8-from_is_utf8 c.args.line.now t)))
