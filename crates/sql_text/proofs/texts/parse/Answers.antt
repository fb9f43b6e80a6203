use Rattle.sql_text.proofs.Imports.{Some, sym, ap, ◌∙◌, arith}
use Rattle.sql_text.proofs.Readings.{is_read}
use Rattle.sql_text.proofs.texts.parse.Goals as goal

pub returns-in-Ok-text_query-clause-read : goal.returns-in-Ok-text_query-clause-read
returns-in-Ok-text_query-clause-read c =
    let ts = c.as_slice-tokens.result.now in
    let are = c.in-Ok.ensures ∙ ap Some (sym c.as_slice-tokens.ensures.value) in
    is_read c.in-Ok-text_query.query c.args.text.now ts (omega arith) are (sym c.in_default.ensures)
    c.in-Ok-text_query.ensures
