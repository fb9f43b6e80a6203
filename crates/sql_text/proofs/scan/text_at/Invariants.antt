use Rattle.sql_text.proofs.Imports.{◌≡◌, drop, Middle, text_at}
use Rattle.sql_text.proofs.Bytes.{text_behind}
use Rattle.sql_text.proofs.scan.text_at.Given as goal

abbrev pub invariant-loop-i : goal.invariant-loop-i
invariant-loop-i l =
    text_at Middle l.bytes ≡ text_behind l.content.items l.i (text_at l.place (drop l.i l.bytes))
