use Rattle.csv_procs.proofs.ListTexts.{ReadsOn}
use Rattle.csv_procs.proofs.list_lines.read_lines.Given as goal

abbrev pub invariant-loop-i : goal.invariant-loop-i
invariant-loop-i l = ReadsOn l.text l.line.items l.i l.number l.paths.items
