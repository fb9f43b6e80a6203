use Rattle.csv_procs.proofs.Imports.{TakesRows, subst, sym, ◌∙◌}
use Rattle.csv_procs.proofs.KernelLaws.{makes-chunk, makes-end}
use Rattle.csv_procs.proofs.sourcing.SourcingKernel.make.Goals as goal

pub returns-then-is_over-clause-makes : goal.returns-then-is_over-clause-makes
returns-then-is_over-clause-makes g c =
    let k = c.args.self.now in
    let part = rw c.in-Rows.is at k.read in
    rw (← part, c.in-Rows.is)
    (makes-end k.part c.in-Rows.rows (sym c.is_over.ensures ∙ c.if-is_over.true)).0

pub returns-then-is_over-clause-valid : goal.returns-then-is_over-clause-valid
returns-then-is_over-clause-valid g c =
    rw c.in-Rows.is (makes-end c.args.self.now.part c.in-Rows.rows
    (sym c.is_over.ensures ∙ c.if-is_over.true)).1

pub returns-in-Ok-clause-makes : goal.returns-in-Ok-clause-makes
returns-in-Ok-clause-makes g c =
    let k = c.args.self.now in
    let r = c.in-Rows.rows in
    let new = c.next_chunk.new.self in
    let part = rw c.in-Rows.is at k.read in
    rw (← part, c.in-Rows.is) (makes-chunk k.part r new c.in-Ok.chunk
    (sym c.is_over.ensures ∙ c.if-is_over.false) c.in-Ok.ensures.types
    (subst (TakesRows k.part.types r new c.in-Ok.chunk.rows) c.most_rows-most.ensures
    c.in-Ok.ensures.rows))
