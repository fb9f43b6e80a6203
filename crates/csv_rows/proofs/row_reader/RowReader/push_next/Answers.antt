use Rattle.csv_rows.proofs.Imports.{◌≡◌, ◌+◌, ap, ◌∙◌, arith, at_end}
use Rattle.csv_rows.proofs.PartPlaces.{line_there, some_left, row_here, bad_here}
use Rattle.csv_rows.proofs.row_reader.RowReader.push_next.Goals as goal

pub push_first-requires-clause-starts : goal.push_first-requires-clause-starts
push_first-requires-clause-starts c = search (arith, line_there, at_end)

pub overflow_sub-self : goal.overflow_sub-self
overflow_sub-self c = some_left c.self.inside.left c.self.inside.bytes.items c.self.inside.at
    (ap (λ p. at_end p.rest) c.self.view_is ∙ c.requires.left)

pub returns-in-Ok-clause-ok : goal.returns-in-Ok-clause-ok
returns-in-Ok-clause-ok c = search (arith, row_here)

pub returns-in-Err-clause-bad : goal.returns-in-Err-clause-bad
returns-in-Err-clause-bad c =
    let number : c.in-Some.number ≡ c.args.self.now.count + 1 =
    grind (arith, ap (λ p. p.count) c.self.view_is) in
    bad_here c.self.inside.left c.self.inside.bytes.items c.self.inside.at _ c.args.columns.now
    c.args.self.now.rest c.in-Err.fault c.requires.left (ap (λ p. p.rest) c.self.view_is)
    (rw (number, c.as_slice-bytes.ensures.value) at c.in-Err.ensures.bad)
