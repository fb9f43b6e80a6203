use Rattle.aggregate_proc.proofs.Imports.{arith, length, max, min, rules, ◌-◌, ◌∙◌, ◌≡◌}
use Rattle.aggregate_proc.proofs.GroupingLaws.{makes-part}
use Rattle.aggregate_proc.proofs.grouping.Grouping.give.Goals as goal

pub returns-in-Ok-clause-makes : goal.returns-in-Ok-clause-makes
returns-in-Ok-clause-makes g c =
    let group = c.args.self.now.group in
    let rows = c.args.chunk.rows in
    let count : c.min-count.result ≡ min (length rows - c.args.next) (max group.rows 1) =
    search rules in
    let within = c.requires.within in
    let some = c.if-count-eq0.false in
    rw c.put_phase-in-Ok.ensures (makes-part g.G.Grouped.merges group rows c.args.next
    c.min-count.result c.in-Ok.part c.in-Ok.ensures.rows (omega (arith, some))
    (omega (arith, count, within)) (omega (arith, count))
    (c.in-Ok.ensures.types ∙ c.requires.types))
