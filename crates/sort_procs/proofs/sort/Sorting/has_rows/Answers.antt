use Rattle.std.proofs.Common.{rules}
use Rattle.sort_procs.proofs.SortingLaws.{has_ranked}
use Rattle.sort_procs.proofs.sort.Sorting.has_rows.Goals as goal

pub returns-then-self : goal.returns-then-self
returns-then-self c =
    let s = c.args.self.now in
    has_ranked s.order s.places.items s.next s.front s.rows s.ranked c.len.result c.if-self.true
    (search rules) s.next_within s.front_within
