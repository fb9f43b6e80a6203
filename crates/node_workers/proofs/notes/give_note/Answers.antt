use Rattle.node_workers.proofs.Imports.{Own, ap, arith, at_index, length, reserve_at, ◌+◌, ◌<◌, ◌≤◌}
use Rattle.node_workers.proofs.NoteLaws.{first-more, first-past}
use Rattle.node_workers.proofs.notes.give_note.Goals as goal

pub returns-then-n-len : goal.returns-then-n-len
unfolding reserve_at
returns-then-n-len g c = λ cells h. let n = (reserve_at c.args.reserves.now c.args.k).node in
    let lt : n < length c.args.named.now.items = omega (arith, c.if-n-len.true, c.len.ensures) in
    let less : c.args.note.reserve < c.args.k + 1 = omega (arith, c.requires.own) in
    first-more c.args.notes.now.table.shared.table_id c.args.reserves.now cells c.args.k
    c.args.named.now.items c.index_mut.result.now (Own c.args.note) (at_index c.args.named.now.items
    n c.index_mut.result.now lt c.index_mut.ensures.value) (
      c.requires.note,
      less,
      ap (λ i. (reserve_at c.args.reserves.now i).node) c.requires.own,
      c.requires.bare,
    ) h

pub returns-else-n-len : goal.returns-else-n-len
unfolding reserve_at
returns-else-n-len g c = λ cells h. let le : length c.args.named.now.items ≤ (reserve_at
    c.args.reserves.now c.args.k).node = omega (arith, c.if-n-len.false, c.len.ensures) in
    first-past _ _ _ _ _ le h
