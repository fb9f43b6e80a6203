use Rattle.query_model.specs.declared.processor_spec.Spec.TheVariants as spec
use Rattle.sort_procs.proofs.Imports.{makes-nothing}
use Rattle.std.proofs.Common.{◌≡◌, ◌-◌, ◌<◌, min, max, take, drop, ◌∙◌, arith, rules}
use Rattle.sort_procs.specs.Ranks.{rows_at}
use Rattle.sort_procs.proofs.SortingLaws.{makes-chunk, none-left}
use Rattle.sort_procs.proofs.sort.Sorting.next_chunk.Goals as goal

pub returns-in-Ok-clause-makes : goal.returns-in-Ok-clause-makes
returns-in-Ok-clause-makes c =
    let s = c.args.self.now in
    let count : c.min-count.result ≡ min (s.front - s.next) (max s.order.rows 1) =
    search rules in
    let some : 0 < c.min-count.result = omega (arith, c.if-count-eq0.false) in
    let rows : c.in-Ok.chunk.rows
    ≡ rows_at s.rows.rows (take c.min-count.result (drop s.next s.places.items)) =
    search rules in
    makes-chunk s.order s.ended s.ranked s.places.items s.next s.front c.min-count.result s.rows
    c.in-Ok.chunk c.requires.ranked s.ends count s.front_within some
    (c.in-Ok.ensures.types ∙ s.typed) rows

pub returns-then-count-eq0-clause-makes : goal.returns-then-count-eq0-clause-makes
returns-then-count-eq0-clause-makes c =
    let s = c.args.self.now in
    let count : c.min-count.result ≡ min (s.front - s.next) (max s.order.rows 1) = search rules in
    let reached : s.next ≡ s.front =
    omega (arith, count, c.if-count-eq0.true, s.next_within) in
    makes-nothing (spec.Sort s.order) _
    (none-left s.order s.places.items s.next s.front s.rows s.ended s.ranked c.requires.ranked
    s.next_within s.front_within reached (c.requires.some reached))
