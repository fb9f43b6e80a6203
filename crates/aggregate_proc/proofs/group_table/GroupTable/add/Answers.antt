use Rattle.aggregate_proc.proofs.Imports.{GroupTableView, GroupsMore, ap, arith, codes_in, group_table_view, length-map, subst, sym, ◌∙◌}
use Rattle.aggregate_proc.proofs.GroupLaws.{adds-rows, first-within, places-long}
use Rattle.aggregate_proc.proofs.group_table.GroupTable.add.Goals as goal

pub find_places-requires-clause-within : goal.find_places-requires-clause-within
find_places-requires-clause-within c = grind (arith, first-within)

pub find_places-requires-clause-form : goal.find_places-requires-clause-form
find_places-requires-clause-form c = grind arith

pub add_to_each-requires-clause-long : goal.add_to_each-requires-clause-long
add_to_each-requires-clause-long c = grind (arith, places-long, length-map)

pub invariant_of-result : goal.invariant_of-result
invariant_of-result c =
    let t = group_table_view c.self.inside.types c.self.inside.keys c.self.inside.seen
    c.self.inside.columns.items in
    let same = c.requires ∙ sym (ap (λ (v : GroupTableView). v.types) c.self.view_is) in
    let added = adds-rows t c.args.chunk.now.rows c.args.chunk.now.types c.as_slice.result.now
    (codes_in c.find_places.new.seen) c.add_to_each.new.columns.items c.as_slice-2.result.now same
    (c.as_slice.ensures.value ∙ c.in_ok-first.ensures) c.in_ok-places.ensures.cells
    c.self.invariant.0 (c.as_slice-2.ensures.value ∙ c.in_ok-places.ensures.places)
    c.in_ok-places.ensures.seen c.in_ok-add_to_each.ensures in
    (added.0, grind arith)

pub returns : goal.returns
returns c =
    let t = group_table_view c.self.inside.types c.self.inside.keys c.self.inside.seen
    c.self.inside.columns.items in
    let same = c.requires ∙ sym (ap (λ (v : GroupTableView). v.types) c.self.view_is) in
    let added = adds-rows t c.args.chunk.now.rows c.args.chunk.now.types c.as_slice.result.now
    (codes_in c.find_places.new.seen) c.add_to_each.new.columns.items c.as_slice-2.result.now same
    (c.as_slice.ensures.value ∙ c.in_ok-first.ensures) c.in_ok-places.ensures.cells
    c.self.invariant.0 (c.as_slice-2.ensures.value ∙ c.in_ok-places.ensures.places)
    c.in_ok-places.ensures.seen c.in_ok-add_to_each.ensures in
    let more : GroupTableView = record t {
      codes = codes_in c.find_places.new.seen;
      columns = c.add_to_each.new.columns.items;
    } in
    subst (λ (v : GroupTableView). GroupsMore v c.args.chunk.now.rows more) c.self.view_is added.1
