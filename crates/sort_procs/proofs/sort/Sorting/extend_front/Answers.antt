use Rattle.std.proofs.Common.{◌≡◌, arith, subst}
use Rattle.sort_procs.proofs.Imports.{PutsMore}
use Rattle.sort_procs.proofs.RankLaws.{more_same}
use Rattle.sort_procs.proofs.SortingLaws.{extended}
use Rattle.sort_procs.proofs.sort.Sorting.extend_front.Goals as goal

pub invariant_of-self : goal.invariant_of-self
invariant_of-self c =
    let s = c.args.self.now in
    let more = c.put_more-count.ensures in
    let puts = subst (λ keys. PutsMore s.rows keys s.front c.put_more-count.result s.places.items
    c.put_more-count.new.places.items) c.as_slice.ensures more.puts in
    let same = more_same s.rows s.order.keys s.front c.put_more-count.result s.places.items
    c.put_more-count.new.places.items puts in
    record {
      typed = s.typed;
      keyed = s.keyed;
      ends = s.ends;
      ranks = λ e. same.1 (s.ranks e);
      agree = s.agree;
      next_within = omega (arith, s.next_within);
      front_within = omega (arith, more.few, same.0);
    }

pub returns-clause-puts : goal.returns-clause-puts
returns-clause-puts c =
    let s = c.args.self.now in
    let new = c.put_more-count.new.places.items in
    let count = c.put_more-count.result in
    extended s.order s.ended s.ranked s.places.items new s.next s.front count s.rows c.requires
    c.if-self.false s.next_within s.front_within c.rows_wanted-wanted.ensures (s.agree c.requires)
    (s.ranks c.requires)
    (subst (λ keys. PutsMore s.rows keys s.front count s.places.items new) c.as_slice.ensures
    c.put_more-count.ensures.puts)

pub returns-clause-some : goal.returns-clause-some
returns-clause-some c = λ e.
    let s = c.args.self.now in
    let more = c.put_more-count.ensures in
    let same = more_same s.rows c.as_slice.result.now s.front c.put_more-count.result
    s.places.items c.put_more-count.new.places.items more.puts in
    let none : c.put_more-count.result ≡ 0 = omega (arith, e, s.next_within) in
    omega (arith, none, more.some none, same.0)
