use Rattle.join_proc.proofs.LeftLaws.{joins-more, none-left}
use Rattle.join_proc.proofs.Imports.{[], ap, arith, leb-true, length, length-append, ◌∙◌, ◌∷◌}
use Rattle.join_proc.proofs.left_rows.LeftRows.pair_some.Goals as goal

pub loop-done-preserved : goal.loop-done-preserved
loop-done-preserved c =
    let l = c.loop-done.invariant in
    let e = c.in_ok-pair_one.ensures in
    let m = length-append c.loop-done.pairs.lefts.items (e.more.start.left ∷ []) in
    let n = ap length e.more.lefts in
    let k = l.many in
    record {
      fit = e.fit;
      chunk = e.chunk ∙ l.chunk;
      joins = joins-more c.args.join.now.pairs c.args.index.now.rows.rows c.args.self.now
          c.loop-done.self c.pair_one.new.self c.loop-done.pairs c.pair_one.new.pairs l.chunk
          l.joins e.more;
      many = omega (arith, m, n, k);
    }

pub returns-then-is_joined-clause-some : goal.returns-then-is_joined-clause-some
returns-then-is_joined-clause-some c = grind (arith, none-left, leb-true)
