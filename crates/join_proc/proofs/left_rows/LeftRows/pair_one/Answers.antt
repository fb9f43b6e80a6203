use Rattle.join_proc.proofs.Imports.{arith}
use Rattle.join_proc.proofs.LeftLaws.{moved-fit, moved-pairs, next-within}
use Rattle.join_proc.proofs.left_rows.LeftRows.pair_one.Goals as goal

pub index-requires : goal.index-requires
index-requires c = grind (arith, next-within)

pub returns-clause-fit : goal.returns-clause-fit
returns-clause-fit c =
    moved-fit c.args.join.now.pairs c.args.index.now c.requires.index c.args.self.now
    c.advance.new.self c.requires.fit c.requires.some c.index.result.now c.start-start.result
    c.start-start.ensures c.rows.result c.rows.ensures.count c.index.ensures c.advance.ensures

pub returns-clause-more : goal.returns-clause-more
returns-clause-more c = grind (arith, moved-pairs)
