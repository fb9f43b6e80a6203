use Rattle.std.proofs.Common.{refl, rules}
use Rattle.sort_procs.proofs.RankLaws.{more-put}
use Rattle.sort_procs.proofs.ranks.put_more.Goals as goal

pub returns-clause-puts : goal.returns-clause-puts
returns-clause-puts c =
    more-put c.args.rows.now c.args.keys.now c.args.from c.put_front.result c.args.places.now.len
    c.args.places.now.items c.deref_mut.result.now c.put_front.new.ranks _ _ _ c.requires.here
    c.put_front.ensures.puts refl (search rules) (search rules)
