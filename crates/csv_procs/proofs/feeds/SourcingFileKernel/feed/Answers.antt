use Rattle.csv_procs.proofs.FeedLaws.{more-step, whole-step}
use Rattle.csv_procs.proofs.feeds.SourcingFileKernel.feed.Goals as goal

pub returns-in-Ok-whole_file-clause-steps : goal.returns-in-Ok-whole_file-clause-steps
returns-in-Ok-whole_file-clause-steps g c =
    let gives = rw c.in-Ok-Whole.field-0-is at c.in-Ok-Whole.ensures.gives in
    rw c.in-Fetching.is (whole-step _ _ c.fetch_more.ensures.after g.S.Sourced.lists
    c.args.self.now.part c.in-Fetching.held c.args.notes.now (rw c.in-Fetching.is at c.requires)
    c.in-Ok-whole_file.whole c.fetch_more.new.notes gives.0 gives.1 gives.3
    (rw (c.lists.ensures, c.replace-bytes.ensures.value, gives.2) at
    c.in-Ok-whole_file.ensures.whole))

pub returns-in-Ok-More-clause-steps : goal.returns-in-Ok-More-clause-steps
returns-in-Ok-More-clause-steps g c =
    let gives = rw c.in-Ok-More.field-0-is at c.in-Ok-More.ensures.gives in
    rw c.in-Fetching.is (more-step _ _ c.fetch_more.ensures.after g.S.Sourced.lists
    c.args.self.now.part c.in-Fetching.held c.args.notes.now (rw c.in-Fetching.is at c.requires)
    c.fetch_more.new.held c.fetch_more.new.notes gives.0 gives.1)
