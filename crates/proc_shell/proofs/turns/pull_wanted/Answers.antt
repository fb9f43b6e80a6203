use Rattle.proc_shell.proofs.Imports.{ap, is_some, sym, ◌∙◌}
use Rattle.proc_shell.proofs.TurnLaws.{moves-pull}
use Rattle.proc_shell.proofs.turns.pull_wanted.Goals as goal

pub returns-in-Some-pull-clause-moves : goal.returns-in-Some-pull-clause-moves
returns-in-Some-pull-clause-moves g c = rw c.requires.nothing
    (moves-pull _ _ _ _ _ _ c.requires.comes.wanting c.requires.room c.in-Some.ensures.full
    (sym (c.pull.ensures.taken (ap is_some c.in-Some-pull.is)) ∙ c.in-Some-pull.is)
    c.pull.ensures.after)
