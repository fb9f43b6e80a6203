use Rattle.std.proofs.Common.{ℕ, Result, Ok, Err, OnOk}
use Rattle.port_word.specs.Calls.{new_picture}
use Rattle.proc_api.specs.Names.{BoxPicture, FollowsKept, Loads}
use Rattle.proc_api.specs.declared.status.LoadRefusal.{LoadRefusal}
use Rattle.query_model.specs.declared.processor_spec.Spec.{Spec}
use Rattle.proc_api.proofs.Follows.{follows-new}
use Rattle.exec_tests.proofs.driven.load.Goals as goal

first_view : (p q : BoxPicture) (s : Spec) (r : Result (Unit {0}) LoadRefusal) → OnOk r
    (Loads p s q) → OnOk r ((inputs outputs : ℕ) → FollowsKept q (new_picture inputs outputs))
first_view p q s (Ok u) l = λ inputs outputs. follows-new q inputs outputs l.fresh.notes
first_view p q s (Err e) l = tt

pub returns-clause-follows : goal.returns-clause-follows
returns-clause-follows g c = first_view _ _ c.args.spec c.load.result c.load.ensures.ok
