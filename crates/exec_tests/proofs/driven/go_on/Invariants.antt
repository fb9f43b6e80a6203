use Rattle.std.specs.Prelude.{◌≡◌, []}
use Rattle.proc_api.specs.Names.{IsRunning, FollowsKept}
use Rattle.exec_tests.proofs.driven.go_on.Given as goal

abbrev pub invariant-loop-turn : goal.invariant-loop-turn
invariant-loop-turn g l = record {
  running : IsRunning ((goal.Processor-dyn g (l.b.vtable, l.b.value)).seen l.b.value);
  follows : FollowsKept ((goal.Processor-dyn g (l.b.vtable, l.b.value)).seen l.b.value) l.view;
}
