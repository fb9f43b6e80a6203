use Rattle.std.specs.Prelude.{◌≡◌, []}
use Rattle.proc_api.specs.Names.{FollowsKept, IsRunning}
use Rattle.exec_tests.proofs.driven.driven.Given as goal

abbrev pub invariant-loop-step : goal.invariant-loop-step
invariant-loop-step g l = record {
  running : IsRunning ((goal.Processor-dyn g (l.b.vtable, l.b.value)).seen l.b.value);
  follows : FollowsKept ((goal.Processor-dyn g (l.b.vtable, l.b.value)).seen l.b.value) l.view;
  taken : l.view.actions ≡ [];
}
