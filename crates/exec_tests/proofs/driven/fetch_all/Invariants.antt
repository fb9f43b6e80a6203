use Rattle.port_word.specs.Pictures.{Picture}
use Rattle.proc_api.specs.Names.{FollowsKept, IsRunning, MaySchedule}
use Rattle.exec_tests.proofs.driven.fetch_all.Given as goal

abbrev pub invariant-loop-turn : goal.invariant-loop-turn
invariant-loop-turn g l = record {
  running : IsRunning ((goal.Processor-dyn g (l.b.vtable, l.b.value)).seen l.b.value);
  fetching : MaySchedule
      ((goal.Processor-dyn g (l.b.vtable, l.b.value)).seen l.b.value).notes.answer;
  follows : (v : Picture)
      → FollowsKept ((goal.Processor-dyn g (l.initial.b.vtable, l.initial.b.value)).seen
      l.initial.b.value) v
      → FollowsKept ((goal.Processor-dyn g (l.b.vtable, l.b.value)).seen l.b.value) v;
}
