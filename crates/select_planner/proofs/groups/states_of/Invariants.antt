use Rattle.select_planner.proofs.Imports.{map, state_call, take, ◌≡◌}
use Rattle.select_planner.proofs.groups.states_of.Given as goal

abbrev pub invariant-loop-call : goal.invariant-loop-call
invariant-loop-call l = l.states.items ≡ map (state_call l.types) (take l.call-index l.calls)
