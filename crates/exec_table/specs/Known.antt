-- What a node's seat knows after a step, by what it knew before and what the step answered.
use Rattle.std.specs.Prelude.{◌≡◌, ℕ, ◌+◌, ◌-◌, ◌==◌, ◌||◌, ◌&&◌, ◌++◌, not, cond, Bool, true, false, is_none, is_some, Option, Some, None}
use Rattle.std.specs.List.{filter}
use Rattle.core_laws.specs.Views.{edges_of, flags_at, has, is_set, knows, names, seeing, without}
use Rattle.core_laws.specs.Steps.{Marked, StepAnswer, bit_at_end, charged, flags, is_idle, learning, left, marked_peer, node_after, spent, telling, updated, wired}
use Rattle.core_laws.specs.declared.types.Step.TheVariants as step
use Rattle.exec_table.specs.Boards.{Begun, Born, EdgeEnd, NodeView, Over, Stage, chunks_in}
use Rattle.exec_table.specs.CoreNames.{Act, Chunk, Close, Finish, Flags, NodeState, Pull, Push, Step, Unwant, Want, Wire}
use Rattle.exec_table.specs.Ready.{end_of_view}
use Rattle.exec_table.specs.Seats.{NodeSeat, slot_of, view}

-- the tokens that a mark spends
abbrev pub price : Marked → ℕ
price charged = 1
price m = 0

abbrev pub state_acted : Act → NodeView → ℕ → NodeState
state_acted a x e = node_after a e (flags_at e x.state.seen) x.state

-- whether the node is to look at the edge, where its word was w
abbrev pub is_due : NodeView → ℕ → ℕ → Bool
is_due x w e = has e x.state.unlooked
    || (is_set w 60 || is_set w (bit_at_end x.number (end_of_view x e).wire))

abbrev pub state_taken : NodeView → ℕ → ℕ → NodeState
state_taken x w k = record x.state {
  held = true;
  tokens = x.state.tokens - k;
  unlooked = filter (is_due x w) (edges_of x.state.seen);
}

abbrev pub state_learned : ℕ → NodeState → NodeState
state_learned e nd = cond (knows e nd.seen) nd (learning e nd)

-- the node's state after its step s, which answered a
abbrev pub core_state_after : NodeView → Step → StepAnswer → NodeState
core_state_after x (step.Look e) (flags f) = record x.state {
  seen = seeing e f x.state.seen;
  unlooked = without e x.state.unlooked;
}
core_state_after x (step.Want e) a = state_acted Want x e
core_state_after x (step.Unwant e) a = state_acted Unwant x e
core_state_after x (step.Push e k) a = state_acted (Push k) x e
core_state_after x (step.Pull e) a = state_acted Pull x e
core_state_after x (step.Finish e) a = state_acted Finish x e
core_state_after x (step.ClosePort e) a = state_acted Close x e
core_state_after x (step.Mark e) (marked_peer m) = telling e (price m) x.state
core_state_after x step.Begin (updated w) = state_taken x w (spent w)
core_state_after x step.Again (updated w) = state_taken x w 0
core_state_after x step.Rest (is_idle b) = cond b (left 0 x.state) x.state
core_state_after x step.Over a = left 0 x.state
core_state_after x step.TokenIn a = record x.state { tokens = x.state.tokens + 1 }
core_state_after x step.TokenOut a = record x.state { tokens = x.state.tokens - 1 }
core_state_after x (step.Wire e w) (wired o) = cond (is_none o) (state_learned e x.state) x.state
core_state_after x (step.Wired e) (wired o) =
    cond (names x.number o) (state_learned e x.state) x.state
core_state_after x step.Birth a = record x.state { tokens = x.state.tokens - 1 }
core_state_after x s a = x.state

-- ---- how far the node is, its edges and its slots

abbrev pub stage_after : Stage → Step → Stage
stage_after g step.Begin = Begun
stage_after g step.Over = Over
stage_after g step.Birth = Born
stage_after g s = g

-- what lies in the slot whose turn an end has
abbrev pub lying : Option (Option Chunk) → Option Chunk
lying None = None
lying (Some v) = v

-- a chunk went by, and the slot was given back
abbrev pub end_passed : Option Chunk → EdgeEnd → EdgeEnd
end_passed v e = record { wire = e.wire; chunks = e.chunks ++ chunks_in v; turn = None }

abbrev pub end_wired : Option Wire → EdgeEnd → EdgeEnd
end_wired w e = record e { wire = w }

-- the edge d after the node's step s, which put v into the slot and answered a, but for a look at d
abbrev pub end_after : NodeView → Step → Option Chunk → StepAnswer → ℕ → EdgeEnd
end_after x (step.Push e k) v a d =
    cond (d == e) (end_passed v (end_of_view x e)) (end_of_view x d)
end_after x (step.Pull e) v a d =
    cond (d == e) (end_passed (lying (end_of_view x e).turn) (end_of_view x e)) (end_of_view x d)
end_after x (step.Wire e w) v (wired o) d =
    cond (is_none o && (d == e)) (end_wired (Some w) (end_of_view x e)) (end_of_view x d)
end_after x (step.Wired e) v (wired o) d =
    cond (names x.number o && (d == e)) (end_wired o (end_of_view x e)) (end_of_view x d)
end_after x s v a d = end_of_view x d

-- whether the flags give the slot to the consumer, or to the producer
abbrev pub is_turn : Bool → Flags → Bool
is_turn true f = f.has_data
is_turn false f = not f.has_data

-- the end after a look that saw these flags: it has the turn exactly where they give it to this
-- side, and one that it had it keeps
pub record LooksAt (side : Bool) (f : Flags) (old new : EdgeEnd) : Type 0 where
  pub wire : new.wire ≡ old.wire
  pub chunks : new.chunks ≡ old.chunks
  pub turn : is_some new.turn ≡ is_turn side f
  pub kept : (v : Option Chunk) → old.turn ≡ Some v → new.turn ≡ Some v

-- a slot after a look: one that was out is as it was, else the seat has what lies there
abbrev pub slot_looked : Option (Option Chunk) → Option (Option Chunk) → Option (Option Chunk)
slot_looked None turn = turn
slot_looked (Some v) turn = Some v

-- a pull gives a slot back that was out
abbrev pub gives_back : NodeView → Step → Bool
gives_back x (step.Pull e) = is_some (end_of_view x e).turn
gives_back x s = true

abbrev pub looks_at : ℕ → Step → Bool
looks_at d (step.Look e) = d == e
looks_at d s = false

-- whether the step is one at the edge d
abbrev pub is_at : ℕ → Step → Bool
is_at d (step.Look e) = d == e
is_at d (step.Want e) = d == e
is_at d (step.Unwant e) = d == e
is_at d (step.Push e k) = d == e
is_at d (step.Pull e) = d == e
is_at d (step.Finish e) = d == e
is_at d (step.ClosePort e) = d == e
is_at d (step.Wire e w) = d == e
is_at d (step.Wired e) = d == e
is_at d s = false

-- a seat knows of an edge what it knew, and its slot is as it was
pub record IsSameAt (old new : NodeSeat) (d : ℕ) : Type 0 where
  pub flags : flags_at d (view new).state.seen ≡ flags_at d (view old).state.seen
  pub end : end_of_view (view new) d ≡ end_of_view (view old) d
  pub slot : slot_of new d ≡ slot_of old d
