-- The steps: for each kind the condition on the view, the change of one word and of the view, and
-- the answer, from the word that it reads.
use Rattle.std.specs.Prelude.{ℕ, ◌+◌, ◌-◌, ◌^◌, ◌==◌, ◌||◌, ◌&&◌, not, cond, Bool, true, false, nat_lt, List, [], ◌∷◌, ◌++◌, length, Option, Some, None, bit_or, bit_xor, is_none}
use Rattle.std.specs.List.{filter}
pub use Rattle.core_laws.specs.declared.types.Act.{Act}
pub use Rattle.core_laws.specs.declared.types.Act.TheVariants.{Want, Unwant, Push, Pull, Finish, Close}
pub use Rattle.core_laws.specs.declared.types.Step.{Step}
use Rattle.core_laws.specs.declared.types.Step.TheVariants as step
use Rattle.core_laws.specs.Views.{Flags, Wire, PortState, NodeState, CoreState, node_at, port_at, put_node, put_port, list_of_option, has, adding, without, edges_of, knows, flags_at, seeing, bit_of, is_end, names, is_set, is_unborn, is_over, wire_ok, may_wire}
use Rattle.port_word.specs.Pictures.{no_flags}

-- ---- what a held end of an edge does to its port

-- the end that does it: true is the consumer
abbrev pub acting_end : Act → Bool
acting_end (Push x) = false
acting_end Finish = false
acting_end a = true

-- what the end must see of the port
abbrev pub allows : Act → Flags → Bool
allows Want f = not f.fin_in
allows Unwant f = true
allows (Push x) f = not f.has_data && not f.fin_out
allows Pull f = f.has_data && not f.fin_in
allows Finish f = not f.fin_out
allows Close f = not f.fin_in

-- the flags after it, in the word and in the end's own sight
abbrev pub changed : Act → Flags → Flags
changed Want f = record f { needed = true }
changed Unwant f = record f { needed = false }
changed (Push x) f = record f { has_data = true }
changed Pull f = record f { has_data = false }
changed Finish f = record f { fin_out = true }
changed Close f = record f { fin_in = true }

-- whether the peer is to be told, by the flags that the word had
abbrev pub tells : Act → Flags → Bool
tells Want f = not f.needed
tells Unwant f = false
tells a f = true

-- the slot and the histories after it
abbrev pub chunks_after : Act → PortState → PortState
chunks_after (Push x) p = record p { slot = Some x; pushed = p.pushed ++ x ∷ [] }
chunks_after Pull p = record p { slot = None; pulled = p.pulled ++ list_of_option p.slot }
chunks_after a p = p

abbrev pub port_after : Act → PortState → PortState
port_after a p = record (chunks_after a p) { flags = changed a p.flags }

-- the node that acted on the edge, whose word had the flags f
abbrev pub node_after : Act → ℕ → Flags → NodeState → NodeState
node_after a e f nd = record nd {
  seen = seeing e (changed a (flags_at e nd.seen)) nd.seen;
  owes = cond (tells a f) (adding e nd.owes) nd.owes;
}

abbrev pub is_here : CoreState → ℕ → Bool
is_here c n = nat_lt n (length c.nodes)

abbrev pub is_edge : CoreState → ℕ → ℕ → Bool
is_edge c n e = is_here c n && nat_lt e (length c.ports)

-- the node is there, and is a held end of the edge that it has learned
abbrev pub is_held_end : CoreState → ℕ → ℕ → Bool
is_held_end c n e = is_edge c n e && ((node_at c n).held && knows e (node_at c n).seen)

abbrev pub may_act : Act → CoreState → ℕ → ℕ → Bool
may_act a c n e = (is_held_end c n e && is_end (acting_end a) n (port_at c e).wire)
    && allows a (flags_at e (node_at c n).seen)

abbrev pub acted : Act → CoreState → ℕ → ℕ → CoreState
acted a c n e = put_node (put_port c e (port_after a (port_at c e))) n
    (node_after a e (port_at c e).flags (node_at c n))

abbrev pub looked : CoreState → ℕ → ℕ → NodeState
looked c n e = record (node_at c n) {
  seen = seeing e (port_at c e).flags (node_at c n).seen;
  unlooked = without e (node_at c n).unlooked;
}

-- ---- node words

abbrev pub peer_in : ℕ → Option Wire → ℕ
peer_in n None = n
peer_in n (Some w) = cond (w.to == n) w.from w.to

-- the bit of an edge in the word of its end n
abbrev pub bit_at_end : ℕ → Option Wire → ℕ
bit_at_end n None = 0
bit_at_end n (Some w) = cond (w.to == n) (bit_of true w) (bit_of false w)

-- what it spends of the node's tokens to leave a word that was 0 charged or held
abbrev pub spent : ℕ → ℕ
spent w = cond (w == 0) 1 0

abbrev pub with_bit : ℕ → NodeState → NodeState
with_bit k md = record md { word = bit_or md.word (2 ^ k) }

abbrev pub telling : ℕ → ℕ → NodeState → NodeState
telling e k nd = record nd { tokens = nd.tokens - k; owes = without e nd.owes }

-- the node n tells its peer m, whose bit for the edge is k
abbrev pub marked : CoreState → ℕ → ℕ → ℕ → ℕ → CoreState
marked c n e m k = put_node (put_node c m (with_bit k (node_at c m))) n
    (telling e (spent (node_at c m).word) (node_at c n))

-- whether the node is to look at the edge: it was, or its word says so
abbrev pub is_updated : CoreState → ℕ → ℕ → Bool
is_updated c n e = has e (node_at c n).unlooked || (is_set (node_at c n).word 60
    || is_set (node_at c n).word (bit_at_end n (port_at c e).wire))

abbrev pub taken : CoreState → ℕ → ℕ → NodeState
taken c n k = record (node_at c n) {
  word = 2 ^ 62;
  held = true;
  tokens = (node_at c n).tokens - k;
  unlooked = filter (is_updated c n) (edges_of (node_at c n).seen);
}

abbrev pub left : ℕ → NodeState → NodeState
left w nd = record nd { word = w; held = false; tokens = nd.tokens + 1 }

abbrev pub has_token : NodeState → Bool
has_token nd = nat_lt 0 nd.tokens

abbrev pub may_take : NodeState → Bool
may_take nd = nat_lt nd.tokens 2

abbrev pub is_none_of : List ℕ → Bool
is_none_of l = length l == 0

abbrev pub may_begin : NodeState → Bool
may_begin nd = (has_token nd && not nd.held) && (not (is_unborn nd.word) && not (is_over nd.word))

abbrev pub may_leave : NodeState → Bool
may_leave nd = nd.held && (is_none_of nd.owes && may_take nd)

-- ---- growth

-- an edge that is learned goes last, and is yet to be looked at
abbrev pub learning : ℕ → NodeState → NodeState
learning e nd = record nd {
  seen = nd.seen ++ record { edge = e; flags = no_flags } ∷ [];
  unlooked = adding e nd.unlooked;
}

abbrev pub learned : CoreState → ℕ → ℕ → CoreState
learned c n e = cond (knows e (node_at c n).seen) c (put_node c n (learning e (node_at c n)))

abbrev pub wiring : CoreState → ℕ → Wire → CoreState
wiring c e w = put_port c e (record (port_at c e) { wire = Some w })

abbrev pub born : NodeState → NodeState
born nd = record nd { word = bit_xor nd.word (2 ^ 60 + 2 ^ 61); tokens = nd.tokens - 1 }

-- other tokens of the node, and another pending number
abbrev pub with_tokens : CoreState → ℕ → ℕ → ℕ → CoreState
with_tokens c n tokens pending = record (put_node c n (record (node_at c n) { tokens = tokens })) {
  pending = pending;
}

abbrev pub is_worker : CoreState → ℕ → Bool
is_worker c n = not (nat_lt n c.sizes.nodes) && nat_lt n (c.sizes.nodes + c.sizes.workers)

-- the condition of a step of the seat n
abbrev pub may : CoreState → ℕ → Step → Bool
may c n (step.Look e) = is_held_end c n e
may c n (step.Want e) = may_act Want c n e
may c n (step.Unwant e) = may_act Unwant c n e
may c n (step.Push e x) = may_act (Push x) c n e
may c n (step.Pull e) = may_act Pull c n e
may c n (step.Finish e) = may_act Finish c n e
may c n (step.ClosePort e) = may_act Close c n e
may c n (step.Mark e) = is_edge c n e && (has e (node_at c n).owes && has_token (node_at c n))
may c n step.Begin = is_here c n && may_begin (node_at c n)
may c n step.Again = is_here c n && (node_at c n).held
may c n step.Rest = is_here c n && (may_leave (node_at c n) && is_none_of (node_at c n).unlooked)
may c n step.Over = is_here c n && may_leave (node_at c n)
may c n step.TokenIn = is_here c n && may_take (node_at c n)
may c n step.TokenOut = is_here c n && has_token (node_at c n)
may c n (step.Wire e w) = is_edge c n e
    && ((w.from == n) && (wire_ok c.sizes.nodes w && may_wire c.sizes.reserves e w))
may c n (step.Wired e) = is_edge c n e
may c n step.Birth = is_here c n && (is_unborn (node_at c n).word && has_token (node_at c n))
may c n step.Stop = is_worker c n
may c n step.See = is_worker c n

-- the state after it
abbrev pub after : CoreState → ℕ → Step → CoreState
after c n (step.Look e) = put_node c n (looked c n e)
after c n (step.Want e) = acted Want c n e
after c n (step.Unwant e) = acted Unwant c n e
after c n (step.Push e x) = acted (Push x) c n e
after c n (step.Pull e) = acted Pull c n e
after c n (step.Finish e) = acted Finish c n e
after c n (step.ClosePort e) = acted Close c n e
after c n (step.Mark e) = marked c n e (peer_in n (port_at c e).wire)
    (bit_at_end (peer_in n (port_at c e).wire) (port_at c e).wire)
after c n step.Begin = put_node c n (taken c n (spent (node_at c n).word))
after c n step.Again = put_node c n (taken c n 0)
after c n step.Rest = cond ((node_at c n).word == 2 ^ 62) (put_node c n (left 0 (node_at c n))) c
after c n step.Over = put_node c n (left (2 ^ 63) (node_at c n))
after c n step.TokenIn = with_tokens c n ((node_at c n).tokens + 1) (c.pending + 1)
after c n step.TokenOut = with_tokens c n ((node_at c n).tokens - 1) (c.pending - 1)
after c n (step.Wire e w) = cond (is_none (port_at c e).wire) (learned (wiring c e w) n e) c
after c n (step.Wired e) = cond (names n (port_at c e).wire) (learned c n e) c
after c n step.Birth = put_node c n (born (node_at c n))
after c n step.Stop = record c { stopped = true }
after c n step.See = c

-- ---- answers

-- what `mark` makes of the peer, or finds
pub data Marked : Type 0 where
  charged : Marked
  already_due : Marked
  over : Marked

-- what `see` finds
pub data Seen : Type 0 where
  pending : ℕ → Seen
  quiet : Seen
  stopped : Seen

pub data StepAnswer : Type 0 where
  nothing : StepAnswer
  flags : Flags → StepAnswer
  marked_peer : Marked → StepAnswer
  -- the node's word, whose bits name the updated ports
  updated : ℕ → StepAnswer
  is_idle : Bool → StepAnswer
  -- the wire that was there before
  wired : Option Wire → StepAnswer
  seen : Seen → StepAnswer

abbrev pub marked_by : ℕ → Marked
marked_by w = cond (w == 0) charged (cond (is_over w) over already_due)

abbrev pub seen_in : CoreState → Seen
seen_in c = cond c.stopped stopped (cond (c.pending == 0) quiet (pending c.pending))

abbrev pub answer : CoreState → ℕ → Step → StepAnswer
answer c n (step.Look e) = flags (port_at c e).flags
answer c n (step.Mark e) = marked_peer (marked_by (node_at c (peer_in n (port_at c e).wire)).word)
answer c n step.Begin = updated (node_at c n).word
answer c n step.Again = updated (node_at c n).word
answer c n step.Rest = is_idle ((node_at c n).word == 2 ^ 62)
answer c n (step.Wire e w) = wired (port_at c e).wire
answer c n (step.Wired e) = wired (port_at c e).wire
answer c n step.See = seen (seen_in c)
answer c n s = nothing
