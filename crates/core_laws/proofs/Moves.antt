-- What a step of one end of an edge does to the edge, to the end's own sight, and to the peer's.
use Rattle.core_laws.proofs.Imports.{Act, Bool, Content, Flags, PortState, Sees, acting_end, allows, append-nil, arith, changed, false, lacks, not, port_after, tells, true, ◌≡◌}

-- the end b of the edge, which saw the port p as `was`, leaves it as q, sees it as f, and owes a
-- telling where `owes` says so
pub record EndMoves (p : PortState) (was : Flags) (b : Bool) (q : PortState) (f : Flags)
    (owes : Bool) : Type 0 where
  pub wire : q.wire ≡ p.wire
  pub content : Content p → Sees b p.flags was → Content q
  pub own : Sees b p.flags was → Sees b q.flags f
  pub peer : (g : Flags) → Sees b p.flags was → Sees (not b) p.flags g → Sees (not b) q.flags g
  pub lacks_less : lacks b q.flags f ≡ true → lacks b p.flags was ≡ true
  pub peer_lacks_less : owes ≡ false → (g : Flags) → lacks (not b) q.flags g ≡ true
      → lacks (not b) p.flags g ≡ true

-- each act of an end that may do it is such a step
pub act-moves : (a : Act) (p : PortState) (f : Flags) → allows a f ≡ true
    → EndMoves p f (acting_end a) (port_after a p) (changed a f) (tells a p.flags)
act-moves a p f g = grind (arith, append-nil)

-- a look sees the flags as they are
pub same-flags : (b : Bool) (f : Flags) → Sees b f f
same-flags b f = grind arith

-- who sees the flags as they are lacks nothing
pub lacks-none : (b : Bool) (f : Flags) → lacks b f f ≡ false
lacks-none b f = grind arith

-- a look leaves the port, and sees it as it is
pub look-moves : (b : Bool) (p : PortState) (f : Flags) → EndMoves p f b p p.flags false
look-moves b p f = grind (arith, same-flags, lacks-none)
