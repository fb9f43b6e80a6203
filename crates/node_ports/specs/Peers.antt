-- The actions of a view are carried out, and peers are told.
use Rattle.std.specs.Prelude.{Bool, None, Option, [], cond, false, not, slice_index_or, true, ℕ, ◌∷◌, ◌≡◌, ◌≢◌}
use Rattle.node_ports.specs.Prelude.{Identity, Action, BoxPicture, Close, Finish, FollowsKept, IsSeatOf, MarkHolds, NodePorts, NodeSeat, NodeStatus, Pull, Push, Unwant, Want, view}
use Rattle.core_laws.specs.Steps.{Marked, marked_peer, nothing}
use Rattle.core_laws.specs.declared.types.Step.TheVariants as step
use Rattle.exec_table.specs.Known.{IsSameAt, price}
use Rattle.exec_table.specs.Seats.{MakesStep}
use Rattle.exec_laws.specs.Names.{action_port, port_edge}
use Rattle.node_ports.specs.declared.actions.Carry.{Carry}
use Rattle.node_ports.specs.declared.actions.Carry.TheVariants as carry
use Rattle.node_ports.specs.Ports.{PortsHold, PortsPicture, edge_of, is_own_port, ports_picture}
use Rattle.node_ports.specs.Actions.{Acted, InTurn, SameLists, SamePorts, untaken}
use Rattle.proc_api.specs.declared.status.Status.{Status}

-- the seat of a held node, which owes a telling of this edge and has no token
pub record OwesOne (t : Identity) (e : ℕ) (s : NodeSeat) : Type 0 where
  pub seat : IsSeatOf t s
  pub held : (view s).state.held ≡ true
  pub owes : (view s).state.owes ≡ e ∷ []
  pub tokens : (view s).state.tokens ≡ 0

-- the token that was made for the peer stays with its word where the mark charged it, and else is
-- taken back
abbrev pub TokenGoes : Bool → Identity → NodeSeat → NodeSeat → Type 0
TokenGoes true t marked new = new ≡ marked
TokenGoes false t marked new = MakesStep t marked new step.TokenOut None nothing

-- the peer was marked as told of the edge, with a token made for it, and was charged or wasn't, by
-- what the mark answered
pub record Marks (t : Identity) (e : ℕ) (charged : Bool) (old new : NodeSeat) : Type 0 where
  pub ready : NodeSeat
  pub token : MakesStep t old ready step.TokenIn None nothing
  pub marked : NodeSeat
  pub answer : Marked
  pub mark : MakesStep t ready marked (step.Mark e) None (marked_peer answer)
  pub spent : price answer ≡ cond charged 1 0
  pub goes : TokenGoes charged t marked new

-- The peer was told. Nothing is owed any more, and no token is left. All else is as it was.
pub record PeerIsTold (t : Identity) (e : ℕ) (charged : Bool) (old new : NodeSeat) : Type 0 where
  pub marks : Marks t e charged old new
  pub seat : IsSeatOf t new
  pub turn : InTurn (view new)
  pub edges : (view new).state.seen ≡ (view old).state.seen
  pub unlooked : (view new).state.unlooked ≡ (view old).state.unlooked
  pub number : (view new).number ≡ (view old).number
  pub stage : (view new).stage ≡ (view old).stage
  pub same : (d : ℕ) → IsSameAt old new d

-- the node is in a turn, and actions may wait
pub record MayCarry (c : PortsPicture) : Type 0 where
  pub holds : PortsHold c
  pub turn : InTurn c.node

-- Actions were carried out: the first ones of the view are gone.
pub record HasCarriedOut (c d : PortsPicture) : Type 0 where
  pub may : MayCarry d
  pub lists : SameLists c d
  pub ports : SamePorts c d
  pub stage : d.node.stage ≡ c.node.stage
  pub unlooked : d.node.state.unlooked ≡ c.node.state.unlooked
  pub follows : (b : BoxPicture) → FollowsKept b c.view → FollowsKept b d.view
  pub marks : (s : NodeStatus) (last : Option Status) (m n : ℕ) (b : BoxPicture)
      → MarkHolds s last m n b c.view → MarkHolds s last m n b d.view

-- whether the peer is to be told of the action: of a want it is unless the port says so already
abbrev pub is_to_tell : Action → PortsPicture → Bool
is_to_tell (Want i) c = not (slice_index_or c.needed i false)
is_to_tell (Unwant i) c = false
is_to_tell (Pull i) c = true
is_to_tell (Close i) c = true
is_to_tell (Push o chunk) c = true
is_to_tell (Finish o) c = true

-- the action was carried out and its peer told, which charged it or didn't
pub record TellsPeer (t : Identity) (a : Action) (charged : Bool) (c : PortsPicture)
    (p : NodePorts) (new : NodeSeat) : Type 0 where
  pub acted : NodeSeat
  pub acts : Acted a c (ports_picture p acted) true
  pub told : PeerIsTold t (edge_of c (action_port a)) charged acted new

-- a peer that isn't to be told isn't charged
abbrev pub TellsIfDue : Bool → Identity → Action → Bool → PortsPicture → NodePorts → NodeSeat
    → Type 0
TellsIfDue true t a charged c p new = TellsPeer t a charged c p new
TellsIfDue false t a charged c p new = charged ≡ false

-- the number of a node that was charged is answered
abbrev pub carry_of : ℕ → Bool → Carry
carry_of n true = carry.Charged n
carry_of n false = carry.Told

-- An action that was taken off the view was carried out, and the peer was told. It is answered
-- exactly where that charged it: the node at the other end of the action's port.
pub record CarriesAction (t : Identity) (a : Action) (result : Carry) (c : PortsPicture)
    (p : NodePorts) (new : NodeSeat) : Type 0 where
  pub carried : HasCarriedOut (untaken a c) (ports_picture p new)
  pub fewer : p.view ≡ c.view
  pub own : is_own_port c (action_port a)
  pub charged : Bool
  pub tells : TellsIfDue (is_to_tell a c) t a charged c p new
  pub answer : result ≡ carry_of (port_edge c.sources c.targets (action_port a)) charged

-- the first action of the view was taken off and carried out
pub record CarriesFirst (t : Identity) (result : Carry) (c : PortsPicture) (p : NodePorts)
    (new : NodeSeat) : Type 0 where
  pub action : Action
  pub taken : PortsPicture
  pub is : untaken action taken ≡ c
  pub carries : CarriesAction t action result taken p new

-- the next action was carried out, if there was one
pub record CarriesNext (t : Identity) (result : Carry) (c : PortsPicture) (p : NodePorts)
    (new : NodeSeat) : Type 0 where
  pub carried : HasCarriedOut c (ports_picture p new)
  pub done : result ≡ carry.Done → (c.view.actions ≡ []) × (ports_picture p new ≡ c)
  pub first : result ≢ carry.Done → CarriesFirst t result c p new
