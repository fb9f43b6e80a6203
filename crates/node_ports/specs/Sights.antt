-- A node looks at one of its ports.
use Rattle.std.specs.Prelude.{Bool, None, Option, Some, [], cond, false, length, nat_lt, not, true, ℕ, ◌-◌, ◌&&◌, ◌<◌, ◌≡◌, ◌≢◌}
use Rattle.node_ports.specs.Prelude.{Identity, BoxPicture, Flags, FollowsKept, Input, IsSeatOf, NodePorts, NodeSeat, Output, Picture, Port, Table, end_of_view, has, input_at, slot_of, view}
use Rattle.node_ports.specs.Ports.{PortsHold, PortsPicture, edge_of, ports_picture}
use Rattle.node_ports.specs.Actions.{InTurn, SameLists, SamePorts}

-- the node is in a turn, and no action waits
pub record MayLook (c : PortsPicture) : Type 0 where
  pub holds : PortsHold c
  pub turn : InTurn c.node
  pub quiet : c.view.actions ≡ []

-- whether the view has a chunk at the port
abbrev pub has_chunk : Port → Picture → Bool
has_chunk (Input i) v = (input_at v i).flags.has_data && not (input_at v i).flags.fin_in
has_chunk (Output o) v = false

-- whether a chunk is to be lifted out of the port's slot: data lies at an open input, of which the
-- view has no chunk
abbrev pub is_lift_due : Port → Bool → Flags → Bool
is_lift_due (Input i) had f = f.has_data && (not f.fin_in && not had)
is_lift_due (Output o) had f = false

-- the chunk was lifted out of the slot, where that was due
pub record Lifts (t : Identity) (e : ℕ) (due : Bool) (old new : NodeSeat)
    (chunk : Option Table) : Type 0 where
  pub seat : IsSeatOf t new
  pub same : view new ≡ view old
  pub others : (d : ℕ) → d ≢ e → slot_of new d ≡ slot_of old d
  pub left : due ≡ false → (chunk ≡ None) × (slot_of new e ≡ slot_of old e)
  pub lifted : due ≡ true → (c : Table) × (chunk ≡ Some c)
      × ((end_of_view (view old) e).turn ≡ Some (Some c)) × (slot_of new e ≡ Some None)

-- the node has looked at some of its ports, and its view shows them as they were then
pub record Looked (c d : PortsPicture) : Type 0 where
  pub may : MayLook d
  pub lists : SameLists c d
  pub ports : SamePorts c d
  pub stage : d.node.stage ≡ c.node.stage
  pub fewer : (e : ℕ) → has e c.node.state.unlooked ≡ false → has e d.node.state.unlooked ≡ false
  pub follows : (b : BoxPicture) → FollowsKept b c.view → FollowsKept b d.view

-- the port is one of them
pub record LookedAt (p : Port) (c d : PortsPicture) : Type 0 where
  pub looked : Looked c d
  pub here : has (edge_of c p) d.node.state.unlooked ≡ false

-- the port with this number, where the outputs come after the inputs
abbrev pub nth_port : ℕ → ℕ → Port
nth_port ins k = cond (nat_lt k ins) (Input k) (Output (k - ins))

-- the first so many ports are among them
pub record LookedBelow (k : ℕ) (c d : PortsPicture) : Type 0 where
  pub looked : Looked c d
  pub below : (i : ℕ) → i < k
      → has (edge_of c (nth_port (length c.inputs) i)) d.node.state.unlooked ≡ false

-- all of them
pub record LookedAll (c d : PortsPicture) : Type 0 where
  pub looked : Looked c d
  pub none : d.node.state.unlooked ≡ []

-- a loop over the ports, before the port k
pub record LooksOn (t : Identity) (k : ℕ) (c : PortsPicture) (p : NodePorts)
    (s : NodeSeat) : Type 0 where
  pub seat : IsSeatOf t s
  pub looked : LookedBelow k c (ports_picture p s)
