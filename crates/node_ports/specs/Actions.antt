-- What is carried out at a port.
use Rattle.std.specs.Prelude.{Bool, [], cond, true, ℕ, ◌∷◌, ◌≡◌}
use Rattle.node_ports.specs.Prelude.{Action, Close, Finish, IsSound, NodeView, Pull, Push, Unwant, Want, end_of_view}
use Rattle.node_ports.specs.Ports.{PortsHold, PortsPicture, edge_of, pulled_by, pushed_by}
use Rattle.exec_laws.specs.Names.{action_port}
use Rattle.core_laws.specs.declared.types.Step.{Step}
use Rattle.core_laws.specs.declared.types.Step.TheVariants as step
unfoldable use Rattle.port_word.specs.Names.{with_actions}

-- the step of the table that carries the action out at the edge, on which so many chunks were moved
abbrev pub step_of : Action → ℕ → ℕ → Step
step_of (Want i) e k = step.Want e
step_of (Unwant i) e k = step.Unwant e
step_of (Pull i) e k = step.Pull e
step_of (Close i) e k = step.ClosePort e
step_of (Push o chunk) e k = step.Push e k
step_of (Finish o) e k = step.Finish e

-- the picture before the action was taken off the view
abbrev pub untaken : Action → PortsPicture → PortsPicture
untaken a c = record c {
  view = record { inputs = c.view.inputs; outputs = c.view.outputs; actions = a ∷ c.view.actions };
}

-- a node in a turn, which owes nothing and has no token
pub record InTurn (x : NodeView) : Type 0 where
  pub held : x.state.held ≡ true
  pub owes : x.state.owes ≡ []
  pub tokens : x.state.tokens ≡ 0

-- the action was taken off the view, and is yet to be carried out
pub record MayAct (a : Action) (c : PortsPicture) : Type 0 where
  pub holds : PortsHold (untaken a c)
  pub sound : IsSound c.view
  pub turn : InTurn c.node

-- what was pulled and pushed is what it was
pub record SameLists (c d : PortsPicture) : Type 0 where
  pub pulled : (i : ℕ) → pulled_by d i ≡ pulled_by c i
  pub pushed : (o : ℕ) → pushed_by d o ≡ pushed_by c o

-- the ports are the same ones, at the same edges, and each edge has the wire that it had
pub record SamePorts (c d : PortsPicture) : Type 0 where
  pub inputs : d.inputs ≡ c.inputs
  pub outputs : d.outputs ≡ c.outputs
  pub sources : d.sources ≡ c.sources
  pub targets : d.targets ≡ c.targets
  pub number : d.node.number ≡ c.node.number
  pub wires : (e : ℕ) → (end_of_view d.node e).wire ≡ (end_of_view c.node e).wire

-- the action was carried out at its port; the node owes a telling of it, or doesn't
pub record Acted (a : Action) (c d : PortsPicture) (owed : Bool) : Type 0 where
  pub holds : PortsHold d
  pub lists : SameLists (untaken a c) d
  pub ports : SamePorts c d
  pub view : d.view ≡ c.view
  pub stage : d.node.stage ≡ c.node.stage
  pub held : d.node.state.held ≡ true
  pub tokens : d.node.state.tokens ≡ 0
  pub unlooked : d.node.state.unlooked ≡ c.node.state.unlooked
  pub owes : d.node.state.owes ≡ cond owed (edge_of c (action_port a) ∷ []) []
