-- A node that was charged is one of the table's.
use Rattle.node_cells.proofs.Imports.{Board, Bool, Identity, Lane, MakesStep, None, NodePorts, NodeSeat, NodeView, IsPort, Option, Port, PortsHold, PortsPicture, SamePorts, Some, Wire, ap, arith, edge_of, end_for, end_of_view, false, is_own_port, length, ports_picture, refl, subst, sym, true, view, view-end, ℕ, ◌<◌, ◌∙◌, ◌≡◌, ◌≤◌}
use Rattle.exec_table.specs.Boards.{Holds, node_view}
use Rattle.core_laws.specs.Views.{wire_ok}
use Rattle.core_laws.specs.declared.types.Sizes.{Sizes}
use Rattle.core_laws.specs.Start.{fits}
use Rattle.core_laws.specs.Steps.{nothing}
use Rattle.core_laws.specs.declared.types.Step.TheVariants as step
use Rattle.exec_laws.specs.Names.{action_port, peer, port_edge}
use Rattle.node_ports.specs.Peers.{CarriesAction, CarriesNext, TellsIfDue, carry_of, is_to_tell}
use Rattle.node_ports.specs.Ports.{PortKnown}
use Rattle.node_ports.specs.declared.actions.Carry.{Carry}
use Rattle.node_ports.specs.declared.actions.Carry.TheVariants as carry
use Rattle.port_word.specs.declared.flags.Action.{Action}

-- an edge that an end knows has the wire that it knows
end-wire : (n : ℕ) (k : Bool) (x : Option Wire) (l : Lane) (w : Wire)
    → (end_for n k x l).wire ≡ Some w → (k ≡ true) × (x ≡ Some w)
end-wire n k x l w h = grind arith

peer-inside : (nodes : ℕ) (w : Wire) → wire_ok nodes w ≡ true → (p : Port) → peer w p < nodes
peer-inside nodes w ok p = grind arith

pub few-nodes : (s : Sizes) → fits s ≡ true → s.nodes ≤ 256
few-nodes s h = grind arith

-- the wire that a node's view has of an edge joins two of the table's nodes
view-wire : (b : Board) → Holds b → (n e : ℕ) (w : Wire)
    → (end_of_view (node_view b n) e).wire ≡ Some w → wire_ok b.core.sizes.nodes w ≡ true
view-wire b h n e w at = grind (arith, end-wire, view-end)

-- the node at the other end of a port
peer-of-port : (t : Identity) (c : PortsPicture) (seat ready : NodeSeat) → c.node ≡ view seat
    → PortsHold c → MakesStep t seat ready step.TokenIn None nothing
    → (p : Port) → is_own_port c p → port_edge c.sources c.targets p < t.sizes.nodes
peer-of-port t c seat ready is h m p own =
    let k : PortKnown c p = h.known p own in
    let same = sym m.was in
    let sizes = ap (λ (x : NodeView). x.sizes) m.now ∙ m.seat.sizes in
    let ok = view-wire m.before m.holds (view seat).number (edge_of c p) k.wire
    (ap (λ (x : NodeView). (end_of_view x (edge_of c p)).wire) (m.was ∙ sym is) ∙ k.is) in
    subst (λ i. i < t.sizes.nodes) (sym k.other)
    (peer-inside t.sizes.nodes k.wire (subst (λ z. wire_ok z k.wire ≡ true)
    (ap (λ (s : Sizes). s.nodes) sizes) ok) p)

carry-charged : (k n : ℕ) (b : Bool) → carry.Charged n ≡ carry_of k b → (b ≡ true) × (n ≡ k)
carry-charged k n b h = grind arith

pub charged-inside : (t : Identity) (c : PortsPicture) (p : NodePorts) (new : NodeSeat)
    (r : Carry) (n : ℕ) → CarriesNext t r c p new → r ≡ carry.Charged n → n < t.sizes.nodes
charged-inside t c p new r n h is =
    let first = h.first (λ d. let z : carry.Charged n ≡ carry.Done = sym is ∙ d in cc) in
    let a : CarriesAction t first.action r first.taken p new = first.carries in
    let port : Port = action_port first.action in
    let both = carry-charged _ n a.charged (sym is ∙ a.answer) in
    subst (λ i. i < t.sizes.nodes) (sym both.1) (go (is_to_tell first.action first.taken) a.charged
    both.0 first.action first.taken a.own a.tells)
  where
    go : (due charged : Bool) → charged ≡ true → (x : Action) (d : PortsPicture)
        → is_own_port d (action_port x) → TellsIfDue due t x charged d p new
        → port_edge d.sources d.targets (action_port x) < t.sizes.nodes
    go false charged rose x d own tells = absurd (let z : false ≡ true = sym tells ∙ rose in cc)
    go true charged rose x d own tells =
        let e : PortsPicture = ports_picture p tells.acted in
        let s : SamePorts d e = tells.acts.ports in
        let port : Port = action_port x in
        let below = peer-of-port t e tells.acted tells.told.marks.ready refl tells.acts.holds
        tells.told.marks.token port
        (subst (λ l. IsPort (length l) (length e.outputs) port) (sym s.inputs)
        (subst (λ l. IsPort (length d.inputs) (length l) port) (sym s.outputs) own)) in
        subst (λ l. port_edge l d.targets port < t.sizes.nodes) s.sources
        (subst (λ l. port_edge e.sources l port < t.sizes.nodes) s.targets below)
