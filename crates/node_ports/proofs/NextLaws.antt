-- An action is carried out and its peer told.
use Rattle.node_ports.proofs.Imports.{Identity, Acted, Action, Bool, BoxPicture, EdgeEnd, FollowsKept, MarkHolds, MayAct, NodePorts, NodeSeat, NodeStatus, Option, Picture, PortsHold, PortsPicture, SamePorts, Some, TakesFirstAction, action_port, ap, edge_of, edges_of, false, has, port_edge, ports_picture, refl, subst, sym, true, untaken, view, ℕ, ◌∙◌, ◌≡◌, ◌≢◌}
use Rattle.node_ports.proofs.Shown.{still-updated}
use Rattle.node_ports.proofs.StillLaws.{StaysSeat, still-holds, still-lists}
use Rattle.node_ports.proofs.LoopLaws.{lists-both, ports-both}
use Rattle.node_ports.specs.Peers.{CarriesAction, HasCarriedOut, PeerIsTold, TellsIfDue, carry_of, is_to_tell}
use Rattle.node_ports.proofs.ActLaws.{own-port}
use Rattle.node_ports.specs.declared.actions.Carry.{Carry}
use Rattle.node_ports.specs.declared.actions.Carry.TheVariants as carry
use Rattle.exec_laws.proofs.Carrying.{mark-taken}
use Rattle.proc_api.proofs.Follows.{follows-taken}
use Rattle.proc_api.specs.declared.status.Status.{Status}
unfoldable use Rattle.port_word.specs.Names.{with_actions}

-- the law stands after the peer was told
told-stays : {t : Identity} {e : ℕ} {b : Bool} (p : NodePorts) (mid new : NodeSeat)
    → PortsHold (ports_picture p mid) → PeerIsTold t e b mid new → StaysSeat p p.updated mid new
told-stays p mid new h w = record {
  number = w.number;
  edges = ap edges_of w.edges;
  unlooked = still-updated (ports_picture p mid) h (view new).state.unlooked
      (λ e q. ap (has e) (sym w.unlooked) ∙ q);
  same = w.same;
}

-- what taking an action off the view leaves
taken-follows : (a : Action) (c : PortsPicture) (b : BoxPicture) → FollowsKept b (untaken a c).view
    → FollowsKept b c.view
unfolding with_actions
taken-follows a c b f = follows-taken b (untaken a c).view c.view.actions f

taken-marks : (a : Action) (c : PortsPicture) (s : NodeStatus) (last : Option Status) (m n : ℕ)
    (b : BoxPicture) → MarkHolds s last m n b (untaken a c).view → MarkHolds s last m n b c.view
unfolding with_actions
taken-marks a c s last m n b h = mark-taken s last m n b (untaken a c).view c.view.actions h

untaken-ports : (a : Action) (c d : PortsPicture) → SamePorts c d → SamePorts (untaken a c) d
untaken-ports a c d h = record {
  inputs = h.inputs;
  outputs = h.outputs;
  sources = h.sources;
  targets = h.targets;
  number = h.number;
  wires = h.wires;
}

module _ (a : Action) (c d : PortsPicture) (h : Acted a c d false) where
  pub carried-free : HasCarriedOut (untaken a c) d
  carried-free = record {
    may = record {
      holds = h.holds;
      turn = record { held = h.held; owes = h.owes; tokens = h.tokens };
    };
    lists = h.lists;
    ports = untaken-ports a c d h.ports;
    stage = h.stage;
    unlooked = h.unlooked;
    follows = λ b f. subst (FollowsKept b) (sym h.view) (taken-follows a c b f);
    marks = λ s last m n b k. subst (MarkHolds s last m n b) (sym h.view)
        (taken-marks a c s last m n b k);
  }

module _ {t : Identity} {e : ℕ} {b : Bool} (p : NodePorts) {mid new : NodeSeat} (a : Action)
    (c : PortsPicture) (h : Acted a c (ports_picture p mid) true) where
  pub carried-told : PeerIsTold t e b mid new → HasCarriedOut (untaken a c) (ports_picture p new)
  carried-told w = let stays = told-stays p mid new h.holds w in record {
    may = record {
      holds = still-holds p p.updated mid new h.holds stays;
      turn = w.turn;
    };
    lists = lists-both (untaken a c) (ports_picture p mid) (ports_picture p new) h.lists
        (still-lists p p.updated mid new h.holds stays);
    ports = ports-both (untaken a c) (ports_picture p mid) (ports_picture p new)
        (untaken-ports a c (ports_picture p mid) h.ports) (record {
          inputs = refl;
          outputs = refl;
          sources = refl;
          targets = refl;
          number = w.number;
          wires = λ e. ap (λ (z : EdgeEnd). z.wire) (w.same e).end;
        });
    stage = w.stage ∙ h.stage;
    unlooked = w.unlooked ∙ h.unlooked;
    follows = λ b f. subst (FollowsKept b) (sym h.view) (taken-follows a c b f);
    marks = λ st last m n b k. subst (MarkHolds st last m n b) (sym h.view)
        (taken-marks a c st last m n b k);
  }

module _ {t : Identity} (p : NodePorts) {mid new : NodeSeat} {a : Action} {c : PortsPicture}
    (may : MayAct a c) (h : Acted a c (ports_picture p mid) true) (due : true ≡ is_to_tell a c)
    {e : ℕ} {b : Bool} (w : PeerIsTold t e b mid new) (at : e ≡ edge_of c (action_port a)) where
  -- the peer was told, and is answered where that charged it
  pub carries-told : {n : ℕ} {r : Carry} → n ≡ port_edge c.sources c.targets (action_port a)
      → r ≡ carry_of n b → CarriesAction t a r c p new
  carries-told q answer = record {
    carried = carried-told p a c h w;
    fewer = h.view;
    own = own-port a c may;
    charged = b;
    tells = subst (λ d. TellsIfDue d t a b c p new) due (record {
      acted = mid;
      acts = h;
      told = subst (λ e. PeerIsTold t e b mid new) at w;
    });
    answer = answer ∙ ap (λ n. carry_of n b) q;
  }

-- ---- the next action

module _ (c : PortsPicture) (v : Picture) (a : Action)
    (t : TakesFirstAction c.view (Some a) v) where
  abbrev taken : PortsPicture
  taken = record c { view = v }

  pub untaken-is : untaken a taken ≡ c
  unfolding with_actions
  untaken-is = λ j. record c {
    view = record {
      inputs = (t.1 j).inputs;
      outputs = (t.1 j).outputs;
      actions = (sym t.0) j;
    };
  }

-- what an action that was carried out answers isn't that there was none
pub not-done : (n : ℕ) (b : Bool) {r : Carry} → r ≡ carry_of n b → r ≢ carry.Done
not-done n true e d = let z : carry.Charged n ≡ carry.Done = sym e ∙ d in cc
not-done n false e d = let z : carry.Told ≡ carry.Done = sym e ∙ d in cc
