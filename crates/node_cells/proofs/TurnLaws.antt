-- A node that has looked at its ports is prepared.
use Rattle.node_cells.proofs.Imports.{arith, Identity, InTurn, IsSeatOf, NodeCell, NodePorts, NodeSeat, SameLists, SamePorts, cell_ports, view, BoxHolds, BoxPicture, CellPicture, FollowsKept, IsDifference, Lists, MarkHolds, NodeMark, Picture, PortsHold, PortsPicture, Some, NodeTurns, ViewHolds, [], ap, append-nil, chunks_on, length, ports_picture, pulled_by, pushed_by, pushes_to, shown, subst, sym, with_pulled, with_pushed, ℕ, ◌++◌, ◌∙◌, ◌≡◌, CellNodeHolds}
use Rattle.node_ports.proofs.Shown.{quiet-sight, taken-itself}
use Rattle.exec_laws.proofs.Turns.{explained, pushed-by-actions, turned-box, turned-kept, turned-mark, turned-view}
use Rattle.exec_laws.specs.Names.{state_after}
use Rattle.node_ports.specs.Sights.{Looked}
use Rattle.node_ports.specs.Peers.{HasCarriedOut}
use Rattle.node_cells.specs.Turns.{IsDue, IsPrepared, turn_picture}
use Rattle.proc_api.specs.declared.status.Status.{Status}

abbrev pub picture : BoxPicture → NodeMark → PortsPicture → CellPicture
picture p m c = record { box = p; view = c.view; mark = m; inputs = c.inputs; outputs = c.outputs }

module _ (p q : BoxPicture) (m k : NodeMark) (c : PortsPicture) (v : Picture)
    (h : CellNodeHolds p m c) (quiet : c.view.actions ≡ [])
    (t : NodeTurns (picture p m c) (picture q k (record c { view = v }))) where
  abbrev after : PortsPicture
  after = record c { view = v }

  seen-view : ViewHolds (length c.inputs) (length c.outputs) c.view
  seen-view = record { sound = h.ports.sound; ins = h.ports.ins; outs = h.ports.outs }

  new-view : ViewHolds (length c.inputs) (length c.outputs) v
  new-view = turned-view (length c.inputs) (length c.outputs) (picture p m c) (picture q k after) t
      quiet (pulled_by c) (pushed_by c) h.box seen-view

  -- the view shows what the seat knows as its actions will leave it
  new-difference : IsDifference (shown after) v
  new-difference = grind (
    arith,
    seen-view,
    quiet-sight,
    explained (length c.inputs) (length c.outputs) (picture p m c) (picture q k after) t quiet
        (pulled_by c) (pushed_by c) h.box seen-view,
  )

  pulled-new : (i : ℕ) → with_pulled c.view t.left (pulled_by c) i ≡ pulled_by after i
  pulled-new i = grind (arith, quiet-sight, taken-itself, append-nil)

  pushed-new : (o : ℕ) → with_pushed c.view t.left (pushed_by c) o ≡ pushed_by after o
  unfolding pushes_to
  pushed-new o = (λ j. (chunks_on c.node c.outputs o ++ pushes_to o (quiet j))
      ++ pushed-by-actions (length c.inputs) (length c.outputs) (picture p m c) (picture q k after)
      t
      quiet (pulled_by c) (pushed_by c) h.box seen-view o j)
      ∙ ap (λ l. l ++ pushes_to o v.actions) (append-nil (chunks_on c.node c.outputs o))

  new-ports : PortsHold after
  new-ports = grind (arith, new-view, new-difference)

  pub turned-cell : CellNodeHolds q k after
  turned-cell = let ins = length c.inputs in let outs = length c.outputs in record {
    ports = new-ports;
    box = subst (λ (l : Lists × Lists). BoxHolds ins outs q l.0 l.1)
        (λ j. ((λ i. pulled-new i j), (λ o. pushed-new o j)))
        (turned-box ins outs (picture p m c) (picture q k after) t quiet (pulled_by c)
        (pushed_by c) h.box seen-view);
    kept = λ e. turned-kept ins outs (picture p m c) (picture q k after) t quiet (pulled_by c)
        (pushed_by c) h.box seen-view (λ f. e (marked ∙ ap state_after f));
    mark = subst (λ (z : NodeMark). MarkHolds z.state z.last ins outs q v) (sym own)
        (turned-mark ins outs (picture p m c) (picture q k after) t quiet (pulled_by c)
        (pushed_by c) h.box seen-view);
  }
    where
      own : k ≡ record { state = state_after t.answer; last = Some t.answer }
      own = ap (λ (z : CellPicture). z.mark) t.own

      marked : k.state ≡ state_after t.answer
      marked = ap (λ (z : CellPicture). z.mark.state) t.own

-- ---- the law where only ports moved

-- the box and the mark are as they were
moved-node : (p : BoxPicture) (m : NodeMark) (c d : PortsPicture) → CellNodeHolds p m c
    → PortsHold d → SameLists c d → SamePorts c d → (FollowsKept p c.view → FollowsKept p d.view)
    → MarkHolds m.state m.last (length c.inputs) (length c.outputs) p d.view → CellNodeHolds p m d
moved-node p m c d h ports lists same follows mark = record {
  ports = ports;
  box = subst (λ (l : (ℕ × ℕ) × (Lists × Lists)). BoxHolds l.0.0 l.0.1 p l.1.0 l.1.1)
      (λ j. (
        (length (sym same.inputs j), length (sym same.outputs j)),
        ((λ i. sym (lists.pulled i) j), (λ o. sym (lists.pushed o) j)),
      )) h.box;
  kept = λ k. follows (h.kept k);
  mark = subst (λ (k : ℕ × ℕ). MarkHolds m.state m.last k.0 k.1 p d.view)
      (λ j. (length (sym same.inputs j), length (sym same.outputs j))) mark;
}

pub looked-due : {P : Type 0} (seen : P → BoxPicture) (t : Identity) (c : NodeCell P)
    (p : NodePorts) (s : NodeSeat) → IsDue seen t c → IsSeatOf t s
    → Looked (cell_ports c) (ports_picture p s)
    → IsDue seen t (record c { ports = p; seat = s })
looked-due seen t c p s h seat l = record {
  holds = record {
    cell = record {
      seat = seat;
      node = moved-node (seen c.processor) c.mark (cell_ports c) (ports_picture p s)
          h.holds.cell.node l.may.holds l.lists l.ports (l.follows (seen c.processor))
          (subst (λ s. MarkHolds s c.mark.last (length (cell_ports c).inputs)
          (length (cell_ports c).outputs) (seen c.processor) p.view) (sym h.due) tt);
    };
    turn = l.may.turn;
    stage = l.stage ∙ h.holds.stage;
  };
  quiet = l.may.quiet;
  due = h.due;
}

pub cell-prepared : {P : Type 0} (seen : P → BoxPicture) (t : Identity) (old new : NodeCell P)
    (s : Status) → IsDue seen t old → (view old.seat).state.unlooked ≡ []
    → NodeTurns (turn_picture seen old) (turn_picture seen new)
    → new.mark ≡ record { state = state_after s; last = Some s }
    → cell_ports new ≡ record (cell_ports old) { view = new.ports.view } → new.seat ≡ old.seat
    → IsPrepared seen t new s
cell-prepared seen t old new s h looked turns mark ports seat = record {
  holds = record {
    cell = record {
      seat = subst (IsSeatOf t) (sym seat) h.holds.cell.seat;
      node = subst (CellNodeHolds (seen new.processor) new.mark) (sym ports)
          (turned-cell (seen old.processor) (seen new.processor) old.mark new.mark (cell_ports old)
          new.ports.view h.holds.cell.node h.quiet
          (subst (λ d. NodeTurns (turn_picture seen old) (picture (seen new.processor) new.mark d))
          ports turns));
    };
    turn = subst (λ s. InTurn (view s)) (sym seat) h.holds.turn;
    stage = ap (λ s. (view s).stage) seat ∙ h.holds.stage;
  };
  mark = mark;
  looked = ap (λ s. (view s).state.unlooked) seat ∙ looked;
}

-- ---- the law where actions are carried out

pub carried-prepared : {P : Type 0} (seen : P → BoxPicture) (t : Identity) (c : NodeCell P)
    (p : NodePorts) (s : NodeSeat) (answer : Status) → IsPrepared seen t c answer → IsSeatOf t s
    → HasCarriedOut (cell_ports c) (ports_picture p s)
    → IsPrepared seen t (record c { ports = p; seat = s }) answer
carried-prepared seen t c p s answer h seat l = let node = h.holds.cell.node in record {
  holds = record {
    cell = record {
      seat = seat;
      node = moved-node (seen c.processor) c.mark (cell_ports c) (ports_picture p s) node
          l.may.holds l.lists l.ports (l.follows (seen c.processor))
          (l.marks c.mark.state c.mark.last (length (cell_ports c).inputs)
          (length (cell_ports c).outputs) (seen c.processor) node.mark);
    };
    turn = l.may.turn;
    stage = l.stage ∙ h.holds.stage;
  };
  mark = h.mark;
  looked = l.unlooked ∙ h.looked;
}
