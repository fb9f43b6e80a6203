-- The processor works, or fetches.
use Rattle.node_cells.proofs.Imports.{arith, Identity, BoxHolds, BoxPicture, MarkHolds, NodeCell, CellNodeHolds, NodeMark, PortsPicture, cell_ports, length, pulled_by, pushed_by, rules, subst, sym, ℕ, ◌∙◌, ◌≡◌, ◌≢◌}
use Rattle.node_cells.specs.Turns.{AtHome, IsAtWork, IsDue, Wakes, WakesTo, call_after}
use Rattle.exec_laws.specs.Names.{Acts, MayCall}
use Rattle.exec_laws.specs.declared.edges.DueCall.{DueCall}
use Rattle.exec_laws.specs.declared.edges.DueCall.TheVariants as call
use Rattle.exec_laws.specs.declared.edges.NodeStatus.TheVariants as node
use Rattle.proc_api.specs.declared.status.Wake.{Wake}
use Rattle.proc_api.proofs.Follows.{follows-same}

acts-box : (m n : ℕ) (p q : BoxPicture) (c : PortsPicture) → Acts p q
    → BoxHolds m n p (pulled_by c) (pushed_by c) → BoxHolds m n q (pulled_by c) (pushed_by c)
acts-box m n p q c a h = search (rules, a, h)

-- the law after a call
pub acted-node : (p q : BoxPicture) (m k : NodeMark) (c : PortsPicture) → CellNodeHolds p m c
    → Acts p q → m.state ≢ node.Over
    → MarkHolds k.state k.last (length c.inputs) (length c.outputs) q c.view → CellNodeHolds q k c
acted-node p q m k c h a busy mark = record {
  ports = h.ports;
  box = acts-box (length c.inputs) (length c.outputs) p q c a h.box;
  kept = λ _. follows-same p q c.view a.view (h.kept (λ o. absurd (busy o)));
  mark = mark;
}

not-over : {P : Type 0} (seen : P → BoxPicture) (t : Identity) (d : DueCall) (c : NodeCell P)
    → IsAtWork seen t d c → c.mark.state ≢ node.Over
not-over seen t d c h o = let z : node.AtWork d ≡ node.Over = sym h.at_work ∙ o in cc

due-mark : (k : NodeMark) (c : PortsPicture) (q : BoxPicture) → k.state ≡ node.Due
    → MarkHolds k.state k.last (length c.inputs) (length c.outputs) q c.view
due-mark k c q due = grind arith

called-due : {P : Type 0} (seen : P → BoxPicture) (t : Identity) (d : DueCall) (c : NodeCell P)
    (q : P) (k : NodeMark) → IsAtWork seen t d c → CellNodeHolds (seen q) k (cell_ports c)
    → k.state ≡ node.Due → IsDue seen t (record c { processor = q; mark = k })
called-due seen t d c q k h node due = grind arith

pub worked-due : {P : Type 0} (seen : P → BoxPicture) (t : Identity) (c : NodeCell P) (q : P)
    (k : NodeMark) → IsAtWork seen t call.Work c → Acts (seen c.processor) (seen q)
    → k.state ≡ node.Due → IsDue seen t (record c { processor = q; mark = k })
worked-due seen t c q k h a due = called-due seen t call.Work c q k h
    (acted-node (seen c.processor) (seen q) c.mark k (cell_ports c) h.holds.cell.node a
    (not-over seen t call.Work c h) (due-mark k (cell_ports c) (seen q) due)) due

may-after : (a : Wake) (p q : BoxPicture) → Wakes a p q → MayCall (call_after a) q
may-after a p q w = grind arith

-- a node that is due a call may go home
pub at-work-home : {P : Type 0} (seen : P → BoxPicture) (t : Identity) (d : DueCall)
    (c : NodeCell P) → IsAtWork seen t d c → AtHome seen t c
at-work-home seen t d c h = grind arith

module _ {P : Type 0} (seen : P → BoxPicture) (t : Identity) (c : NodeCell P) (q : P)
    (k : NodeMark) (h : IsAtWork seen t call.Schedule c) (a : Wake)
    (w : Wakes a (seen c.processor) (seen q)) (at : k.state ≡ node.AtWork (call_after a)) where
  abbrev after : NodeCell P
  after = record c { processor = q; mark = k }

  still-at-work : IsAtWork seen t (call_after a) after
  still-at-work = record {
    holds = record {
      cell = record {
        seat = h.holds.cell.seat;
        node = acted-node (seen c.processor) (seen q) c.mark k (cell_ports c) h.holds.cell.node
            w.acts
            (not-over seen t call.Schedule c h)
            (subst (λ s. MarkHolds s k.last (length (cell_ports c).inputs)
            (length (cell_ports c).outputs) (seen q) (cell_ports c).view) (sym at)
            (may-after a (seen c.processor) (seen q) w));
      };
      turn = h.holds.turn;
      stage = h.holds.stage;
    };
    quiet = h.quiet;
    at_work = at;
  }

pub wake_keeps_turn : {P : Type 0} (seen : P → BoxPicture) (t : Identity) (c : NodeCell P) (q : P)
    (k : NodeMark) → IsAtWork seen t call.Schedule c → (a : Wake)
    → Wakes a (seen c.processor) (seen q) → k.state ≡ node.AtWork (call_after a)
    → WakesTo seen t a (record c { processor = q; mark = k })
wake_keeps_turn seen t c q k h a w at = grind (arith, still-at-work, at-work-home)
