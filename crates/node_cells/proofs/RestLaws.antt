-- A node leaves its turn, or begins another.
use Rattle.node_cells.proofs.Imports.{StepAnswer, Identity, SameLists, is_over_stage, is_unborn_stage, BoxHolds, BoxPicture, InTurn, IsSeatOf, Lists, MakesStep, MakesUpdated, NodeCell, CellNodeHolds, NodeMark, NodePorts, NodeSeat, None, PortsPicture, SeatState, ap, arith, cell_ports, edges_of, false, is_due, is_waiting, length, nothing, ports_picture, refl, state-made, subst, sym, true, updated, view, ℕ, ◌∙◌, ◌≡◌, ◌≢◌}
use Rattle.exec_table.proofs.Ends.{stage-made}
use Rattle.node_cells.proofs.UpdatedLaws.{taken-updated}
use Rattle.node_ports.proofs.StillLaws.{StaysSeat, still-holds, still-lists, still-quiet, still-seat}
use Rattle.node_ports.specs.Ports.{IsMerged}
use Rattle.exec_table.proofs.Hands.{may_learn}
use Rattle.exec_table.specs.Known.{core_state_after as seat_after, is_at, stage_after}
use Rattle.exec_table.specs.declared.types.Updated.{Updated}
use Rattle.core_laws.specs.declared.types.Step.{Step}
use Rattle.std.specs.List.{filter}
use Rattle.node_cells.specs.Turns.{AtHome, IsCarried, IsDue}
use Rattle.exec_table.specs.declared.types.Stage.{Stage}
use Rattle.exec_table.specs.declared.types.Stage.TheVariants.{Begun}
use Rattle.core_laws.specs.Steps.{is_idle, left}
use Rattle.core_laws.specs.declared.types.Step.TheVariants as step
use Rattle.exec_laws.specs.declared.edges.NodeStatus.TheVariants as node
use Rattle.proc_api.specs.declared.status.Status.{Status}

-- the node's law stands, where these are the updated ports
pub still-node : (b : BoxPicture) (m : NodeMark) (p : NodePorts) (u : Updated) (old new : NodeSeat)
    → CellNodeHolds b m (ports_picture p old) → StaysSeat p u old new
    → CellNodeHolds b m (ports_picture (record p { updated = u }) new)
still-node b m p u old new h k = record {
  ports = still-holds p u old new h.ports k;
  box = subst (λ (l : Lists × Lists). BoxHolds (length p.inputs.items) (length p.outputs.items) b
      l.0 l.1) (λ j. ((λ i. sym (lists.pulled i) j), (λ o. sym (lists.pushed o) j))) h.box;
  kept = h.kept;
  mark = h.mark;
}
  where
    lists : SameLists (ports_picture p old) (ports_picture (record p { updated = u }) new)
    lists = still-lists p u old new h.ports k

module _ (b : BoxPicture) (m : NodeMark) (p : NodePorts) {t : Identity} {old new : NodeSeat}
    {s : Step} {a : StepAnswer} (h : CellNodeHolds b m (ports_picture p old)) (o : IsSeatOf t old)
    (w : MakesStep t old new s None a) (plain : may_learn s ≡ false)
    (nowhere : (d : ℕ) → is_at d s ≡ false) where
  -- after a step of the seat that leaves the same edges unlooked
  pub quiet-node : (seat_after (view old) s a).unlooked ≡ (view old).state.unlooked
      → CellNodeHolds b m (ports_picture p new)
  quiet-node same = still-node b m p p.updated old new h
      (still-quiet h.ports o w plain nowhere same)

-- after one that takes the node's word, the ports that the word names are updated ones besides
pub taken-node : (b : BoxPicture) (m : NodeMark) (p : NodePorts) {t : Identity} {old new : NodeSeat}
    {s : Step} {u : Updated} → CellNodeHolds b m (ports_picture p old) → IsSeatOf t old
    → (w : MakesUpdated t old new s u) → may_learn s ≡ false → ((d : ℕ) → is_at d s ≡ false)
    → (seat_after (view old) s (updated w.word)).unlooked
    ≡ filter (is_due (view old) w.word) (edges_of (view old).state.seen)
    → (v : Updated) → IsMerged p.updated u v
    → CellNodeHolds b m (ports_picture (record p { updated = v }) new)
taken-node b m p {t} {old} {new} h o w plain nowhere taken v merged = still-node b m p v old new h
    (still-seat o w.makes plain nowhere (taken-updated p h.ports o w taken v merged))

-- and with another mark
pub due-node : (b : BoxPicture) (m k : NodeMark) (c : PortsPicture) → CellNodeHolds b m c
    → m.state ≢ node.Over → k.state ≡ node.Due → CellNodeHolds b k c
due-node b m k c h busy due = grind arith

-- ---- a node rests

module _ {P : Type 0} (seen : P → BoxPicture) (t : Identity) (old : NodeCell P) (s : Status)
    (h : IsCarried seen t old s) (mid new : NodeSeat) where
  abbrev law : CellNodeHolds (seen old.processor) old.mark (cell_ports old)
  law = h.prepared.holds.cell.node

  abbrev at : IsSeatOf t old.seat
  at = h.prepared.holds.cell.seat

  abbrev turn : InTurn (view old.seat)
  turn = h.prepared.holds.turn

  -- a step by which the node leaves its turn, and the token that it got is taken back
  pub left-home : {p : Step} {a : StepAnswer} → (m : MakesStep t old.seat mid p None a)
      → may_learn p ≡ false → ((d : ℕ) → is_at d p ≡ false)
      → seat_after (view old.seat) p a ≡ left 0 (view old.seat).state
      → MakesStep t mid new step.TokenOut None nothing → (g : Stage) → stage_after Begun p ≡ g
      → is_waiting old.mark.state ≡ false → (old.mark.state ≡ node.Resting → g ≡ Begun)
      → (is_over_stage g ≡ true → old.mark.state ≡ node.Over) → is_unborn_stage g ≡ false
      → AtHome seen t (record old { seat = new })
  left-home {p} {a} m plain nowhere leaves r g staged still begun over born = record {
    cell = record {
      seat = r.seat;
      node = let b = seen old.processor in quiet-node b old.mark old.ports
          (quiet-node b old.mark old.ports law at m plain nowhere
          (ap (λ (z : SeatState). z.unlooked) leaves)) m.seat r refl (λ _. refl) refl;
    };
    home = record {
      actions = h.quiet;
      tokens = let a = ap (λ (z : SeatState). z.tokens) state-mid in
          let b = ap (λ (z : SeatState). z.tokens) (state-made m.seat r) in let z = turn.tokens in
          omega (arith, a, b, z);
      owes = ap (λ (z : SeatState). z.owes) (state-made m.seat r)
          ∙ (ap (λ (z : SeatState). z.owes) state-mid ∙ turn.owes);
      waits = λ w. absurd (let z : true ≡ false = sym w ∙ still in cc);
      idle = λ _. ap (λ (z : SeatState). z.held) (state-made m.seat r)
          ∙ ap (λ (z : SeatState). z.held) state-mid;
      begun = λ q. stage-new ∙ begun q;
      looked = λ _. ap (λ (z : SeatState). z.unlooked) (state-made m.seat r)
          ∙ (ap (λ (z : SeatState). z.unlooked) state-mid ∙ h.prepared.looked);
      over = λ o. over (sym (ap is_over_stage stage-new) ∙ o);
      unborn = λ o. absurd (let z : true ≡ false = sym o ∙ (ap is_unborn_stage stage-new ∙ born)
          in cc);
    };
  }
    where
      state-mid : (view mid).state ≡ left 0 (view old.seat).state
      state-mid = state-made at m ∙ leaves

      stage-new : (view new).stage ≡ g
      stage-new = grind (arith, stage-made m.seat r, stage-made at m)

  pub rested-due : (v u : Updated) (k : NodeMark)
      → MakesStep t old.seat mid step.Rest None (is_idle false)
      → MakesUpdated t mid new step.Again u → IsMerged old.ports.updated u v
      → old.mark.state ≡ node.Resting → k.state ≡ node.Due
      → IsDue seen t (record old { seat = new; mark = k; ports = record old.ports { updated = v } })
  rested-due v u k m r merged rests due = record {
    holds = record {
      cell = record {
        seat = r.makes.seat;
        node = due-node (seen old.processor) old.mark k
            (ports_picture (record old.ports { updated = v }) new)
            (taken-node (seen old.processor) old.mark old.ports first m.seat r refl (λ _. refl)
            refl v merged)
            (λ o. let z : node.Resting ≡ node.Over = sym rests ∙ o in cc) due;
      };
      turn = record {
        held = ap (λ (z : SeatState). z.held) (state-made m.seat r.makes);
        owes = ap (λ (z : SeatState). z.owes) (state-made m.seat r.makes)
            ∙ (ap (λ (z : SeatState). z.owes) state-mid ∙ turn.owes);
        tokens = let a = ap (λ (z : SeatState). z.tokens) state-mid in
            let b = ap (λ (z : SeatState). z.tokens) (state-made m.seat r.makes) in
            let z = turn.tokens in omega (arith, a, b, z);
      };
      stage = stage-made m.seat r.makes ∙ (stage-made at m ∙ h.prepared.holds.stage);
    };
    quiet = h.quiet;
    due = due;
  }
    where
      state-mid : (view mid).state ≡ (view old.seat).state
      state-mid = state-made at m

      first : CellNodeHolds (seen old.processor) old.mark (ports_picture old.ports mid)
      first = quiet-node (seen old.processor) old.mark old.ports law at m refl (λ _. refl) refl
