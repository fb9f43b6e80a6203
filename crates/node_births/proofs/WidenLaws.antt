-- A node that grew may be prepared again once it has all its new ports.
use Rattle.node_births.proofs.Imports.{ArePortsOf, AsksToGrow, AtWork, BoxHolds, BoxPicture, Due, Expand, FollowsKept, Gains, GetsPorts, GrowthForm, HasWidened, Identity, IsAtWork, IsDue, IsGrowing, IsSeatOf, IsTrue, List, Lists, NodeCell, NodeMark, NodePorts, NodeSeat, Over, Wire, [], ap, arith, cell_ports, false, follows-same, follows-wide, get_or, grew-list, grown-counts, has_wrong_end, input_count, length, list_any, new_wires, output_count, ports-before, ports_picture, pulled_by, pushed_by, subst, sym, true, view, ℕ, ◌<◌, ◌∙◌, ◌≡◌, ◌≢◌}
use Rattle.node_births.proofs.GainLaws.{gains-both}

-- its box was asked by what the graph grows
pub asked-to-grow : {P : Type 0} (seen : P → BoxPicture) (t : Identity) (c : NodeCell P)
    → IsAtWork seen t Expand c → AsksToGrow (seen c.processor)
asked-to-grow seen t c h = rw h.at_work at h.holds.cell.node.mark

module _ {P : Type 0} (seen : P → BoxPicture) (t : Identity) (g : GrowthForm) (c d : NodeCell P)
    (w : HasWidened seen t g c d) where
  abbrev p : BoxPicture
  p = seen c.processor

  abbrev q : BoxPicture
  q = seen d.processor

  abbrev ins : ℕ
  ins = length c.ports.inputs.items

  abbrev outs : ℕ
  outs = length c.ports.outputs.items

  here : BoxHolds ins outs p (pulled_by (cell_ports c)) (pushed_by (cell_ports c))
  here = w.growing.asked.holds.cell.node.box

  asks : AsksToGrow p
  asks = asked-to-grow seen t c w.growing.asked

  was : IsTrue q.lawful → IsTrue p.lawful
  was l = sym w.growing.grew.same.lawful ∙ l

  before : IsTrue q.lawful → ArePortsOf q.spec q.growth (length d.ports.inputs.items)
      (length d.ports.outputs.items) → ArePortsOf p.spec p.growth ins outs
  before l k = rw (asks.comes (was l)).ungrown (ports-before p.spec p.files g ins outs
      (w.growing.grew.grows (was l))
      (rw (w.growing.grew.same.spec, w.growing.grew.growth, w.inputs, w.outputs) at k))

  box : BoxHolds (length d.ports.inputs.items) (length d.ports.outputs.items) q
      (pulled_by (cell_ports d)) (pushed_by (cell_ports d))
  box = subst (λ (l : Lists × Lists). BoxHolds (length d.ports.inputs.items)
      (length d.ports.outputs.items) q l.0 l.1) (λ j. (
        (λ i. sym (w.growing.gains.lists.pulled i) j),
        (λ o. sym (w.growing.gains.lists.pushed o) j),
      )) record {
        running = record {
          loaded = rw w.growing.grew.same.spec here.running.loaded;
          faultless = w.growing.grew.faultless;
          not_handed_out = w.growing.grew.not_handed_out;
        };
        still = λ l. rw (
          w.growing.grew.same.spec,
          (grew-list p.spec p.files g (w.growing.grew.grows (was l))).is,
        ) tt;
        fits = λ l k. w.growing.grew.fits ∙ here.fits (was l) (before l k);
        keeps = λ l k. w.growing.grew.keeps (was l) _ _ (here.keeps (was l) (before l k));
        nothing_past = λ i le. here.nothing_past i (omega (arith, le, w.inputs));
        nothing_pushed_past = λ o le. here.nothing_pushed_past o (omega (arith, le, w.outputs));
      }

  follows : FollowsKept q d.ports.view
  follows = follows-same p q d.ports.view w.growing.grew.view (subst (FollowsKept p) (sym
      w.growing.gains.view) (follows-wide c.ports.view _ _
      (omega (arith, w.growing.asked.holds.cell.node.ports.ins, w.inputs))
      (omega (arith, w.growing.asked.holds.cell.node.ports.outs, w.outputs)) p
      (w.growing.asked.holds.cell.node.kept (λ over.
      let f : AtWork Expand ≡ Over = sym w.growing.asked.at_work ∙ over in absurd (cc)))))

  pub widened-due : (k : NodeMark) → k.state ≡ Due → IsDue seen t (record d { mark = k })
  widened-due k due = record {
    holds = record {
      cell = record {
        seat = w.growing.seat;
        node = record {
          ports = w.growing.gains.may.holds;
          box = box;
          kept = λ _. follows;
          mark = rw due tt;
        };
      };
      turn = record {
        held = w.growing.gains.held ∙ w.growing.asked.holds.turn.held;
        owes = w.growing.gains.owes ∙ w.growing.asked.holds.turn.owes;
        tokens = w.growing.gains.tokens ∙ w.growing.asked.holds.turn.tokens;
      };
      stage = w.growing.gains.stage ∙ w.growing.asked.holds.stage;
    };
    quiet = w.growing.gains.may.quiet;
    due = due;
  }

-- ---- how it gets them

-- with more ports
pub grows-on : {P : Type 0} (seen : P → BoxPicture) (t : Identity) (g : GrowthForm)
    (c old : NodeCell P) (ports : NodePorts) (seat : NodeSeat) → IsGrowing seen t g c old
    → IsSeatOf t seat → Gains (cell_ports old) (ports_picture ports seat)
    → IsGrowing seen t g c (record old { ports = ports; seat = seat })
grows-on seen t g c old ports seat was at gains = record {
  asked = was.asked;
  grew = was.grew;
  seat = at;
  gains = gains-both _ _ _ (record {
    holds = was.asked.holds.cell.node.ports;
    quiet = was.asked.quiet;
  }) was.gains gains;
}

-- with all its ports of a growth: its outputs, then its inputs
pub gets-widened : {P : Type 0} (seen : P → BoxPicture) (t : Identity) (g : GrowthForm)
    (c a b d : NodeCell P) (first : ℕ) (places : List ℕ) → a.ports ≡ c.ports → a.seat ≡ c.seat
    → IsGrowing seen t g c a
    → ((k : ℕ) → k < length g.specs → get_or places k 0 ≢ (view c.seat).number)
    → list_any (has_wrong_end (length g.specs)) g.edges ≡ false
    → GetsPorts seen t false first (new_wires (view c.seat).number places g.edges) a b
    → GetsPorts seen t true first (new_wires (view c.seat).number places g.edges) b d
    → HasWidened seen t g c d
gets-widened seen t g c a b d first places ports seat growing other ends outs ins =
    let n : ℕ = (view c.seat).number in let more : List Wire = new_wires n places g.edges in
    let counts = grown-counts n (length g.specs) places [] g.edges other ends in
    let at : (view a.seat).number ≡ n = ap (λ s. (view s).number) seat in
    let after : (view b.seat).number ≡ n = outs.gains.gains.number ∙ at in record {
      growing = ins.grows g c (outs.grows g c growing);
      inputs = let m = ins.gains.more in let o = ap length outs.gains.others in
          let s = ap (λ (x : NodePorts). length x.inputs.items) ports in
          let e = ap (input_count more) after in let k = counts.0 in omega (arith, m, o, s, e, k);
      outputs = let m = outs.gains.more in let o = ap length ins.gains.others in
          let s = ap (λ (x : NodePorts). length x.outputs.items) ports in
          let e = ap (output_count more) at in let k = counts.1 in omega (arith, m, o, s, e, k);
    }
