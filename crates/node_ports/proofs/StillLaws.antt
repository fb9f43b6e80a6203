-- A step of the seat at no port.
use Rattle.node_ports.proofs.Imports.{Chunk, EdgeEnd, Identity, Input, IsSeatOf, MakesStep, NodePorts, NodeSeat, None, Option, Output, Picture, Port, PortsHold, PortsPicture, SameLists, SeatState, Some, Step, StepAnswer, Updated, ap, edges_of, false, has, ports_picture, refl, seat_after, shown, state-made, sym, view, ℕ, ◌∙◌, ◌≡◌}
use Rattle.node_ports.proofs.Shown.{AreUpdated, MovesAt, Waits, differs-at, moved-holds, moved-lists, still-updated}
use Rattle.exec_table.proofs.Hands.{may_learn}
use Rattle.exec_table.proofs.Ends.{edges-made, number-made, same-made}
use Rattle.exec_table.specs.Known.{IsSameAt, is_at}

-- what it leaves of the edges, the ends and the slots, where these are the updated ports after it
pub record StaysSeat (p : NodePorts) (u : Updated) (old new : NodeSeat) : Type 0 where
  pub number : (view new).number ≡ (view old).number
  pub edges : edges_of (view new).state.seen ≡ edges_of (view old).state.seen
  pub unlooked : AreUpdated (ports_picture p old) u (view new).state.unlooked
  pub same : (d : ℕ) → IsSameAt old new d

pub still-seat : {t : Identity} {old new : NodeSeat} {s : Step} {x : Option Chunk} {a : StepAnswer}
    {p : NodePorts} {u : Updated} → IsSeatOf t old → MakesStep t old new s x a
    → may_learn s ≡ false → ((d : ℕ) → is_at d s ≡ false)
    → AreUpdated (ports_picture p old) u (view new).state.unlooked → StaysSeat p u old new
still-seat o m plain nowhere named = record {
  number = number-made o m;
  edges = edges-made o m plain;
  unlooked = named;
  same = λ d. same-made o m d (nowhere d);
}

-- a step after which the same edges are unlooked
pub still-quiet : {t : Identity} {old new : NodeSeat} {s : Step} {x : Option Chunk} {a : StepAnswer}
    {p : NodePorts} → PortsHold (ports_picture p old) → IsSeatOf t old → MakesStep t old new s x a
    → may_learn s ≡ false → ((d : ℕ) → is_at d s ≡ false)
    → (seat_after (view old) s a).unlooked ≡ (view old).state.unlooked
    → StaysSeat p p.updated old new
still-quiet {t} {old} {new} {s} {x} {a} {p} h o m plain nowhere same =
    still-seat o m plain nowhere (still-updated (ports_picture p old) h (view new).state.unlooked
    (λ e q. sym (ap (λ (z : SeatState). has e z.unlooked) (state-made o m) ∙ ap (has e) same) ∙ q))

module _ (p : NodePorts) (u : Updated) (old new : NodeSeat) (h : PortsHold (ports_picture p old))
    (k : StaysSeat p u old new) where
  abbrev pub after : PortsPicture
  after = ports_picture (record p { updated = u }) new

  still-moves : MovesAt (ports_picture p old) after None
  still-moves = record {
    ports = record {
      inputs = refl;
      outputs = refl;
      sources = refl;
      targets = refl;
      number = k.number;
      wires = λ e. ap (λ (z : EdgeEnd). z.wire) (k.same e).end;
    };
    edges = k.edges;
    unlooked = k.unlooked;
    others = λ e ne. let s = k.same e in record {
      flags = s.flags;
      end = s.end;
      slot = s.slot;
    };
    ins = refl;
    outs = refl;
    sound = h.sound;
    needed_len = refl;
    needs = λ i ne. refl;
    differs = λ q ne. differs-at (shown (ports_picture p old)) p.view h.difference q;
    waits = λ q ne. waits q p.view;
    here = λ q e. absurd (let z : None ≡ Some q = e in cc);
  }
    where
      waits : (q : Port) (v : Picture) → Waits q v v
      waits (Input i) v = refl
      waits (Output o) v = refl

  pub still-holds : PortsHold after
  still-holds = moved-holds (ports_picture p old) after None h still-moves

  pub still-lists : SameLists (ports_picture p old) after
  still-lists = moved-lists (ports_picture p old) after None h still-moves
