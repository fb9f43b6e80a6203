-- The peer is told, and the token that was made for it goes with it or is taken back.
use Rattle.node_ports.proofs.Imports.{Identity, MakesStep, NodeSeat, None, SeatState, ap, arith, eq-eqb, false, marked_peer, nothing, price, state-made, true, view, without, ℕ, ◌+◌, ◌∙◌, ◌∷◌, ◌≡◌, [], refl}
use Rattle.node_ports.specs.Peers.{OwesOne, PeerIsTold}
use Rattle.exec_table.proofs.Ends.{number-made, same-made, stage-made}
use Rattle.exec_table.specs.Known.{IsSameAt}
use Rattle.core_laws.specs.Steps.{Marked, telling}
use Rattle.core_laws.specs.declared.types.Step.TheVariants as step

same-both : (a b c : NodeSeat) (d : ℕ) → IsSameAt a b d → IsSameAt b c d → IsSameAt a c d
same-both a b c d h k = record {
  flags = k.flags ∙ h.flags;
  end = k.end ∙ h.end;
  slot = k.slot ∙ h.slot;
}

gone : (e : ℕ) → without e (e ∷ []) ≡ []
gone e = grind (arith, eq-eqb)

module _ {t : Identity} {old mid told : NodeSeat} {e : ℕ} (h : OwesOne t e old)
    (m : MakesStep t old mid step.TokenIn None nothing) (w : Marked)
    (n : MakesStep t mid told (step.Mark e) None (marked_peer w)) where
  state-told : (view told).state
      ≡ telling e (price w) (record (view old).state { tokens = (view old).state.tokens + 1 })
  state-told = state-made m.seat n ∙ ap (telling e (price w)) (state-made h.seat m)

  none-owed : (view told).state.owes ≡ []
  none-owed = ap (λ (z : SeatState). z.owes) state-told ∙ (ap (without e) h.owes ∙ gone e)

  same-told : (d : ℕ) → IsSameAt old told d
  same-told d = same-both old mid told d (same-made h.seat m d refl) (same-made m.seat n d refl)

  pub told-charged : price w ≡ 1 → PeerIsTold t e true old told
  told-charged one = record {
    marks = record {
      ready = mid;
      token = m;
      marked = told;
      answer = w;
      mark = n;
      spent = one;
      goes = refl;
    };
    seat = n.seat;
    turn = record {
      held = ap (λ (z : SeatState). z.held) state-told ∙ h.held;
      owes = none-owed;
      tokens = let a = ap (λ (z : SeatState). z.tokens) state-told in let z = h.tokens in
          omega (arith, a, z, one);
    };
    edges = ap (λ (z : SeatState). z.seen) state-told;
    unlooked = ap (λ (z : SeatState). z.unlooked) state-told;
    number = number-made m.seat n ∙ number-made h.seat m;
    stage = stage-made m.seat n ∙ stage-made h.seat m;
    same = same-told;
  }

  -- where the peer wasn't charged the token is left
  pub told-free : price w ≡ 0 → {new : NodeSeat} → MakesStep t told new step.TokenOut None nothing
      → PeerIsTold t e false old new
  told-free free {new} r = let out = state-made n.seat r in record {
    marks = record {
      ready = mid;
      token = m;
      marked = told;
      answer = w;
      mark = n;
      spent = free;
      goes = r;
    };
    seat = r.seat;
    turn = record {
      held = ap (λ (z : SeatState). z.held) out ∙ (ap (λ (z : SeatState). z.held) state-told ∙
          h.held);
      owes = ap (λ (z : SeatState). z.owes) out ∙ none-owed;
      tokens = let a = ap (λ (z : SeatState). z.tokens) state-told in
          let b = ap (λ (z : SeatState). z.tokens) out in let z = h.tokens in
          omega (arith, a, b, z, free);
    };
    edges = ap (λ (z : SeatState). z.seen) out ∙ ap (λ (z : SeatState). z.seen) state-told;
    unlooked = ap (λ (z : SeatState). z.unlooked) out
        ∙ ap (λ (z : SeatState). z.unlooked) state-told;
    number = number-made n.seat r ∙ (number-made m.seat n ∙ number-made h.seat m);
    stage = stage-made n.seat r ∙ (stage-made m.seat n ∙ stage-made h.seat m);
    same = λ d. same-both old told new d (same-told d) (same-made n.seat r d refl);
  }
